-- The invariant: what was stored are the bytes of the steps passed. Only the checker need believe this file.
use borrow.Author.Rules.{rules}
use mathlib.Core.Path.{◌≡◌, refl}
use Prim.Native.Nat.{◌*◌}
use native.Mathlib.Omega.{arith}
use lib.ListN.{get_or}
use Rattle.network.specs.Mask.{join_below}
use Rattle.frame.proofs.WritingLaws.{join_next}
use Rattle.following.specs.Following.{zero_step}
use Rattle.answers.specs.Steps.{step_bytes}
use Rattle.answers.proofs.steps.put_steps.Goals as goal

pub loop-i-init : goal.loop-i-init
unfolding join_below
loop-i-init c = search rules

pub loop-i-preserved : goal.loop-i-preserved
loop-i-preserved c =
    let a = c.args in
    let l = c.loop-i in
    join_next (λ k. step_bytes (get_or a.followed.steps k zero_step)) 4 (λ k. refl) a.out.now 0 (4 * l.i) l.i (omega arith)
    (rw l.invariant at c.put_step.ensures)

pub returns : goal.returns
returns c =
    let all : 8 ≡ c.loop-i.i = omega arith in
    rw all c.loop-i.invariant
