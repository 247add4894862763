-- The invariant: what was stored are the bytes of the entries passed. Only the checker need believe this file.
use mathlib.Core.Path.{◌≡◌, refl}
use Prim.Native.Nat.{◌+◌, ◌*◌}
use native.Mathlib.Omega.{arith}
use borrow.Author.Rules.{rules}
use Rattle.network.specs.Mask.{join_below}
use Rattle.plan.specs.Plan.{constraint_at}
use Rattle.frame.proofs.WritingLaws.{join_next}
use Rattle.records.specs.Records.{constraint_bytes}
use Rattle.records.proofs.plan_record.put_constraints.Goals as goal

pub loop-j-init : goal.loop-j-init
unfolding join_below
loop-j-init c = search rules

pub loop-j-preserved : goal.loop-j-preserved
loop-j-preserved c =
    let a = c.args in
    let l = c.loop-j in
    join_next (λ k. constraint_bytes (constraint_at a.p k)) 6 (λ k. refl) a.out.now 16 (16 + 6 * l.j) l.j refl (rw l.invariant at c.put_constraint.ensures)

pub returns : goal.returns
returns c =
    let all : 64 ≡ c.loop-j.j = omega arith in
    rw all c.loop-j.invariant
