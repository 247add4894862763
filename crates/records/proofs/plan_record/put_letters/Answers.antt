-- The invariant: what was stored are the bytes of the entries passed. Only the checker need believe this file.
use mathlib.Core.Path.{◌≡◌, refl}
use Prim.Native.Nat.{◌+◌, ◌*◌}
use native.Mathlib.Omega.{arith}
use borrow.Author.Rules.{rules}
use Rattle.network.specs.Mask.{join_below}
use Rattle.plan.specs.Plan.{letter_at}
use Rattle.frame.proofs.WritingLaws.{join_next}
use Rattle.records.specs.Records.{letter_bytes}
use Rattle.records.proofs.plan_record.put_letters.Goals as goal

pub loop-i-init : goal.loop-i-init
unfolding join_below
loop-i-init c = search rules

pub loop-i-preserved : goal.loop-i-preserved
loop-i-preserved c =
    let a = c.args in
    let l = c.loop-i in
    join_next (λ k. letter_bytes (letter_at a.p k)) 2 (λ k. refl) a.out.now 4 (4 + 2 * l.i) l.i refl (rw l.invariant at c.put_letter.ensures)

pub returns : goal.returns
returns c =
    let all : 6 ≡ c.loop-i.i = omega arith in
    rw all c.loop-i.invariant
