-- The invariant: what was stored is the text of the entries passed. Only the checker need believe this file.
use mathlib.Core.Path.{◌≡◌, refl}
use Prim.Native.Nat.{◌+◌, ◌*◌}
use native.Mathlib.Omega.{arith}
use borrow.Author.Rules.{rules}
use Rattle.network.specs.Mask.{join_below}
use Rattle.frame.proofs.WritingLaws.{join_next}
use Rattle.plan_text.proofs.WriteLaws.{letter_text_lem}
use Rattle.plan_text.proofs.writing.put_letters.Goals as goal

pub loop-i-init : goal.loop-i-init
unfolding join_below
loop-i-init c = search rules

pub loop-i-preserved : goal.loop-i-preserved
loop-i-preserved c =
    let a = c.args in
    let l = c.loop-i in
    join_next (letter_text_lem a.p) 9 (λ k. refl) a.out.now a.from (a.from + 9 * l.i) l.i refl
    (rw (c.letter_at.ensures, l.invariant) at c.put_letter.ensures)

pub returns : goal.returns
returns c =
    let l = c.loop-i in
    let e : c.args.p.letters ≡ l.i = omega arith in
    rw e l.invariant
