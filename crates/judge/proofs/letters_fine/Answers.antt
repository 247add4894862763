-- The invariant: the entries passed are fine. Only the checker need believe this file.
use mathlib.Core.Path.{ap, ◌≡◌, sym}
use mathlib.Core.Bool.{not}
use native.Mathlib.Omega.{arith}
use borrow.Author.Rules.{rules}
use Rattle.network.specs.Mask.{all_below}
use Rattle.network.proofs.Booleans.{denied, granted}
use Rattle.network.proofs.BelowLaws.{all_next, all_fails}
use Rattle.judge.specs.Judge.{letters_fine}
use Rattle.judge.proofs.letters_fine.Goals as goal

pub loop-i-init : goal.loop-i-init
unfolding all_below
loop-i-init c = search rules

pub returns-then-not-letter_entry : goal.returns-then-not-letter_entry
unfolding letters_fine
returns-then-not-letter_entry c =
    let l = c.loop-i in
    sym (all_fails _ 6 l.i (search rules) (denied c.letter_entry.ensures (ap not c.if-not-letter_entry.true)))

pub loop-i-preserved : goal.loop-i-preserved
loop-i-preserved c =
    let l = c.loop-i in
    (search rules, all_next _ l.i l.invariant.1 (granted c.letter_entry.ensures (ap not c.if-not-letter_entry.false)))

pub returns : goal.returns
unfolding letters_fine
returns c =
    let l = c.loop-i in
    let e : 6 ≡ l.i = omega arith in
    rw e (sym l.invariant.1)
