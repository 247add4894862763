-- `slots_after`: the slots passed are the new ones. Only the checker need believe this file.
use mathlib.Core.Path.{◌≡◌}
use native.Mathlib.Omega.{arith}
use borrow.Author.Rules.{rules}
use Rattle.game.proofs.CodeLaws.{fill_start, fill_put, fill_skip, fill_end}
use Rattle.game.proofs.slots_after.Goals as goal
use Rattle.game.proofs.slots_after.Goals.{then-has, else-has}

pub loop-x-init : goal.loop-x-init
loop-x-init c = fill_start (search rules)

pub loop-x-preserved : goal.loop-x-preserved
loop-x-preserved c =
    let l = c.loop-x in
    elim c.if-has.branch [
      | then-has w ↦ rw w.out-is (fill_put _ l.invariant (omega arith) (rw (← c.has.ensures, w.if-has.true)))
      | else-has w ↦ rw w.out-is (fill_skip l.invariant (omega arith) (rw (← c.has.ensures, w.if-has.false)))
    ]

pub returns : goal.returns
returns c =
    let l = c.loop-x in
    let w = l.invariant.within in
    let e : l.x ≡ 8 = omega arith in
    fill_end (rw e at l.invariant)
