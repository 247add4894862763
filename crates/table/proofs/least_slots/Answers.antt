-- `least_slots`: the settings passed have no earlier slots. Only the checker need believe this file.
use mathlib.Core.Path.{sym, ap, ◌∙◌, subst}
use Prim.Native.Nat.{ℕ, ◌≤◌, ◌<◌}
use native.Mathlib.Omega.{arith}
use native.Mathlib.Nat.{min-le_left, min-le_right}
use lib.Bits.{or_lt}
use lib.ListN.{get_or}
use Rattle.table.specs.Table.{Within, unknown, entry}
use Rattle.table.proofs.TableLaws.{within_none, go_on, Before, before_next, before_all, BelowAt, below_lesser, below_row, soonest_all}
use borrow.Author.Rules.{rules}
use Rattle.table.proofs.least_slots.Goals as goal
use Rattle.table.proofs.least_slots.Goals.{After-lesser_slots-next, Else-u-eq0}

further : (c : Else-u-eq0) → Within (unknown c.args.v.now)
    c.next_inside-u.result × (c.loop-u.u < c.next_inside-u.result)
further c =
    go_on (unknown c.args.v.now)
    c.loop-u.invariant.0 c.loop-u.u
    c.loop-u.invariant.1 _ c.next_inside-u.ensures c.if-u-eq0.false

-- the settings passed before, and the one at hand
passed : (c : After-lesser_slots-next) →
    Before (BelowAt c.args.v.now c.args.table.now
    c.lesser_slots-next.result) (unknown c.args.v.now) c.loop-u.u
passed c e h lt =
    below_lesser c.args.v.now c.args.table.now
    c.loop-u.least c.lesser_slots-next.result e
    (λ x less. rw (c.lesser_slots-next.ensures x less) (min-le_left _ _)) (c.loop-u.invariant.2 e h lt)

here : (c : After-lesser_slots-next) → BelowAt c.args.v.now
    c.args.table.now c.lesser_slots-next.result c.loop-u.u
here c =
    below_row c.args.v.now c.args.table.now
    c.lesser_slots-next.result c.loop-u.u
    (λ x less. subst (λ (m : ℕ). get_or c.lesser_slots-next.result x 0 ≤ m)
    (c.row_of.ensures x less ∙ ap (λ (s : ℕ). entry c.args.table.now s x)
    c.set_to.ensures) (rw (c.lesser_slots-next.ensures x less) (min-le_right _ _)))

pub loop-u-init : goal.loop-u-init
loop-u-init c = (or_lt 8 c.args.v.now.unheard c.args.v.now.undecided (search rules) (search rules), within_none _, λ e h lt. absurd (omega arith))

pub returns-then-u-eq0 : goal.returns-then-u-eq0
returns-then-u-eq0 c =
    let v = c.args.v.now in
    soonest_all v c.args.table.now _
    (before_all (BelowAt v c.args.table.now
    c.lesser_slots-next.result) (unknown v) c.loop-u.invariant.0
    c.loop-u.u c.loop-u.invariant.1
    (passed (goal.at.returns-then-u-eq0 c).After-lesser_slots-next) (here (goal.at.returns-then-u-eq0 c).After-lesser_slots-next) (sym c.next_inside-u.ensures ∙ c.if-u-eq0.true))

pub loop-u-smaller : goal.loop-u-smaller
loop-u-smaller c = let r = further c in let lt = r.1 in omega arith

pub loop-u-preserved : goal.loop-u-preserved
loop-u-preserved c =
    let v = c.args.v.now in
    let next = c.next_inside-u.ensures in (
      c.loop-u.invariant.0,
      (further c).0,
      subst (Before (BelowAt v c.args.table.now
          c.lesser_slots-next.result) (unknown v)) (sym next)
          (before_next (BelowAt v c.args.table.now
          c.lesser_slots-next.result) (unknown v) c.loop-u.invariant.0
          c.loop-u.u c.loop-u.invariant.1
          (passed (goal.at.loop-u-preserved c).After-lesser_slots-next) (here (goal.at.loop-u-preserved c).After-lesser_slots-next) (λ z. c.if-u-eq0.false (next ∙ z))),
    )
