-- `unconstrained`: the rows passed, and behind them rows of the horizon. Only the checker need believe this file.
use mathlib.Core.Path.{◌≡◌, ap, ◌∙◌}
use mathlib.Core.List.{List, []}
use Prim.Native.Nat.{ℕ, ◌<◌}
use native.Mathlib.Omega.{arith}
use borrow.Author.Rules.{rules}
use lib.ListN.{set}
use Rattle.network.specs.Limits.{bias}
use Rattle.plan.proofs.SliceLaws.{filled_to, fill_start, fill_next, fill_end}
use Rattle.differences.specs.Tabling.{unconstrained}
use Rattle.differences.proofs.ArrayLaws.{not_filled}
use Rattle.differences.proofs.passes.unconstrained.Invariants.{row, first_row}
use Rattle.differences.proofs.passes.unconstrained.Goals as goal

pub loop-x-init : goal.loop-x-init
loop-x-init c = (omega arith, fill_start (first_row c.args.horizon) 8 (row c.args.horizon))

pub loop-x-preserved : goal.loop-x-preserved
loop-x-preserved c =
    let h = c.args.horizon in
    let l = c.loop-x in
    let lt : l.x < 8 = search rules in
    let before = not_filled (first_row h) 8 (row h) l.x l.limits [] lt l.invariant.1 in
    (search rules, fill_next (first_row h) 8 (row h) l.x l.limits _ lt l.invariant.1 (ap (λ (r : List ℕ). set r l.x bias) before))

pub returns : goal.returns
unfolding unconstrained
returns c =
    let h = c.args.horizon in
    let l = c.loop-x in
    let all : l.x ≡ 8 = omega arith in
    l.invariant.1 ∙ ap (filled_to (first_row h) 8 (row h)) all ∙ fill_end (first_row h) 8 (row h)
