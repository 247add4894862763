-- `unconstrained`: the rows passed, and behind them rows of the horizon. Only the checker need believe this file.
use mathlib.Core.Path.{◌≡◌}
use mathlib.Core.List.{List}
use Prim.Native.Nat.{ℕ, ◌+◌, ◌≤◌}
use lib.ListN.{set, replicate}
use Rattle.network.specs.Limits.{bias}
use Rattle.plan.proofs.SliceLaws.{filled_to}
use Rattle.differences.proofs.passes.unconstrained.Given as goal

-- the row of x, and before it is made
abbrev pub row : ℕ → ℕ → List ℕ
row horizon x = set (replicate 8 (bias + horizon)) x bias

abbrev pub first_row : ℕ → List ℕ
first_row horizon = replicate 8 (bias + horizon)

abbrev pub invariant-loop-x : goal.invariant-loop-x
invariant-loop-x l = (l.x ≤ 8) × (l.limits ≡ filled_to (first_row l.horizon) 8 (row l.horizon) l.x)
