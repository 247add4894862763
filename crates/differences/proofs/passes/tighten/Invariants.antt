-- `tighten`: the rows passed, and rows of zeros behind them. Only the checker need believe this file.
use mathlib.Core.Path.{◌≡◌}
use mathlib.Core.List.{List}
use Prim.Native.Nat.{ℕ, ◌+◌, ◌-◌, min, ◌≤◌}
use lib.ListN.{replicate}
use Rattle.network.specs.Limits.{bias, limit_at}
use Rattle.plan.specs.Plan.{listed}
use Rattle.plan.proofs.SliceLaws.{filled_to}
use Rattle.differences.proofs.passes.tighten.Given as goal

-- row x behind the pass
abbrev pub row : List (List ℕ) → ℕ → ℕ → List ℕ
row limits k x = listed 8 (λ y. min (limit_at limits x y) (limit_at limits x k + limit_at limits k y - bias))

abbrev pub invariant-loop-x : goal.invariant-loop-x
invariant-loop-x l = (l.x ≤ 8) × (l.tight ≡ filled_to (replicate 8 0) 8 (row l.limits l.k) l.x)
