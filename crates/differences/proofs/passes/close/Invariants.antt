-- `close`: the passes over the points so far. Only the checker need believe this file.
use mathlib.Core.Path.{◌≡◌}
use Prim.Native.Nat.{◌≤◌}
use Rattle.differences.specs.Tabling.{passes}
use Rattle.differences.proofs.passes.close.Given as goal

abbrev pub invariant-loop-k : goal.invariant-loop-k
invariant-loop-k l = (l.k ≤ l.n) × (l.tight ≡ passes l.k l.initial.tight)
