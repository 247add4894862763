-- The invariant: no letter passed has the point. Only the checker need believe this file.
use mathlib.Core.Path.{◌≡◌}
use mathlib.Core.Bool.{false}
use Prim.Native.Nat.{◌≤◌}
use Rattle.judge.specs.Judge.{taken_before}
use Rattle.judge.proofs.taken_before.Given as goal

abbrev pub invariant-loop-k : goal.invariant-loop-k
invariant-loop-k l = (l.k ≤ l.i) × (taken_before l.plan l.k l.point ≡ false)
