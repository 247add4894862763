-- The invariant: the entries passed are fine. Only the checker need believe this file.
use mathlib.Core.Path.{◌≡◌}
use mathlib.Core.Bool.{true}
use Prim.Native.Nat.{◌≤◌}
use Rattle.network.specs.Mask.{all_below}
use Rattle.judge.specs.Judge.{constraint_entry}
use Rattle.judge.proofs.constraints_fine.Given as goal

abbrev pub invariant-loop-j : goal.invariant-loop-j
invariant-loop-j l = (l.j ≤ 64) × (all_below l.j (constraint_entry l.plan) ≡ true)
