-- The invariant: the entries passed are fine. Only the checker need believe this file.
use mathlib.Core.Path.{◌≡◌}
use mathlib.Core.Bool.{true}
use Prim.Native.Nat.{◌≤◌}
use Rattle.network.specs.Mask.{all_below}
use Rattle.judge.specs.Judge.{letter_entry}
use Rattle.judge.proofs.letters_fine.Given as goal

abbrev pub invariant-loop-i : goal.invariant-loop-i
invariant-loop-i l = (l.i ≤ 6) × (all_below l.i (letter_entry l.plan) ≡ true)
