-- `numbered`: each turn takes the lowest member off the set. Only the checker need believe this file.
use mathlib.Core.Path.{◌≡◌}
use Prim.Native.Nat.{◌+◌, ◌≤◌}
use Rattle.network.specs.Mask.{bit, submask}
use Rattle.masks.proofs.numbered.Given as goal

abbrev pub invariant-loop-rest : goal.invariant-loop-rest
invariant-loop-rest l = (l.out + l.rest ≤ l.set) × (submask 8 (bit l.set) l.k ≡ l.out + submask 8 (bit l.rest) l.digits)

abbrev pub decreases-loop-rest : goal.decreases-loop-rest
decreases-loop-rest l = l.rest
