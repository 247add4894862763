-- The invariant: the kind is the one asked for, and every byte passed stands there. Only the checker need believe this file.
use mathlib.Core.Path.{◌≡◌}
use mathlib.Core.Bool.{true}
use Prim.Native.Nat.{◌≤◌}
use lib.Dec.{ltb, eqb}
use Rattle.network.specs.Mask.{all_below}
use Rattle.frame.specs.ReadFrame.{byte_at}
use Rattle.frame.proofs.reading.is_whole.Given as goal

abbrev pub invariant-loop-k : goal.invariant-loop-k
invariant-loop-k l = (l.k ≤ l.n) × (eqb (byte_at l.s 0) l.kind ≡ true) × (all_below l.k (λ k'. ltb (byte_at l.s k') 256) ≡ true)
