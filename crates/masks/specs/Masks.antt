-- Definitions: the subset test of masks. It says that each bit of a is a bit of b: `subset_is` of network/proofs/MachineLaws.antt. Not to be
-- believed: only theorems and inner contracts use it.
use Rattle.std.specs.Prelude.{Bool, ℕ, eqb}
use Rattle.std.specs.Int.Bits.{bit_and}

abbrev pub inside : ℕ → ℕ → Bool
inside a b = eqb (bit_and a b) a
