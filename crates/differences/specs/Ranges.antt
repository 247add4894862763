-- Definitions: between which numbers limits stay while they are tightened, so that 32 bits hold every sum. Not to be believed: only theorems
-- and inner contracts use it.
use Rattle.std.specs.Prelude.{List, ℕ, ◌+◌, ◌≤◌, ◌<◌, get_or}
use Rattle.network.specs.Limits.{bias, limit_at}

-- `first` and each entry of the row can be added, and the bias taken off
abbrev pub Joins : ℕ → List ℕ → Type 0
Joins first via = (y : ℕ) → y < 8 → (bias ≤ first + get_or via y 0) × (first + get_or via y 0 < 4294967296)

-- how far the least number of 16 bits in two's complement is below zero
abbrev pub half_range : ℕ
half_range = 32768

-- each limit is from -n to 63
abbrev pub InRange : ℕ → List (List ℕ) → Type 0
InRange n t = (x y : ℕ) → x < 8 → y < 8 → (bias ≤ limit_at t x y + n) × (limit_at t x y ≤ bias + 63)
