-- Definitions: what a table of differences has to say of a well-formed plan under a setting of all its letters, in card 2's words. To be
-- believed, for demand 1.
use Rattle.std.specs.Prelude.{◌≡◌, ◌⊎◌, List, ℕ, ◌≤◌, ◌<◌, ℤ, length, get_or, replicate, Option, Some, None, Result, Ok, Err}
use Rattle.network.specs.Mask.{bit}
use Rattle.network.specs.Network.{Network, Scenario}
use Rattle.network.specs.Fixed.{Schedulable}
use Rattle.network.specs.Differences.{Largest}
use Rattle.plan.specs.declared.Plan.{Plan}
use Rattle.plan.specs.declared.Refusal.{Refusal}
use Rattle.plan.specs.Plan.{signed, network_of}
use Rattle.differences.specs.declared.Row.{Row}
use Rattle.differences.specs.declared.DifferenceTable.{DifferenceTable}
use Rattle.differences.specs.Answers.{zero_row, rows_of}

-- the 16 bits at row x, column y; 0 past the table
abbrev pub bits_at : List Row → ℕ → ℕ → ℕ
bits_at rows x y = get_or (get_or rows x zero_row).to y 0

-- the entry at row x, column y: the number that its bits are in two's complement
abbrev pub entry : List Row → ℕ → ℕ → ℤ
entry rows x y = signed (bits_at rows x y)

-- Eight rows of eight entries of 16 bits: at row X, column Y the largest difference where both points are used, zero where one is not. There
-- is a schedule.
pub record Tells (net : Network) (s : Scenario) (rows : List Row) : Type 0 where
  pub some_schedule : Schedulable net s
  pub eight_rows : length rows ≡ 8
  pub of_eight : (x : ℕ) → x < 8 → length (get_or rows x zero_row).to ≡ 8
  pub of_16_bits : (x y : ℕ) → bits_at rows x y < 65536
  pub largest : (x y : ℕ) → x < net.points → y < net.points → Largest net s x y (entry rows x y)
  pub unused : (x y : ℕ) → (net.points ≤ x) ⊎ (net.points ≤ y) → bits_at rows x y ≡ 0

-- such a table; or there is no schedule and all entries are zero
abbrev pub Says : Plan → ℕ → Result (Option DifferenceTable) Refusal → Type 0
Says p m (Ok (Some t)) = Tells (network_of p) (bit m) t.rows
Says p m (Ok None) = (Schedulable (network_of p) (bit m) → ⊥) × (rows_of (Ok None) ≡ replicate 8 zero_row)
Says p m (Err r) = ⊥
