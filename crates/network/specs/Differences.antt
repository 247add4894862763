-- Card 2: differences of times over all schedules under one setting of all letters. To be believed, for the library and card 2 only.
use Rattle.std.specs.Prelude.{◌≡◌, ℕ, ◌<◌, ℤ, ◌≤ℤ◌}
use Rattle.std.proofs.Math.IntN.{sub_ℕ}
use Rattle.network.specs.Network.{Network, Scenario, Schedule}
use Rattle.network.specs.Fixed.{ScheduleFor}

-- time of Y minus time of X
abbrev pub difference : Schedule → ℕ → ℕ → ℤ
difference ψ x y = sub_ℕ (ψ y) (ψ x)

-- d is the largest value that time of Y minus time of X takes in any schedule within the horizon: none exceeds it, and one has it
pub record Largest (net : Network) (s : Scenario) (x y : ℕ) (d : ℤ) : Type 0 where
  pub bounds : (ψ : Schedule) → ScheduleFor net s ψ → difference ψ x y ≤ℤ d
  pub slots : Schedule
  pub schedule : ScheduleFor net s slots
  pub attained : difference slots x y ≡ d

-- X is forced strictly before Y (the card's words): it is in every schedule
abbrev pub ForcedBefore : Network → Scenario → ℕ → ℕ → Type 0
ForcedBefore net s x y = (ψ : Schedule) → ScheduleFor net s ψ → ψ x < ψ y
