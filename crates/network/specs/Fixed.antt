-- Document 01, "Fixed outcomes and the screen": schedules under one setting of all letters. To be believed, for demand 1.
use Rattle.std.specs.Prelude.{◌≡◌, true, ℕ, ◌≤◌, ◌<◌}
use Rattle.network.specs.Mask.{bit}
use Rattle.network.specs.Network.{Network, Scenario, Schedule, keeps}

-- a schedule within slots 0 to the horizon that keeps the constraints whose labels hold in the scenario
pub record ScheduleFor (net : Network) (s : Scenario) (ψ : Schedule) : Type 0 where
  pub within : (x : ℕ) → x < net.points → ψ x ≤ net.horizon
  pub kept : keeps net ψ s ≡ true

-- the least schedule (document 01's term): each point is as early in it as in any
pub record Least (net : Network) (s : Scenario) (ψ : Schedule) : Type 0 where
  pub schedule : ScheduleFor net s ψ
  pub earliest : (φ : Schedule) → ScheduleFor net s φ → (x : ℕ) → x < net.points → ψ x ≤ φ x

-- some schedule is one
pub record Schedulable (net : Network) (s : Scenario) : Type 0 where
  pub slots : Schedule
  pub schedule : ScheduleFor net s slots

-- A mask sets all letters (document 01's word: a setting): those that it has are true, the others false. It has no letter that the network
-- lacks.
abbrev pub Setting : Network → ℕ → Type 0
Setting net m = (l : ℕ) → bit m l ≡ true → l < net.letters

-- passes the screen (document 01's word): every setting of all letters has a schedule
abbrev pub PassesScreen : Network → Type 0
PassesScreen net = (m : ℕ) → Setting net m → Schedulable net (bit m)
