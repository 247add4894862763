-- Definitions: what a verdict has to say of a well-formed plan under a setting of all its letters, in document 01's words ("Fixed outcomes
-- and the screen"). To be believed, for the verdict and the library only.
use Rattle.std.specs.Prelude.{◌≡◌, ℕ, ◌≤◌, Some, None, Ok, Err, length}
use Rattle.network.specs.Mask.{bit}
use Rattle.network.specs.Network.{slots_in}
use Rattle.network.specs.Fixed.{Least, Schedulable}
use Rattle.plan.specs.declared.Plan.{Plan}
use Rattle.plan.specs.Plan.{network_of}
use Rattle.verdict.specs.Answers.{Verdict}

-- the least schedule in eight slots, unused entries zero; or there is no schedule (and all eight are zero: `saying`)
abbrev pub Says : Plan → ℕ → Verdict → Type 0
Says p m (Ok (Some slots)) =
    Least (network_of p) (bit m) (slots_in slots) × (length slots ≡ 8) × ((x : ℕ) → p.points ≤ x → slots_in slots x ≡ 0)
Says p m (Ok None) = Schedulable (network_of p) (bit m) → ⊥
Says p m (Err r) = ⊥
