-- Definitions: what the verdict and the screen answer. Computed: pinned by `says` of verdict/proofs/VerdictTheorems.antt.
use Rattle.std.specs.Prelude.{Bool, true, false, cond, List, ℕ, zero, suc, ◌*◌, ◌^◌, leb, ltb, replicate}
use Rattle.network.specs.Mask.{bit, all_below}
use Rattle.network.specs.Network.{Network, Scenario, slots_in}
use Rattle.network.specs.Raise.{raised}
use Rattle.plan.specs.declared.Plan.{Plan}
use Rattle.plan.specs.declared.Refusal.TheVariants as refusal
use Rattle.plan.specs.Answer.{Answer}
use Rattle.plan.specs.Faults.{unless, first, answered}
use Rattle.plan.specs.Plan.{network_of}
use Rattle.judge.specs.Judge.{plan_fault}
use Rattle.verdict.specs.Answers.{none, Fixed}

-- ---- the least schedule

-- n rounds of the raise
unfoldable pub climbed : ℕ → ℕ → Network → Scenario → List ℕ → List ℕ
climbed zero cap net s slots = slots
climbed (suc n) cap net s slots = climbed n cap net s (raised cap net s slots)

-- The least fixpoint of the raise, from all zeros: each round before it moves one of eight slots, and none beyond the cap.
unfoldable pub least_slots : ℕ → Network → Scenario → List ℕ
least_slots cap net s = climbed (8 * cap) cap net s (replicate 8 0)

-- no point stands past the horizon
unfoldable pub within_horizon : Network → List ℕ → Bool
within_horizon net slots = all_below net.points (λ x. leb (slots_in slots x) net.horizon)

unfoldable pub fixed : Network → List ℕ → Fixed
fixed net slots = cond (within_horizon net slots) (record { scheduled = true; slots = slots }) none

unfoldable pub verdict_of : Network → Scenario → Fixed
verdict_of net s = fixed net (least_slots (suc net.horizon) net s)

-- ---- the verdict: 2, 3, 4, 8 (a letter that the plan lacks)

unfoldable pub verdict_fault : Plan → ℕ → ℕ
verdict_fault p values = first (plan_fault p) (unless (ltb values (2 ^ p.letters)) refusal.Mask)

unfoldable pub least_schedule : Plan → ℕ → Answer Fixed
least_schedule p values = answered none (verdict_fault p values) (verdict_of (network_of p) (bit values))

-- ---- the screen: 2, 3, 4

-- every setting of all letters has a schedule
unfoldable pub passes : Plan → Bool
passes p = all_below (2 ^ p.letters) (λ m. (verdict_of (network_of p) (bit m)).scheduled)

unfoldable pub screened : Plan → Answer Bool
screened p = answered false (plan_fault p) (passes p)
