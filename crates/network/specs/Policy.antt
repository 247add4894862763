-- Definitions: a crew's policy, without trees or strategies: what it does in a slot depends on the slot and on what it heard from earlier
-- slots only. So each decision is settled with its point and each outcome heard only in a later slot. To be believed, for demand 3.
use Rattle.std.specs.Prelude.{◌≡◌, List, [], ◌∷◌, Bool, true, ◌&&◌, ℕ, zero, suc, ◌<◌}
use Rattle.network.specs.Mask.{bit, mask, count, first_below}
use Rattle.network.specs.Network.{Network, Schedule, condition_at, decision, combined, keeps}
use Rattle.network.specs.Strategy.{ConditionScenario}

-- what a crew does in one slot: the points that it performs, perhaps none, and its choices
pub record Action : Type 0 where
  pub points : ℕ
  pub choices : ℕ

-- what it hears from one slot: the conditions that its points disclosed, and those of them that are true
pub record Observation : Type 0 where
  pub conditions : ℕ
  pub true_ones : ℕ

-- what it does in a slot, by all that it heard from each earlier slot, the latest first
abbrev pub Policy : Type 0
Policy = ℕ → List Observation → Action

-- what an action discloses where the world sets the conditions to cs
unfoldable pub observe : Network → Action → ℕ → Observation
observe net a cs =
    record {
      conditions = mask net.letters (condition_at net a.points);
      true_ones = mask net.letters (λ l. condition_at net a.points l && bit cs l);
    }

-- a policy played against cs: what is heard from the slots before u, and what is done in slot u
unfoldable pub heard_before : Network → Policy → ℕ → ℕ → List Observation
heard_before net π cs zero = []
heard_before net π cs (suc u) = observe net (π u (heard_before net π cs u)) cs ∷ heard_before net π cs u

abbrev pub action_in : Network → Policy → ℕ → ℕ → Action
action_in net π cs u = π u (heard_before net π cs u)

-- whether point x is performed in slot u; the slot, up to the horizon, in which it is; the decisions as each is settled with its point
abbrev pub performs_in : Network → Policy → ℕ → ℕ → ℕ → Bool
performs_in net π cs x u = bit (action_in net π cs u).points x

abbrev pub slot_by : Network → Policy → ℕ → Schedule
slot_by net π cs x = first_below (suc net.horizon) (performs_in net π cs x)

abbrev pub choices_by : Network → Policy → ℕ → ℕ
choices_by net π cs =
    mask net.letters (λ l. decision net l && bit (action_in net π cs (slot_by net π cs (net.disclosing l))).choices l)

-- against cs the crew performs each point exactly once within the horizon and keeps every relevant constraint
pub record Succeeds (net : Network) (π : Policy) (cs : ℕ) : Type 0 where
  pub once : (x : ℕ) → x < net.points → count (suc net.horizon) (performs_in net π cs x) ≡ 1
  pub keeping : keeps net (slot_by net π cs) (combined net cs (choices_by net π cs)) ≡ true

-- .. whichever outcomes come
abbrev pub SucceedsAlways : Network → Policy → Type 0
SucceedsAlways net π = (cs : ℕ) → ConditionScenario net cs → Succeeds net π cs
