-- Definitions 6 to 9 of the paper (document 000): strategy, viable, history, dynamic, consistent. Document 01's two readings: times are
-- whole slots from 0 to the horizon, both included; in Definition 6 "every condition scenario" ranges over the set of condition scenarios.
-- To be believed, for demand 1, 2, 3.
use Rattle.std.specs.Prelude.{◌≡◌, ◌↔◌, Bool, true, ℕ, ◌≤◌, ◌<◌}
use Rattle.network.specs.Mask.{bit}
use Rattle.network.specs.Network.{Network, Schedule, condition, decision, combined, keeps}

-- cs is in the set of condition scenarios: a mask inside the conditions
abbrev pub ConditionScenario : Network → ℕ → Type 0
ConditionScenario net cs = (l : ℕ) → bit cs l ≡ true → condition net l ≡ true

-- Definition 6. A temporal strategy gives each condition scenario a schedule, a decision strategy gives it a decision scenario:
-- a mask, whose bits at the decisions count.
pub record Strategy : Type 0 where
  pub time : ℕ → Schedule
  pub choice : ℕ → ℕ

-- .. and is viable where each schedule is within the slots and feasible for the projection over cs ∪ ds
pub record Viable (net : Network) (σ : Strategy) : Type 0 where
  pub within : (cs : ℕ) → ConditionScenario net cs → (x : ℕ) → x < net.points → σ.time cs x ≤ net.horizon
  pub keeping : (cs : ℕ) → ConditionScenario net cs → keeps net (σ.time cs) (combined net cs (σ.choice cs)) ≡ true

-- Definition 7. The pair (l, v) is in the history of cs before slot t.
pub record InHistory (net : Network) (σ : Strategy) (t cs l : ℕ) (v : Bool) : Type 0 where
  pub contingent : condition net l ≡ true
  pub before : σ.time cs (net.disclosing l) < t
  pub valued : bit cs l ≡ v

-- the two histories before slot t are equal: they have the same pairs
abbrev pub SameHistory : Network → Strategy → ℕ → ℕ → ℕ → Type 0
SameHistory net σ t cs cs' = (l : ℕ) (v : Bool) → InHistory net σ t cs l v ↔ InHistory net σ t cs' l v

-- Definition 8. Of the slot of each point, and of the value of each decision in the slot of its point.
pub record Dynamic (net : Network) (σ : Strategy) : Type 0 where
  pub times :
      (cs cs' : ℕ) → ConditionScenario net cs → ConditionScenario net cs' → (x : ℕ) → x < net.points →
      SameHistory net σ (σ.time cs x) cs cs' → σ.time cs' x ≡ σ.time cs x
  pub choices :
      (cs cs' : ℕ) → ConditionScenario net cs → ConditionScenario net cs' → (l : ℕ) → decision net l ≡ true →
      SameHistory net σ (σ.time cs (net.disclosing l)) cs cs' → bit (σ.choice cs) l ≡ bit (σ.choice cs') l

-- Definition 9. Some strategy is dynamic and viable.
pub record DynamicallyConsistent (net : Network) : Type 0 where
  pub strategy : Strategy
  pub viable : Viable net strategy
  pub dynamic : Dynamic net strategy
