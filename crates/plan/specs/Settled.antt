-- Definitions: the decisions that points disclose, as a mask of the six letters that a plan record has room for. Computed: pinned by
-- `settled_by_is` of plan/proofs/OutcomeLaws.antt.
use Rattle.std.specs.Prelude.{Bool, true, false, ℕ}
use Rattle.network.specs.Mask.{mask}
use Rattle.network.specs.Network.{Network, condition, decision, decision_at}
use Rattle.plan.specs.declared.Plan.{Plan}
use Rattle.plan.specs.Plan.{network_of}

-- the decisions, or else the conditions
abbrev pub of_kind : Network → Bool → ℕ → Bool
of_kind net true = decision net
of_kind net false = condition net

-- the decisions that these points disclose, set by a move
abbrev pub settled_by : Plan → ℕ → ℕ
settled_by p points = mask 6 (decision_at (network_of p) points)
