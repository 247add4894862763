-- Definitions: the raise, which moves points to the slots that their constraints ask. Like `keeps`, SoFar.antt and Limits.antt it knows
-- what a constraint is.
-- Computed: pinned by `least_found` of verdict/proofs/VerdictTheorems.antt.
use Rattle.std.specs.Prelude.{cond, List, [], ◌∷◌, ℕ, suc, ◌+◌, ◌-◌, min, max, ℤ, pos, negsuc, set}
use Rattle.network.specs.Network.{Constraint, Network, Scenario, Schedule, slots_in, holds}

-- the least slot x with y − x ≤ d; the difference of numbers stops at 0
unfoldable pub least_from : ℕ → ℤ → ℕ
least_from y (pos d) = y - d
least_from y (negsuc d) = y + suc d

-- the earliest slot of X that keeps the constraint, given the slot of Y; 0 where its label does not hold
unfoldable pub asked : Scenario → Schedule → Constraint → ℕ
asked s ψ c = cond (holds s c.label) (least_from (ψ c.to) c.bound) 0

-- X is moved to that slot if it stands earlier, and to `cap` at most: one slot past the horizon is as bad as any
unfoldable pub turn : ℕ → Scenario → List ℕ → Constraint → List ℕ
turn cap s slots c = set slots c.from (max (slots_in slots c.from) (min cap (asked s (slots_in slots) c)))

-- each constraint in its turn
unfoldable pub turns : ℕ → Scenario → List ℕ → List Constraint → List ℕ
turns cap s slots [] = slots
turns cap s slots (c ∷ cs) = turns cap s (turn cap s slots c) cs

-- one round
abbrev pub raised : ℕ → Network → Scenario → List ℕ → List ℕ
raised cap net s slots = turns cap s slots net.constraints
