-- Definitions: what is kept so far at a state of the game, by the points performed and the letters known there. It knows what a constraint is,
-- as `keeps`, the raise and Limits.antt do. Not to be believed: only theorems and inner contracts use it.
use Rattle.std.specs.Prelude.{Bool, true, not, ◌&&◌, ◌||◌, List, [], ◌∷◌, ℕ}
use Rattle.network.specs.Mask.{bit, mask}
use Rattle.network.specs.Network.{Constraint, Network, Scenario, Schedule, combined, satisfies}
use Rattle.network.specs.Game.{State}
use Rattle.network.specs.TestLabel.{label_test, is_holds}

-- A constraint is relevant so far where its label holds by the letters known and both of its points are performed. From then on no move
-- changes its label or the slots of its points.
abbrev pub relevant_so_far : ℕ → ℕ → Scenario → Constraint → Bool
relevant_so_far known performed s c = is_holds (label_test known s c.label) && (bit performed c.from && bit performed c.to)

-- it is kept so far: it is not relevant so far, or it is satisfied
abbrev pub kept_so_far : ℕ → ℕ → Schedule → Scenario → Constraint → Bool
kept_so_far known performed ψ s c = not (relevant_so_far known performed s c) || satisfies ψ c

unfoldable pub all_kept_so_far : ℕ → ℕ → Schedule → Scenario → List Constraint → Bool
all_kept_so_far known performed ψ s [] = true
all_kept_so_far known performed ψ s (c ∷ cs) = kept_so_far known performed ψ s c && all_kept_so_far known performed ψ s cs

-- every constraint of a network
unfoldable pub keeps_so_far : Network → ℕ → ℕ → Schedule → Scenario → Bool
keeps_so_far net known performed ψ s = all_kept_so_far known performed ψ s net.constraints

-- the points performed at a state, and the letters known there: those that they disclose
abbrev pub performed_at : Network → State → ℕ
performed_at net s = mask net.points (λ x. not (bit s.left x))

abbrev pub known_at : Network → State → ℕ
known_at net s = mask net.letters (λ l. not (bit s.left (net.disclosing l)))

-- what is kept so far at a state, by the values set there
abbrev pub keeps_so_far_at : Network → State → Bool
keeps_so_far_at net s = keeps_so_far net (known_at net s) (performed_at net s) s.slots (combined net s.heard s.decided)
