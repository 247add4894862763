-- Cases: positions and moves of a plan with two points, computed. Only the checker need believe this file; a reader may like to.
use mathlib.Core.Path.{◌≡◌, refl}
use mathlib.Core.List.{[], ◌∷◌}
use mathlib.Core.Bool.{Bool, true, false}
use Prim.Native.Nat.{ℕ}
use lib.ListN.{replicate}
use Rattle.network.specs.Mask.{bit, mask}
use Rattle.plan.specs.declared.Plan.{Plan}
use Rattle.plan.specs.Plan.{listed}
use Rattle.plan.proofs.Cases.{letter, plan}
use Rattle.tree.specs.declared.Node.{Node}
use Rattle.tree.specs.Parts.{move_of}
use Rattle.game.specs.declared.Position.{Position}
use Rattle.game.specs.Carried.{start_position, position_after}
use Rattle.game.specs.Position.{state_of, is_legal}

-- slots 0 to 2; condition 0 at point 0, decision 1 at point 1
abbrev pub two_points : Plan
two_points = plan 2 2 (letter 0 0 ∷ (letter 1 1 ∷ [])) []

-- slot, points, choices
abbrev pub node : ℕ → ℕ → ℕ → Node
node t ps ch = record { slot = t; points = ps; choices = ch }

-- earliest, left, performed, values, the slots of the first two points
abbrev pub position : ℕ → ℕ → ℕ → ℕ → ℕ → ℕ → Position
position e l d vs s0 s1 = record { earliest = e; left = l; performed = d; values = vs; slots = s0 ∷ (s1 ∷ replicate 6 0) }

abbrev legal : Position → Node → Bool
legal at v = is_legal two_points (state_of two_points at) (move_of v)

-- point 0 in slot 1, and condition 0 was heard true
abbrev pub midway : Position
midway = position 2 2 1 1 1 0

-- ---- a path: point 0 in slot 1, condition 0 true; point 1 in slot 2, decision 1 set true; or both points at once

pub path :
    (start_position two_points ≡ position 0 3 0 0 0 0) × (position_after (start_position two_points) (node 1 1 0) 1 ≡ midway)
    × (position_after midway (node 2 2 2) 0 ≡ position 3 0 3 3 1 2)
    × (position_after (start_position two_points) (node 2 3 2) 0 ≡ position 3 0 3 2 2 2)
unfolding bit mask listed
path = (refl, refl, refl, refl)

-- the conditions heard, the decisions made
pub letters :
    ((state_of two_points midway).heard ≡ 1) × ((state_of two_points midway).decided ≡ 0)
    × ((state_of two_points (position 3 0 3 3 1 2)).heard ≡ 1) × ((state_of two_points (position 3 0 3 3 1 2)).decided ≡ 2)
unfolding bit mask
letters = (refl, refl, refl, refl)

-- ---- legal: the first slot, the last, both points with a choice, the first slot still open

pub accepted :
    (legal (start_position two_points) (node 0 1 0) ≡ true) × (legal (start_position two_points) (node 2 2 0) ≡ true)
    × (legal (start_position two_points) (node 1 3 2) ≡ true) × (legal midway (node 2 2 2) ≡ true)
unfolding bit mask is_legal
accepted = (refl, refl, refl, refl)

-- ---- not legal: the slot again, past the horizon, no point, a point again, a point that the plan lacks, a choice not disclosed, a choice
-- for a condition

pub refused :
    (legal midway (node 1 2 0) ≡ false) × (legal (start_position two_points) (node 3 1 0) ≡ false)
    × (legal (start_position two_points) (node 0 0 0) ≡ false) × (legal midway (node 2 1 0) ≡ false)
    × (legal (start_position two_points) (node 0 4 0) ≡ false) × (legal (start_position two_points) (node 0 1 2) ≡ false)
    × (legal (start_position two_points) (node 0 1 1) ≡ false)
unfolding bit mask is_legal
refused = (refl, refl, refl, refl, refl, refl, refl)
