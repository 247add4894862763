-- Cases: the moves of some positions, step by step, computed. Only the checker need believe this file; a reader may like to.
use mathlib.Core.Path.{◌≡◌, refl}
use mathlib.Core.List.{List, [], ◌∷◌}
use Prim.Native.Nat.{ℕ, zero, suc}
use lib.ListN.{replicate}
use Rattle.std.specs.Prelude.{Option, Some, None}
use Rattle.network.specs.Mask.{bit, mask, first_below, submask}
use Rattle.network.specs.Below.{rank}
use Rattle.plan.specs.declared.Plan.{Plan}
use Rattle.plan.proofs.Cases.{letter, plan}
use Rattle.tree.specs.declared.Node.{Node}
use Rattle.game.specs.declared.Position.{Position}
use Rattle.game.specs.Carried.{start_position}
use Rattle.game.proofs.Cases.{two_points, node, position, midway}
use Rattle.moves.specs.Moves.{from_slot, first_step, next_step}

abbrev try : ℕ → ℕ → ℕ → Option Node
try t ps ch = Some (node t ps ch)

-- every point may be performed in every slot
abbrev any_time : List ℕ
any_time = replicate 8 0

-- ---- from the start, no point waiting: slots 0 to 2, points 0 and 1, one decision at point 1

abbrev next : ℕ → ℕ → ℕ → Option Node
next t ps ch = next_step two_points (start_position two_points) any_time (node t ps ch)

-- the first; more points, more choices, more points without choices, a later slot, the end
pub steps :
    (first_step two_points (start_position two_points) any_time ≡ try 0 1 0) × (next 0 1 0 ≡ try 0 2 0) × (next 0 2 0 ≡ try 0 2 2)
    × (next 0 2 2 ≡ try 0 3 0) × (next 1 3 2 ≡ try 2 1 0) × (next 2 3 2 ≡ None)
unfolding bit mask first_below submask rank from_slot next_step
steps = (refl, refl, refl, refl, refl, refl)

-- the moves from a step on to the end, n of them at most
unfoldable pub walk : ℕ → Plan → Position → List ℕ → Option Node → List Node
walk zero p at soonest t = []
walk (suc n) p at soonest None = []
walk (suc n) p at soonest (Some v) = v ∷ walk n p at soonest (next_step p at soonest v)

abbrev timely : Plan → Position → List ℕ → List Node
timely p at soonest = walk 20 p at soonest (first_step p at soonest)

abbrev moves : Plan → Position → List Node
moves p at = timely p at any_time

-- all legal moves: the choices of a set of points before the next set, the sets of a slot before the next slot
pub from_start :
    moves two_points (start_position two_points)
    ≡ node 0 1 0 ∷ node 0 2 0 ∷ node 0 2 2 ∷ node 0 3 0 ∷ node 0 3 2
    ∷ node 1 1 0 ∷ node 1 2 0 ∷ node 1 2 2 ∷ node 1 3 0 ∷ node 1 3 2
    ∷ node 2 1 0 ∷ node 2 2 0 ∷ node 2 2 2 ∷ node 2 3 0 ∷ node 2 3 2 ∷ []
unfolding bit mask first_below submask rank from_slot next_step walk
from_start = refl

-- the last slot with one point left; past the horizon; nothing left
pub near_the_end :
    (moves two_points midway ≡ node 2 2 0 ∷ node 2 2 2 ∷ []) × (moves two_points (position 3 2 1 1 2 0) ≡ [])
    × (moves two_points (position 1 0 3 0 0 0) ≡ [])
unfolding bit mask first_below submask rank from_slot next_step walk
near_the_end = (refl, refl, refl)

-- ---- points that wait

-- the soonest slots of points 0 and 1
abbrev soonest : ℕ → ℕ → List ℕ
soonest s0 s1 = s0 ∷ (s1 ∷ replicate 6 0)

-- point 1 waits for slot 1, or point 0 for slot 2: until then the other is performed alone
pub one_waits :
    (timely two_points (start_position two_points) (soonest 0 1)
    ≡ node 0 1 0
    ∷ node 1 1 0 ∷ node 1 2 0 ∷ node 1 2 2 ∷ node 1 3 0 ∷ node 1 3 2
    ∷ node 2 1 0 ∷ node 2 2 0 ∷ node 2 2 2 ∷ node 2 3 0 ∷ node 2 3 2 ∷ [])
    × (timely two_points (start_position two_points) (soonest 2 0)
    ≡ node 0 2 0 ∷ node 0 2 2 ∷ node 1 2 0 ∷ node 1 2 2
    ∷ node 2 1 0 ∷ node 2 2 0 ∷ node 2 2 2 ∷ node 2 3 0 ∷ node 2 3 2 ∷ [])
unfolding bit mask first_below submask rank from_slot next_step walk
one_waits = (refl, refl)

-- slots pass in which none is ready: both wait; or one does, and the other was performed
pub both_wait :
    (timely two_points (start_position two_points) (soonest 2 2)
    ≡ node 2 1 0 ∷ node 2 2 0 ∷ node 2 2 2 ∷ node 2 3 0 ∷ node 2 3 2 ∷ [])
    × (timely two_points (position 1 2 1 0 0 0) (soonest 0 2) ≡ node 2 2 0 ∷ node 2 2 2 ∷ [])
    × (timely two_points (position 1 1 2 0 0 0) (soonest 2 0) ≡ node 2 1 0 ∷ [])
unfolding bit mask first_below submask rank from_slot next_step walk
both_wait = (refl, refl, refl)

-- one point waits past the horizon, or both do
pub too_late :
    (timely two_points (position 2 3 0 0 0 0) (soonest 2 3) ≡ node 2 1 0 ∷ [])
    × (timely two_points (start_position two_points) (soonest 3 3) ≡ [])
unfolding bit mask first_below submask rank from_slot next_step walk
too_late = (refl, refl)

-- ---- the edges of the ranges: horizon 63, eight points, six decisions

abbrev widest : Plan
widest = plan 63 8 (letter 0 1 ∷ letter 1 1 ∷ letter 2 1 ∷ letter 3 1 ∷ letter 4 1 ∷ letter 7 1 ∷ []) []

-- points 1 and 7 are left, with decisions 1 and 5
abbrev gaps : ℕ → Position
gaps earliest = position earliest 130 125 0 0 0

-- the last slot: the sets 2, 128 and 130 of points, each with its choices; and past it
pub last_slot :
    (moves widest (gaps 63)
    ≡ node 63 2 0 ∷ node 63 2 2 ∷ node 63 128 0 ∷ node 63 128 32
    ∷ node 63 130 0 ∷ node 63 130 2 ∷ node 63 130 32 ∷ node 63 130 34 ∷ [])
    × (next_step widest (gaps 0) any_time (node 62 130 34) ≡ try 63 2 0) × (moves widest (gaps 64) ≡ [])
unfolding bit mask first_below submask rank from_slot next_step walk
last_slot = (refl, refl, refl)

-- all points left: the last choices of all points, the first point that no lower one is with, the next slot, the end
pub all_points :
    (next_step widest (start_position widest) any_time (node 0 255 62) ≡ try 0 255 63)
    × (next_step widest (start_position widest) any_time (node 0 127 31) ≡ try 0 128 0)
    × (next_step widest (start_position widest) any_time (node 0 255 63) ≡ try 1 1 0)
    × (next_step widest (start_position widest) any_time (node 63 255 63) ≡ None)
unfolding bit mask first_below submask rank from_slot next_step
all_points = (refl, refl, refl, refl)

-- point 7 waits for the last slot, and slots 1 to 62 pass with none ready
abbrev late_seven : List ℕ
late_seven = 0 ∷ (0 ∷ (0 ∷ (0 ∷ (0 ∷ (0 ∷ (0 ∷ (63 ∷ [])))))))

pub long_wait :
    (first_step widest (position 1 128 127 0 0 0) late_seven ≡ try 63 128 0) × (next_step widest (gaps 0) late_seven (node 62 2 2) ≡ try 63 2 0)
    × (next_step widest (gaps 0) late_seven (node 63 2 2) ≡ try 63 128 0)
unfolding bit mask first_below submask rank from_slot next_step
long_wait = (refl, refl, refl)
