-- Definitions: the legal and timely moves one after the other, `None` where they end. `first_step_is` and `next_step_is` of
-- proofs/OrderLaws.antt tie the steps to `FirstOf` and `Timely`. Not to be believed: only theorems and inner contracts use it.
use Rattle.std.specs.Prelude.{◌≡◌, Option, Some, None, Bool, true, not, cond, ◌&&◌, List, ℕ, suc, ◌+◌, ◌-◌, ◌≤◌, leb, eqb}
use Rattle.network.specs.Mask.{bit, mask, first_below}
use Rattle.network.specs.Network.{Network, slots_in}
use Rattle.network.specs.Game.{State, Move, Legal}
use Rattle.network.specs.FirstMoves.{Before}
use Rattle.masks.specs.Next.{next_inside}
use Rattle.plan.specs.declared.Plan.{Plan}
use Rattle.plan.specs.Settled.{settled_by}
use Rattle.tree.specs.declared.Node.{Node}
use Rattle.tree.specs.Parts.{move_of}
use Rattle.game.specs.declared.Position.{Position}

-- the first of the legal moves that have R, or the end where none has it
unfoldable pub FirstOf : Network → State → (Move → Type 0) → Option Node → Type 0
FirstOf net s R None = (k : Move) → Legal net s k → ¬ R k
FirstOf net s R (Some v) =
    Legal net s (move_of v) × R (move_of v) × ((k : Move) → Legal net s k → R k → ¬ Before k (move_of v))

-- no point is performed before its soonest slot
abbrev pub Timely : List ℕ → Move → Type 0
Timely soonest m = (x : ℕ) → bit m.points x ≡ true → slots_in soonest x ≤ m.slot

-- the points left that may be performed in a slot; whether there are any
abbrev pub ready_at : Position → List ℕ → ℕ → ℕ
ready_at at soonest slot = mask 8 (λ x. bit at.left x && leb (slots_in soonest x) slot)

abbrev pub some_ready : Position → List ℕ → ℕ → Bool
some_ready at soonest slot = not (eqb (ready_at at soonest slot) 0)

-- in the first slot from this one to the horizon in which some are ready: the least set of them, no choices
unfoldable pub from_slot : Plan → Position → List ℕ → ℕ → Option Node
from_slot p at soonest slot =
    let t = slot + first_below (suc p.horizon - slot) (λ i. some_ready at soonest (slot + i)) in
    cond (leb t p.horizon)
    (Some (record { slot = t; points = next_inside (ready_at at soonest t) 0; choices = 0 }))
    None

-- the first of all
abbrev pub first_step : Plan → Position → List ℕ → Option Node
first_step p at soonest = from_slot p at soonest at.earliest

-- behind one of the moves: the next choices for the same points, else the next set of ready points in the same slot, else the next slot
unfoldable pub next_step : Plan → Position → List ℕ → Node → Option Node
next_step p at soonest v =
    let choices = next_inside (settled_by p v.points) v.choices in
    let points = next_inside (ready_at at soonest v.slot) v.points in
    cond (not (eqb choices 0))
    (Some (record { slot = v.slot; points = v.points; choices = choices }))
    (cond (not (eqb points 0))
    (Some (record { slot = v.slot; points = points; choices = 0 }))
    (from_slot p at soonest (v.slot + 1)))
