-- Definitions: the positions of the code along a path, and the points performed that they carry. To be believed, for card 3 only.
use Rattle.std.specs.Prelude.{not, cond, ◌&&◌, ◌||◌, List, [], ◌∷◌, ℕ, ◌+◌, ltb, get_or, replicate}
use Rattle.network.specs.Mask.{bit, mask}
use Rattle.network.specs.Crew.{Step}
use Rattle.plan.specs.declared.Plan.{Plan}
use Rattle.plan.specs.Plan.{listed}
use Rattle.tree.specs.declared.Node.{Node}
use Rattle.game.specs.declared.Position.{Position}

-- before the first move
abbrev pub start_position : Plan → Position
start_position p =
    record { earliest = 0; left = mask 8 (λ x. ltb x p.points); performed = 0; values = 0; slots = replicate 8 0 }

-- after a move and its outcome: `after` of the game
abbrev pub slots_after : List ℕ → ℕ → ℕ → List ℕ
slots_after slots points slot = listed 8 (λ x. cond (bit points x) slot (get_or slots x 0))

abbrev pub position_after : Position → Node → ℕ → Position
position_after at v o =
    record {
      earliest = v.slot + 1;
      left = mask 8 (λ x. bit at.left x && not (bit v.points x));
      performed = mask 8 (λ x. bit at.performed x || bit v.points x);
      values = mask 8 (λ l. bit at.values l || bit v.choices l || bit o l);
      slots = slots_after at.slots v.points v.slot;
    }

-- after a step, whose instruction stands in a node; after all steps of a path, one by one
abbrev pub position_after_step : Position → Step → Position
position_after_step at st =
    let m = st.instruction in position_after at (record { slot = m.slot; points = m.points; choices = m.choices }) st.report

unfoldable pub position_along : Position → List Step → Position
position_along at [] = at
position_along at (st ∷ path) = position_along (position_after_step at st) path

-- the points performed that the position behind a path from the root carries: the running value of card 3
abbrev pub carried : Plan → List Step → ℕ
carried p path = (position_along (start_position p) path).performed
