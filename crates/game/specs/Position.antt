-- Definitions: the state of the game that a position stands for, legal moves as the code tests them, the positions that paths lead to, what is
-- kept so far at one. Inner contracts speak of `state_of` and `Proper`; `start_is` and `after_is` of proofs/PositionLaws.antt and `so_far_is` of
-- proofs/SoFarLaws.antt tie the positions of Carried.antt and the rest to the game too. Computed: pinned by `legal_exactly` of
-- game/proofs/LegalLaws.antt.
use Rattle.std.specs.Prelude.{◌≡◌, Bool, true, false, not, ◌&&◌, List, ℕ, ◌<◌, leb, eqb}
use Rattle.network.specs.Mask.{bit, mask}
use Rattle.network.specs.Network.{condition, decision, slots_in}
use Rattle.network.specs.Game.{State, start, Move}
use Rattle.network.specs.Crew.{Step}
use Rattle.network.specs.Walks.{state_after}
use Rattle.network.specs.RunningSet.{LegalPath}
use Rattle.network.specs.SoFar.{keeps_so_far}
use Rattle.masks.specs.Masks.{inside}
use Rattle.plan.specs.declared.Plan.{Plan}
use Rattle.plan.specs.Plan.{network_of}
use Rattle.plan.specs.Letters.{known_by}
use Rattle.plan.specs.Settled.{settled_by}
use Rattle.game.specs.declared.Position.{Position}
use Rattle.game.specs.Carried.{start_position, position_along}

-- the state of the game that a position stands for: of the letters set true, the conditions were heard and the decisions made
abbrev pub state_of : Plan → Position → State
state_of p at =
    record {
      open_from = at.earliest;
      left = at.left;
      slots = slots_in at.slots;
      heard = mask p.letters (λ l. condition (network_of p) l && bit at.values l);
      decided = mask p.letters (λ l. decision (network_of p) l && bit at.values l);
    }

-- a legal move: `Legal` of the game, tested
unfoldable pub is_legal : Plan → State → Move → Bool
is_legal p s m =
    leb s.open_from m.slot && leb m.slot p.horizon && not (eqb m.points 0) && inside m.points s.left
    && inside m.choices (settled_by p m.points)

-- A proper position: only points of the plan are left, and only letters that points already performed disclose are set true. It is reached
-- from the first one by a legal path, the path above it, and stands for the state of the game there. The first one is proper, and every legal
-- move leads from a proper one to proper ones.
pub record Proper (p : Plan) (at : Position) : Type 0 where
  pub points_left_lem : (x : ℕ) → bit at.left x ≡ true → x < p.points
  pub disclosed : (l : ℕ) → bit at.values l ≡ true → bit at.left ((network_of p).disclosing l) ≡ false
  pub above : List Step
  pub legal : LegalPath (network_of p) (start (network_of p)) above
  pub reached : at ≡ position_along (start_position p) above
  pub stands : state_of p at ≡ state_after (network_of p) (start (network_of p)) above

-- every constraint is kept so far, by the points performed and the letters that they disclose: at a proper position `keeps_so_far_at` of its
-- state (`so_far_is` of proofs/SoFarLaws.antt)
abbrev pub keeps_so_far_in : Plan → Position → Bool
keeps_so_far_in p at =
    keeps_so_far (network_of p) (known_by p at.performed) at.performed (slots_in at.slots) (bit at.values)
