-- Laws of legal moves: what the code tests is what the game asks. Only the checker need believe this file.
use mathlib.Core.Path.{◌≡◌, ◌∙◌}
use mathlib.Core.Logic.{◌↔◌}
use mathlib.Core.Bool.{true}
use Prim.Native.Nat.{ℕ, ◌<◌}
use native.Mathlib.Omega.{arith}
use lib.Dec.{eqb}
use Rattle.network.specs.Mask.{bit}
use Rattle.network.specs.Game.{State, Move, settles, Legal}
use Rattle.network.proofs.Booleans.{differs, eqb_no, says_le, says_not, ◌also◌}
use Rattle.network.proofs.MaskLaws.{bit_mask, in_mask}
use Rattle.network.proofs.MachineLaws.{subset_is}
use Rattle.network.proofs.NetworkLaws.{decision_lt}
use Rattle.network.proofs.GameLaws.{Inside, settled_decision, some_points}
use Rattle.network.proofs.SearchLaws.{some_bit}
use Rattle.plan.specs.declared.Plan.{Plan}
use Rattle.plan.specs.Plan.{network_of}
use Rattle.plan.specs.Settled.{settled_by}
use Rattle.plan.specs.WellFormed.{WellFormed}
use Rattle.game.specs.Position.{is_legal}

-- only decisions that its points settle are chosen
pub choices_settled :
    (p : Plan) → WellFormed p → (s : State) (m : Move) → Legal (network_of p) s m → (l : ℕ) → bit m.choices l ≡ true →
    bit (settled_by p m.points) l ≡ true
choices_settled p wf s m lg l y =
    let q = lg.disclosed l y in
    let lt : l < p.letters = decision_lt (network_of p) l (settled_decision (network_of p) m l q) in
    let few = wf.head.letters in
    bit_mask 6 (settles (network_of p) m) l (omega arith) ∙ q

module _ (p : Plan) (wf : WellFormed p) (s : State) (in-s : Inside (network_of p) s) (m : Move) where
  pub legal_exactly : (is_legal p s m ≡ true) ↔ Legal (network_of p) s m
  unfolding is_legal
  legal_exactly =
      let f =
      says_le s.open_from m.slot also says_le m.slot p.horizon also says_not (eqb m.points 0)
      also subset_is m.points s.left also subset_is m.choices (settled_by p m.points) in (
        λ t. let h = f.0 t in
            let some = differs m.points 0 h.0.0.1 in
            record {
              later = h.0.0.0.0;
              within = h.0.0.0.1;
              some = some_bit p.points m.points (λ x y. in-s x (h.0.1 x y)) (omega arith);
              not_yet = h.0.1;
              disclosed = λ l y. (in_mask 6 (settles (network_of p) m) l (h.1 l y)).1;
            },
        λ lg. f.1 (
          (((lg.later, lg.within), eqb_no m.points 0 (some_points (network_of p) s m lg)), lg.not_yet),
          choices_settled p wf s m lg,
        ),
      )
