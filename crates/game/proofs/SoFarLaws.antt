-- Laws: what is kept so far at a position is what is kept so far at its state. Only the checker need believe this file.
use mathlib.Core.Path.{◌≡◌, sym, ◌∙◌}
use mathlib.Core.Bool.{not, ◌&&◌}
use Prim.Native.Nat.{ℕ}
use lib.Dec.{ltb}
use Rattle.network.specs.Mask.{bit}
use Rattle.network.specs.Network.{Network, slots_in}
use Rattle.network.specs.Game.{kept}
use Rattle.network.specs.SoFar.{known_at, performed_at, keeps_so_far_at}
use Rattle.network.proofs.Booleans.{and_left, ltb_yes, ltb_is}
use Rattle.network.proofs.MaskLaws.{mask_is, bits_lt, mask_cong, mask_narrow}
use Rattle.network.proofs.SoFarLaws.{so_far_cong, over_keeps}
use Rattle.network.proofs.SearchLaws.{over_is}
use Rattle.plan.specs.declared.Plan.{Plan}
use Rattle.plan.specs.Plan.{network_of}
use Rattle.plan.specs.Letters.{known_by}
use Rattle.plan.specs.WellFormed.{WellFormed}
use Rattle.plan.proofs.PlanLaws.{network_of_well_formed}
use Rattle.game.specs.declared.Position.{Position}
use Rattle.game.specs.Position.{state_of, Proper, keeps_so_far_in}
use Rattle.game.proofs.PerformedTheorems.{performed_not_left}
use Rattle.game.proofs.PositionLaws.{value_is, over_is_zero}

module _ (p : Plan) (wf : WellFormed p) (at : Position) (ok : Proper p at) where
  abbrev net : Network
  net = network_of p

  bit_is : (x : ℕ) → bit at.performed x ≡ (ltb x p.points && not (bit at.left x))
  bit_is = performed_not_left p wf at ok

  -- the points performed, the letters that they disclose
  performed_is : at.performed ≡ performed_at net (state_of p at)
  performed_is =
      mask_is p.points at.performed _ (bits_lt p.points at.performed (λ x y. ltb_is x p.points (and_left _ _ (sym (bit_is x) ∙ y))))
      (λ x lt. bit_is x ∙ rw (ltb_yes x p.points lt))

  known_is : known_by p at.performed ≡ known_at net (state_of p at)
  known_is =
      mask_narrow p.letters 6 (λ l. ltb l p.letters && bit at.performed (net.disclosing l)) wf.head.letters
      (λ l y. ltb_is l p.letters (and_left _ _ y))
      ∙ mask_cong p.letters _ _ (λ l lt.
      let point = wf.letters.disclosing l lt in
      rw (
        ltb_yes l p.letters lt,
        bit_is (net.disclosing l),
        ltb_yes (net.disclosing l) p.points point,
      ))

  pub so_far_is : keeps_so_far_in p at ≡ keeps_so_far_at net (state_of p at)
  so_far_is =
      rw (known_is, performed_is)
      (so_far_cong net (network_of_well_formed p wf) _ _ (slots_in at.slots) (bit at.values) _ (value_is p wf at))

  -- where no point is left it is what is kept
  pub end_is : at.left ≡ 0 → keeps_so_far_in p at ≡ kept net (state_of p at)
  end_is e = so_far_is ∙ over_keeps net (network_of_well_formed p wf) (state_of p at) ((over_is net (state_of p at)).0 ((over_is_zero p wf at ok).0 e))
