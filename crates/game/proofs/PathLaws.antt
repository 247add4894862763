-- Laws of the positions along a path: one step more, their eight slots, the points performed. Only the checker need believe this file.
use mathlib.Core.Path.{◌≡◌, refl, sym, ◌∙◌}
use mathlib.Core.Logic.{◌↔◌, ◌⊎◌, inl, inr, ⊎_elim}
use mathlib.Core.Bool.{true, ◌||◌}
use mathlib.Core.List.{List, [], ◌∷◌, ◌++◌}
use Prim.Native.Nat.{ℕ, ◌<◌}
use lib.ListN.{length}
use Rattle.network.specs.Mask.{bit}
use Rattle.network.specs.Crew.{Step, Some}
use Rattle.network.specs.RunningSet.{PerformedOn}
use Rattle.network.proofs.Booleans.{says_or}
use Rattle.network.proofs.MaskLaws.{bit_mask, in_mask}
use Rattle.plan.proofs.SliceLaws.{length_listed}
use Rattle.game.specs.declared.Position.{Position}
use Rattle.game.specs.Carried.{position_after_step, position_along}

pub along_on : (path : List Step) (from : Position) (st : Step) → position_along from (path ++ (st ∷ [])) ≡ position_after_step (position_along from path) st
unfolding position_along
along_on [] from st = refl
along_on (first ∷ path) from st = along_on path (position_after_step from first) st

pub along_long : (path : List Step) (from : Position) → length from.slots ≡ 8 → length (position_along from path).slots ≡ 8
unfolding position_along
along_long [] from long = long
along_long (st ∷ path) from long = along_long path (position_after_step from st) (length_listed 8 _)

module _ (x : ℕ) where
  -- the set fits a byte
  pub performed_byte :
      (path : List Step) (from : Position) → (bit from.performed x ≡ true → x < 8) → bit (position_along from path).performed x ≡ true →
      x < 8
  unfolding position_along
  performed_byte [] from h y = h y
  performed_byte (st ∷ path) from h y = performed_byte path (position_after_step from st) (λ z. (in_mask 8 _ x z).0) y

  -- performed before the path or on it
  pub performed_along :
      x < 8 → (path : List Step) (from : Position) →
      (bit (position_along from path).performed x ≡ true) ↔ ((bit from.performed x ≡ true) ⊎ PerformedOn path x)
  unfolding position_along Some
  performed_along lt [] from = (inl, λ h. ⊎_elim (λ y. y) absurd h)
  performed_along lt (st ∷ path) from =
      let rest = performed_along lt path (position_after_step from st) in
      let was = bit from.performed x in
      let now = bit st.instruction.points x in
      let here : bit (position_after_step from st).performed x ≡ (was || now) = bit_mask 8 _ x lt in
      let or = says_or {a = was} {b = now} (λ y. y, λ y. y) (λ y. y, λ y. y) in (
        λ y. ⊎_elim (λ z. ⊎_elim inl (λ q. inr (inl q)) (or.0 (sym here ∙ z))) (λ q. inr (inr q)) (rest.0 y),
        λ h. rest.1 (⊎_elim (λ z. inl (here ∙ or.1 (inl z))) (λ q. ⊎_elim (λ z. inl (here ∙ or.1 (inr z))) inr q) h),
      )
