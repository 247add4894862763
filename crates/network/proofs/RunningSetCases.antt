-- Cases: a path of two steps, and values along it that are no running set (card 3). Only the checker need believe this file; a reader may
-- like to.
use mathlib.Core.Path.{◌≡◌, refl, sym, subst}
use mathlib.Core.Logic.{inl, ⊎_elim}
use mathlib.Core.Bool.{true, false}
use mathlib.Core.List.{List, [], ◌∷◌}
use Prim.Native.Nat.{ℕ, zero, suc}
use native.Mathlib.Omega.{arith}
use Rattle.network.specs.Mask.{bit, mask}
use Rattle.network.specs.Network.{Network}
use Rattle.network.specs.Game.{start, after}
use Rattle.network.specs.Crew.{Step, Some}
use Rattle.network.specs.Walks.{state_after}
use Rattle.network.specs.RunningSet.{LegalPath, RunningSet}
use Rattle.network.proofs.Booleans.{clash}
use Rattle.network.proofs.MaskLaws.{bit_zero}

-- slots 0 to 2, two points; condition 0 at point 0, as in K4
abbrev two_points : Network
two_points =
    record { horizon = 2; points = 2; letters = 1; disclosing = λ l. l; is_decision = λ l. false; constraints = [] }

-- point 0 in slot 0, and condition 0 was heard true; point 1 in slot 1
abbrev first : Step
first = record { instruction = record { slot = 0; points = 1; choices = 0 }; report = 1 }

abbrev second : Step
second = record { instruction = record { slot = 1; points = 2; choices = 0 }; report = 0 }

only_0 : (x : ℕ) → bit 1 x ≡ true → x ≡ 0
unfolding bit
only_0 zero y = refl
only_0 (suc x) y = clash y (bit_zero x)

only_1 : (x : ℕ) → bit 2 x ≡ true → x ≡ 1
unfolding bit
only_1 zero y = clash y refl
only_1 (suc zero) y = refl
only_1 (suc (suc x)) y = clash y (bit_zero x)

pub one_step : LegalPath two_points (start two_points) (first ∷ [])
unfolding bit mask start LegalPath
one_step = (
  record {
    later = omega arith;
    within = omega arith;
    some = (0, omega arith, refl);
    not_yet = λ x y. subst (λ (i : ℕ). bit (start two_points).left i ≡ true) (sym (only_0 x y)) refl;
    disclosed = λ l y. clash y (bit_zero l);
  },
  λ l y. rw (only_0 l y),
  tt,
)

pub two_steps : LegalPath two_points (start two_points) (first ∷ (second ∷ []))
unfolding bit mask start after LegalPath
two_steps = (
  one_step.0,
  one_step.1,
  (
    record {
      later = omega arith;
      within = omega arith;
      some = (1, omega arith, refl);
      not_yet = λ x y. subst (λ (i : ℕ). bit (after two_points (start two_points) first.instruction 1).left i ≡ true) (sym (only_1 x y)) refl;
      disclosed = λ l y. clash y (bit_zero l);
    },
    λ l y. clash y (bit_zero l),
    tt,
  ),
)

-- ---- no running set

-- the points of the last step alone: the path above is forgotten
abbrev last : List Step → ℕ
last [] = 0
last (st ∷ []) = st.instruction.points
last (st ∷ (next ∷ path)) = last (next ∷ path)

pub path_forgotten : ¬ RunningSet two_points last
unfolding bit Some
path_forgotten r = clash ((r.exactly (first ∷ (second ∷ [])) two_steps 0).1 (inl refl)) refl

-- the points of a node are not added
pub never_added : ¬ RunningSet two_points (λ path. 0)
unfolding Some bit
never_added r = clash ((r.exactly (first ∷ []) one_step 0).1 (inl refl)) (bit_zero 0)

-- the complement: the points left
pub complement : ¬ RunningSet two_points (λ path. (state_after two_points (start two_points) path).left)
unfolding bit mask start state_after LegalPath Some
complement r = absurd ((r.exactly [] tt 0).0 refl)

-- points left beside the points performed
pub left_included : ¬ RunningSet two_points (λ path. 3)
unfolding Some bit
left_included r = ⊎_elim (λ y. clash y refl) (λ q. q) ((r.exactly (first ∷ []) one_step 1).0 refl)
