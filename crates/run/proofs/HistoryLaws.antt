-- Laws of histories: when the count and the unused masks are fine. Only the checker need believe this file.
use mathlib.Core.Path.{◌≡◌, sym, ap, ◌∙◌}
use mathlib.Core.Logic.{by_cases}
use mathlib.Core.Bool.{Bool, true, false, ◌||◌}
use mathlib.Core.List.{List}
use Prim.Native.Nat.{ℕ, ◌+◌, ◌-◌, ◌≤◌, ◌<◌}
use native.Mathlib.Omega.{arith}
use native.Mathlib.Decide.{dec_lt}
use lib.Dec.{leb, ltb, eqb}
use lib.ListN.{length, get_or, drop, length-drop}
use lib.Seq.{get_or-drop}
use Rattle.std.specs.Bool.{MatchBool}
use Rattle.std.specs.List.{AllWithin, HoldsAt}
use Rattle.network.specs.Mask.{all_below}
use Rattle.network.proofs.Booleans.{by_test, and_left, and_right, and_make, or_right, leb_yes, leb_is, ltb_yes, ltb_no, eqb_yes, eqb_is}
use Rattle.network.proofs.BelowLaws.{all_at, all_make}
use Rattle.run.specs.declared.History.{History}
use Rattle.run.specs.History.{history_fine}

module _ (h : History) where
  -- mask i is used, or zero
  abbrev used_or_zero : ℕ → Bool
  used_or_zero i = ltb i h.count || eqb (get_or h.masks i 0) 0

  pub count_fine : history_fine h ≡ true → h.count ≤ 8
  unfolding history_fine
  count_fine y = leb_is h.count 8 (and_left (leb h.count 8) (all_below 8 used_or_zero) y)

  pub unused_zero : history_fine h ≡ true → (i : ℕ) → h.count ≤ i → i < 8 → get_or h.masks i 0 ≡ 0
  unfolding history_fine
  unused_zero y i ge lt =
      eqb_is (get_or h.masks i 0) 0
      (rw (ltb_no i h.count (λ l. omega arith)) at (all_at 8 used_or_zero (and_right (leb h.count 8) (all_below 8 used_or_zero) y) i lt))

  pub fine_made : h.count ≤ 8 → ((i : ℕ) → h.count ≤ i → i < 8 → get_or h.masks i 0 ≡ 0) → history_fine h ≡ true
  unfolding history_fine
  fine_made le zero =
      and_make (leb_yes h.count 8 le)
      (all_make 8 used_or_zero (λ i lt. by_cases (dec_lt i h.count)
      (λ l. rw (ltb_yes i h.count l))
      (λ ge. or_right (ltb i h.count) (eqb_yes (get_or h.masks i 0) 0 (zero i (omega arith) lt)))))

  -- what makes it faulty
  pub count_faulty : 8 < h.count → false ≡ history_fine h
  count_faulty lt = by_test (history_fine h) (λ y. let le = count_fine y in absurd (omega arith)) (λ z. rw z)

  pub mask_faulty : (i : ℕ) → h.count ≤ i → i < 8 → ¬ (get_or h.masks i 0 ≡ 0) → false ≡ history_fine h
  mask_faulty i ge lt ne = by_test (history_fine h) (λ y. absurd (ne (unused_zero y i ge lt))) (λ z. rw z)

  -- the code looks whether all masks past the count are zero
  abbrev past : List ℕ
  past = drop h.count h.masks

  pub masks_said :
      h.count ≤ 8 → length h.masks ≡ 8 → (r : Bool) →
      MatchBool r (AllWithin (λ x. x ≡ 0) past 0 (length past)) ((k : ℕ) × (k < length past) × HoldsAt (λ x. ¬ (x ≡ 0)) past k) →
      r ≡ history_fine h
  masks_said le long true zero =
      let size = length-drop h.count h.masks in
      sym (fine_made le (λ i ge lt. let there : h.count + (i - h.count) ≡ i = omega arith in
      ap (λ (x : ℕ). get_or h.masks x 0) (sym there) ∙ sym (get_or-drop h.count h.masks (i - h.count) 0)
      ∙ zero (i - h.count) 0 (omega arith) (omega arith)))
  masks_said le long false one =
      let size = length-drop h.count h.masks in
      let inside = one.1 in
      mask_faulty (h.count + one.0) (omega arith) (omega arith) (λ e. one.2 0 (get_or-drop h.count h.masks one.0 0 ∙ e))
