-- Laws of `set_to`, bit by bit. Only the checker need believe this file.
use mathlib.Core.Path.{◌≡◌, refl, sym, ap, ◌∙◌}
use mathlib.Core.Logic.{by_cases}
use mathlib.Core.Bool.{Bool, true, false, not, cond, ◌&&◌, ◌||◌, and-true}
use Prim.Native.Nat.{ℕ, ◌-◌, ◌%◌, ◌^◌, ◌<◌}
use native.Mathlib.Omega.{arith}
use native.Mathlib.Nat.{mod-lt}
use native.Mathlib.Decide.{dec_lt}
use lib.Bits.{bit_and, bit_or, and_mask}
use Rattle.network.specs.Mask.{bit}
use Rattle.network.proofs.Booleans.{by_test, clash, and_left}
use Rattle.network.proofs.MaskLaws.{bit_mask, bit_above, bits_ext, mask_full}
use Rattle.network.proofs.MachineLaws.{bit_and_lem, bit_or_lem, bit_not}
use Rattle.table.specs.Table.{Within, set_to}

-- the lowest n bits of a number
pub bit_mod : (n m i : ℕ) → i < n → bit (m % 2 ^ n) i ≡ bit m i
bit_mod n m i lt =
    ap (λ (x : ℕ). bit x i) (sym (and_mask m n))
    ∙ bit_and_lem m (2 ^ n - 1) i
    ∙ rw (← mask_full n, bit_mask n (λ (j : ℕ). true) i lt, and-true)

pub outside : (set d : ℕ) → Within set d → (l : ℕ) → bit set l ≡ false → bit d l ≡ false
outside set d w l z = by_test (bit d l) (λ y. clash (w l y) z) (λ n. n)

-- d has those letters of the set that r has
pub part_within : (set r : ℕ) → Within set (bit_and set r)
part_within set r l y = and_left (bit set l) (bit r l) (sym (bit_and_lem set r l) ∙ y)

pub set_to_small : (s set d : ℕ) → set_to s set d < 64
unfolding set_to
set_to_small s set d = mod-lt (bit_or (bit_and s (255 - set)) d) (omega arith)

module _ (set : ℕ) (byte : set < 256) where
  -- the letters of the set are as d has them, the others as in s
  pub set_to_bit : (s d : ℕ) → Within set d → (l : ℕ) → l < 6 → bit (set_to s set d) l ≡ cond (bit set l) (bit d l) (bit s l)
  unfolding set_to
  set_to_bit s d w l lt =
      let not_set : bit (255 - set) l ≡ not (bit set l) = bit_not 8 set l byte (omega arith) in
      bit_mod 6 (bit_or (bit_and s (255 - set)) d) l lt
      ∙ bit_or_lem (bit_and s (255 - set)) d l
      ∙ rw (bit_and_lem s (255 - set) l, not_set)
      (by_test (bit set l) (λ y. rw y (inside (bit s l) (bit d l))) (λ z. rw (z, outside set d w l z) (other (bit s l))))
    where
      inside : (a b : Bool) → ((a && false) || b) ≡ b
      inside true b = refl
      inside false b = refl

      other : (a : Bool) → ((a && true) || false) ≡ a
      other true = refl
      other false = refl

  -- r is s with the letters of the set as r has them, where the two are alike in the others
  pub set_to_is :
      (s r : ℕ) → r < 64 → ((l : ℕ) → l < 6 → bit set l ≡ false → bit s l ≡ bit r l) → set_to s set (bit_and set r) ≡ r
  set_to_is s r small h =
      bits_ext (set_to s set (bit_and set r)) r (λ l. by_cases (dec_lt l 6)
      (λ lt. set_to_bit s (bit_and set r) (part_within set r) l lt ∙ by_test (bit set l)
      (λ y. rw (y, bit_and_lem set r l, y))
      (λ z. rw z (h l lt z)))
      (λ ge. bit_above 6 (set_to s set (bit_and set r)) l (set_to_small s set (bit_and set r)) (omega arith)
      ∙ sym (bit_above 6 r l small (omega arith))))
