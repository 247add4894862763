-- Laws of the machine's operations on masks: and, or, xor, difference, shift, count of ones, trailing zeros, bit by bit. Only the checker
-- need believe this file.
use mathlib.Core.Path.{◌≡◌, refl, sym, ap, ◌∙◌}
use mathlib.Core.Logic.{◌↔◌, by_cases}
use mathlib.Core.Bool.{Bool, true, not, ◌&&◌, ◌||◌, xor}
use Prim.Native.Nat.{ℕ, zero, suc, ◌+◌, ◌-◌, ◌*◌, ◌/◌, ◌%◌, ◌^◌, ◌<◌, min, max}
use native.Mathlib.Omega.{arith}
use native.Mathlib.Decide.{dec_lt}
use native.Mathlib.Nat.{pow-suc, div-div-eq-div-mul}
use lib.Dec.{eqb}
use lib.Bits.{bit_and, bit_or, bit_xor, differ, and_step, or_step, xor_step, and_le_l, or_lt}
use lib.Count.{ones, ones_in, ones_step}
use lib.Pow.{pow-lt}
use Rattle.network.specs.Mask.{bit, digit, mask, count}
use Rattle.network.proofs.Booleans.{by_test, and_left, and_right, and_make, both_ways, eqb_yes, eqb_is, differs}
use Rattle.network.proofs.MaskLaws.{bit_mask, bit_mask_above, bits_ext, mask_is}

-- ---- and, or, xor

low : (x d : ℕ) → d < 2 → eqb ((x * 2 + d) % 2) 1 ≡ eqb d 1
low x d h = let e : (x * 2 + d) % 2 ≡ d = omega arith in rw e

high : (x d : ℕ) → d < 2 → (x * 2 + d) / 2 ≡ x
high x d h = omega arith

-- an operation that works on the lowest digit and on the rest apart works on each bit
module _
    (op : ℕ → ℕ → ℕ) (f : ℕ → ℕ → ℕ) (g : Bool → Bool → Bool)
    (step : (a b : ℕ) → op a b ≡ op (a / 2) (b / 2) * 2 + f (a % 2) (b % 2))
    (small : (x y : ℕ) → x < 2 → y < 2 → f x y < 2)
    (digits : (x y : ℕ) → x < 2 → y < 2 → eqb (f x y) 1 ≡ g (eqb x 1) (eqb y 1)) where
  bitwise_bit : (a b i : ℕ) → bit (op a b) i ≡ g (bit a i) (bit b i)
  unfolding bit
  bitwise_bit a b zero =
      rw (step a b)
      (low (op (a / 2) (b / 2)) (f (a % 2) (b % 2)) (small _ _ (omega arith) (omega arith))
      ∙ digits _ _ (omega arith) (omega arith))
  bitwise_bit a b (suc i) =
      rw (step a b, high (op (a / 2) (b / 2)) (f (a % 2) (b % 2)) (small _ _ (omega arith) (omega arith)))
      (bitwise_bit (a / 2) (b / 2) i)

-- a fact of two digits, by the four cases
two : (P : ℕ → ℕ → Type 0) → P 0 0 → P 0 1 → P 1 0 → P 1 1 → (x y : ℕ) → x < 2 → y < 2 → P x y
two P p q r s zero zero h k = p
two P p q r s zero (suc zero) h k = q
two P p q r s zero (suc (suc y)) h k = absurd (omega arith)
two P p q r s (suc zero) zero h k = r
two P p q r s (suc zero) (suc zero) h k = s
two P p q r s (suc zero) (suc (suc y)) h k = absurd (omega arith)
two P p q r s (suc (suc x)) zero h k = absurd (omega arith)
two P p q r s (suc (suc x)) (suc y) h k = absurd (omega arith)

pub bit_and_lem : (a b i : ℕ) → bit (bit_and a b) i ≡ (bit a i && bit b i)
bit_and_lem =
    bitwise_bit bit_and min ◌&&◌ and_step
    (two (λ x y. min x y < 2) (omega arith) (omega arith) (omega arith) (omega arith))
    (two (λ x y. eqb (min x y) 1 ≡ (eqb x 1 && eqb y 1)) refl refl refl refl)

pub bit_or_lem : (a b i : ℕ) → bit (bit_or a b) i ≡ (bit a i || bit b i)
bit_or_lem =
    bitwise_bit bit_or max ◌||◌ or_step
    (two (λ x y. max x y < 2) (omega arith) (omega arith) (omega arith) (omega arith))
    (two (λ x y. eqb (max x y) 1 ≡ (eqb x 1 || eqb y 1)) refl refl refl refl)

pub bit_xor_lem : (a b i : ℕ) → bit (bit_xor a b) i ≡ xor (bit a i) (bit b i)
unfolding xor
bit_xor_lem =
    bitwise_bit bit_xor differ xor xor_step
    (two (λ x y. differ x y < 2) (omega arith) (omega arith) (omega arith) (omega arith))
    (two (λ x y. eqb (differ x y) 1 ≡ xor (eqb x 1) (eqb y 1)) refl refl refl refl)

-- the members of both sets
pub and_masks : (n : ℕ) (f g : ℕ → Bool) → bit_and (mask n f) (mask n g) ≡ mask n (λ i. f i && g i)
and_masks n f g =
    bits_ext (bit_and (mask n f) (mask n g)) (mask n (λ i. f i && g i)) (λ i. bit_and_lem (mask n f) (mask n g) i ∙ by_cases (dec_lt i n)
    (λ lt. rw (bit_mask n f i lt, bit_mask n g i lt, bit_mask n (λ i. f i && g i) i lt))
    (λ ge. rw (bit_mask_above n f i (omega arith), bit_mask_above n (λ i. f i && g i) i (omega arith))))

-- the members of one of two sets, of one of three
pub or_two : (n a b : ℕ) → a < 2 ^ n → b < 2 ^ n → bit_or a b ≡ mask n (λ i. bit a i || bit b i)
or_two n a b ha hb = mask_is n (bit_or a b) _ (or_lt n a b ha hb) (λ i lt. bit_or_lem a b i)

pub or_masks :
    (n a b c : ℕ) → a < 2 ^ n → b < 2 ^ n → c < 2 ^ n → bit_or (bit_or a b) c ≡ mask n (λ i. bit a i || bit b i || bit c i)
or_masks n a b c ha hb hc =
    mask_is n (bit_or (bit_or a b) c) _ (or_lt n (bit_or a b) c (or_lt n a b ha hb) hc)
    (λ i lt. bit_or_lem (bit_or a b) c i ∙ rw (bit_or_lem a b i))

-- ---- the numbers that a set lacks

other_digit : (x y : ℕ) → x < 2 → y < 2 → x + y ≡ 1 → eqb x 1 ≡ not (eqb y 1)
other_digit =
    two (λ x y. x + y ≡ 1 → eqb x 1 ≡ not (eqb y 1))
    (λ e. absurd (omega arith)) (λ e. refl) (λ e. refl) (λ e. absurd (omega arith))

pub bit_not : (n a i : ℕ) → a < 2 ^ n → i < n → bit (2 ^ n - 1 - a) i ≡ not (bit a i)
unfolding bit
bit_not zero a i h lt = absurd (omega arith)
bit_not (suc n) a zero h lt =
    let p = pow-suc 2 n in
    other_digit ((2 ^ suc n - 1 - a) % 2) (a % 2) (omega arith) (omega arith) (omega arith)
bit_not (suc n) a (suc i) h lt =
    let p = pow-suc 2 n in
    let e : (2 ^ suc n - 1 - a) / 2 ≡ 2 ^ n - 1 - a / 2 = omega arith in
    rw e (bit_not n (a / 2) i (omega arith) (omega arith))

-- the members of a set that another lacks
pub without : (n a b : ℕ) → a < 2 ^ n → b < 2 ^ n → bit_and a (2 ^ n - 1 - b) ≡ mask n (λ i. bit a i && not (bit b i))
without n a b ha hb =
    mask_is n (bit_and a (2 ^ n - 1 - b)) _ (let l = and_le_l a (2 ^ n - 1 - b) in omega arith)
    (λ i lt. bit_and_lem a (2 ^ n - 1 - b) i ∙ rw (bit_not n b i hb lt))

-- ---- a subset

pub subset_is : (a b : ℕ) → (eqb (bit_and a b) a ≡ true) ↔ ((i : ℕ) → bit a i ≡ true → bit b i ≡ true)
subset_is a b = (
  λ e i y.
      and_right (bit a i) (bit b i)
      (sym (bit_and_lem a b i) ∙ ap (λ (x : ℕ). bit x i) (eqb_is (bit_and a b) a e) ∙ y),
  λ h. eqb_yes (bit_and a b) a (bits_ext (bit_and a b) a (λ i. bit_and_lem a b i
      ∙ both_ways (bit a i && bit b i) (bit a i) (λ t. and_left (bit a i) (bit b i) t) (λ t. and_make t (h i t)))),
)

-- ---- one bit by a shift

pub bit_shift : (i m : ℕ) → bit m i ≡ eqb (m / 2 ^ i % 2) 1
unfolding bit
bit_shift zero m = let e : m / 2 ^ 0 ≡ m = omega arith in rw e
bit_shift (suc i) m =
    let e : m / 2 / 2 ^ i ≡ m / 2 ^ suc i = div-div-eq-div-mul m 2 (2 ^ i) ∙ ap (λ (x : ℕ). m / x) (let q = pow-suc 2 i in omega arith) in
    bit_shift i (m / 2) ∙ rw e

-- the byte with one bit, as the machine shifts it
pub one_shifted : (i : ℕ) → i < 8 → 1 * 2 ^ i % 256 ≡ 2 ^ i
one_shifted i h = let q : 2 ^ i < 2 ^ 8 = pow-lt h in omega arith

-- ---- count of ones

digit_odd : (m : ℕ) → m % 2 ≡ digit (eqb (m % 2) 1)
digit_odd m = by_test (eqb (m % 2) 1)
    (λ y. let e = eqb_is (m % 2) 1 y in rw y e)
    (λ z. let d = differs (m % 2) 1 z in rw z (omega arith))

pub ones_count : (n m : ℕ) → m < 2 ^ n → ones m ≡ count n (bit m)
unfolding count bit ones ones_in
ones_count zero m h = let e : m ≡ 0 = omega arith in rw e
ones_count (suc n) m h =
    let r = ones_count n (m / 2) (let q : m < 2 ^ n * 2 = rw (← pow-suc) h in omega arith) in
    ones_step m ∙ rw (r) (ap (λ (x : ℕ). x + count n (bit (m / 2))) (digit_odd m))
