-- Laws of masks and their bits. Only the checker need believe this file.
use mathlib.Core.Path.{◌≡◌, refl, sym, ◌∙◌}
use mathlib.Core.Logic.{by_cases}
use mathlib.Core.Bool.{Bool, true, false}
use Prim.Native.Nat.{ℕ, zero, suc, ◌+◌, ◌-◌, ◌*◌, ◌/◌, ◌%◌, ◌^◌, ◌≤◌, ◌<◌}
use native.Mathlib.Omega.{arith}
use native.Mathlib.Nat.{not-suc-le-zero, pow-suc}
use native.Mathlib.Decide.{dec_lt}
use lib.Dec.{ltb, eqb}
use lib.Arith.{bin_ind}
use lib.Pow.{pow_pos}
use Rattle.network.specs.Mask.{bit, digit, mask}
use Rattle.network.proofs.Booleans.{by_test, clash, differs, eqb_is, ltb_yes, ltb_is}

pub bit_zero : (i : ℕ) → bit 0 i ≡ false
unfolding bit
bit_zero zero = refl
bit_zero (suc i) = bit_zero i

-- the lowest digit, and the others
pub low_digit : (b : Bool) (m : ℕ) → eqb ((digit b + 2 * m) % 2) 1 ≡ b
low_digit true m = let e : (1 + 2 * m) % 2 ≡ 1 = omega arith in rw e
low_digit false m = let e : (0 + 2 * m) % 2 ≡ 0 = omega arith in rw e

pub high_digits : (b : Bool) (m : ℕ) → (digit b + 2 * m) / 2 ≡ m
high_digits true m = omega arith
high_digits false m = omega arith

-- ---- the mask of a set

pub bit_mask : (n : ℕ) (f : ℕ → Bool) (i : ℕ) → i < n → bit (mask n f) i ≡ f i
unfolding bit mask
bit_mask zero f i h = absurd (not-suc-le-zero h)
bit_mask (suc n) f zero h = low_digit (f zero) (mask n (λ i. f (suc i)))
bit_mask (suc n) f (suc i) h = rw (high_digits (f zero) (mask n (λ i. f (suc i)))) (bit_mask n (λ i. f (suc i)) i (omega arith))

pub bit_mask_above : (n : ℕ) (f : ℕ → Bool) (i : ℕ) → n ≤ i → bit (mask n f) i ≡ false
unfolding bit mask
bit_mask_above zero f i h = bit_zero i
bit_mask_above (suc n) f zero h = absurd (not-suc-le-zero h)
bit_mask_above (suc n) f (suc i) h =
    rw (high_digits (f zero) (mask n (λ i. f (suc i)))) (bit_mask_above n (λ i. f (suc i)) i (omega arith))

pub mask_lt : (n : ℕ) (f : ℕ → Bool) → mask n f < 2 ^ n
unfolding mask
mask_lt zero f = omega arith
mask_lt (suc n) f = go (f zero) (mask_lt n (λ i. f (suc i)))
  where
    go : (b : Bool) → mask n (λ i. f (suc i)) < 2 ^ n → digit b + 2 * mask n (λ i. f (suc i)) < 2 ^ suc n
    go true h = rw pow-suc (omega arith)
    go false h = rw pow-suc (omega arith)

pub mask_cong : (n : ℕ) (f g : ℕ → Bool) → ((i : ℕ) → i < n → f i ≡ g i) → mask n f ≡ mask n g
unfolding mask
mask_cong zero f g h = refl
mask_cong (suc n) f g h = rw (h zero (omega arith), mask_cong n (λ i. f (suc i)) (λ i. g (suc i)) (λ i lt. h (suc i) (omega arith)))

pub in_mask : (n : ℕ) (f : ℕ → Bool) (i : ℕ) → bit (mask n f) i ≡ true → (i < n) × (f i ≡ true)
in_mask n f i e =
    by_cases (dec_lt i n)
    (λ lt. (lt, sym (bit_mask n f i lt) ∙ e))
    (λ ge. clash e (bit_mask_above n f i (omega arith)))

-- ---- numbers and their bits

pub bit_above : (n m i : ℕ) → m < 2 ^ n → n ≤ i → bit m i ≡ false
unfolding bit
bit_above zero m i h g = let e : m ≡ 0 = omega arith in rw e (bit_zero i)
bit_above (suc n) m zero h g = absurd (not-suc-le-zero g)
bit_above (suc n) m (suc i) h g = bit_above n (m / 2) i (let q : m < 2 ^ n * 2 = rw (← pow-suc) h in omega arith) (omega arith)

pub no_bits : (m : ℕ) → ((i : ℕ) → bit m i ≡ false) → m ≡ 0
unfolding bit
no_bits m = bin_ind (λ (x : ℕ). ((i : ℕ) → bit x i ≡ false) → x ≡ 0) (λ h. refl) step m
  where
    step : (x : ℕ) → (((i : ℕ) → bit (x / 2) i ≡ false) → x / 2 ≡ 0) → ((i : ℕ) → bit x i ≡ false) → x ≡ 0
    step x ih h = let a : x / 2 ≡ 0 = ih (λ i. h (suc i)) in let d = differs (x % 2) 1 (h zero) in omega arith

pub bits_lt : (n m : ℕ) → ((i : ℕ) → bit m i ≡ true → i < n) → m < 2 ^ n
unfolding bit
bits_lt zero m h =
    let e : m ≡ 0 = no_bits m (λ i. by_test (bit m i) (λ y. absurd (not-suc-le-zero (h i y))) (λ z. z)) in
    omega arith
bits_lt (suc n) m h =
    let q : m / 2 < 2 ^ n = bits_lt n (m / 2) (λ i y. let r = h (suc i) y in omega arith) in
    rw pow-suc (omega arith)

same_parity : (a b : ℕ) → eqb (a % 2) 1 ≡ eqb (b % 2) 1 → a % 2 ≡ b % 2
same_parity a b e =
    by_test (eqb (b % 2) 1)
    (λ y. let p = eqb_is (a % 2) 1 (e ∙ y) in let q = eqb_is (b % 2) 1 y in omega arith)
    (λ z. let p = differs (a % 2) 1 (e ∙ z) in let q = differs (b % 2) 1 z in omega arith)

-- two numbers are equal where their bits are
pub bits_ext : (a b : ℕ) → ((i : ℕ) → bit a i ≡ bit b i) → a ≡ b
unfolding bit
bits_ext a =
    bin_ind
    (λ (x : ℕ). (b : ℕ) → ((i : ℕ) → bit x i ≡ bit b i) → x ≡ b)
    (λ b h. sym (no_bits b (λ i. sym (h i) ∙ bit_zero i)))
    step
    a
  where
    step :
        (x : ℕ) → ((b : ℕ) → ((i : ℕ) → bit (x / 2) i ≡ bit b i) → x / 2 ≡ b) → (b : ℕ) →
        ((i : ℕ) → bit x i ≡ bit b i) → x ≡ b
    step x ih b h = let q = ih (b / 2) (λ i. h (suc i)) in let r = same_parity x b (h zero) in omega arith

-- a set whose members are below n, in a wider range
pub mask_narrow : (n w : ℕ) (f : ℕ → Bool) → n ≤ w → ((i : ℕ) → f i ≡ true → i < n) → mask w f ≡ mask n f
mask_narrow n w f le small =
    bits_ext (mask w f) (mask n f) (λ i. by_cases (dec_lt i n)
    (λ lt. bit_mask w f i (omega arith) ∙ sym (bit_mask n f i lt))
    (λ ge. above i ge ∙ sym (bit_mask_above n f i (omega arith))))
  where
    above : (i : ℕ) → ¬ (i < n) → bit (mask w f) i ≡ false
    above i ge =
        by_cases (dec_lt i w)
        (λ lt. bit_mask w f i lt ∙ by_test (f i) (λ y. absurd (ge (small i y))) (λ z. z))
        (λ past. bit_mask_above w f i (omega arith))

-- a number below 2 ^ n is the mask of what its bits are
pub mask_is : (n m : ℕ) (f : ℕ → Bool) → m < 2 ^ n → ((i : ℕ) → i < n → bit m i ≡ f i) → m ≡ mask n f
mask_is n m f h b =
    bits_ext m (mask n f) (λ i. by_cases (dec_lt i n)
    (λ lt. b i lt ∙ sym (bit_mask n f i lt))
    (λ ge. bit_above n m i h (omega arith) ∙ sym (bit_mask_above n f i (omega arith))))

-- ---- the first numbers

pub mask_full : (n : ℕ) → mask n (λ i. true) ≡ 2 ^ n - 1
unfolding mask
mask_full zero = refl
mask_full (suc n) = let r = mask_full n in let p = pow-suc 2 n in let q = pow_pos n in omega arith

pub mask_first : (n w : ℕ) → n ≤ w → mask w (λ i. ltb i n) ≡ mask n (λ i. true)
mask_first n w le =
    mask_narrow n w (λ i. ltb i n) le (λ i y. ltb_is i n y) ∙ mask_cong n (λ i. ltb i n) (λ i. true) (λ i lt. ltb_yes i n lt)
