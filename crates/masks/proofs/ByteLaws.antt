-- Laws of masks as bytes: how many submasks there are, the lowest member, submasks with and without it; masks of the first n letters. Only
-- the checker need believe this file.
use mathlib.Core.Path.{◌≡◌, refl}
use mathlib.Core.Logic.{◌↔◌, by_cases}
use mathlib.Core.Bool.{true, false}
use Prim.Native.Nat.{ℕ, zero, suc, ◌+◌, ◌-◌, ◌*◌, ◌/◌, ◌%◌, ◌^◌, ◌≤◌, ◌<◌}
use native.Mathlib.Omega.{arith}
use native.Mathlib.Decide.{dec_lt}
use native.Mathlib.Nat.{pow-suc, mul_assoc, div-eq_of_lt, div-lt_iff_lt-mul}
use lib.Dec.{ltb, eqb}
use lib.Pow.{pow_pos, pow_mono}
use lib.Count.{count_trailing_zeros}
use Rattle.network.specs.Mask.{bit, count, first_below, submask}
use Rattle.network.proofs.Booleans.{by_test, clash, both_ways, ltb_yes, ltb_is, eqb_yes, eqb_is, differs}
use Rattle.network.proofs.BelowLaws.{count_le}
use Rattle.network.proofs.MachineLaws.{one_shifted}
use Rattle.network.proofs.MaskLaws.{bit_above, bits_lt}

-- a byte has at most 8 members, so 16 bits hold the number of its submasks
pub submasks_fit : (m : ℕ) → 2 ^ count 8 (bit m) < 65536
submasks_fit m = let p = pow_mono {i = count 8 (bit m)} {j = 8} (count_le 8 (bit m)) in omega arith

pub trailing_first : (n m : ℕ) → count_trailing_zeros n m ≡ first_below n (bit m)
unfolding count_trailing_zeros first_below bit
trailing_first zero m = refl
trailing_first (suc n) m =
    let r = trailing_first n (m / 2) in
    by_test (eqb (m % 2) 1)
    (λ y. let e = eqb_is (m % 2) 1 y in rw (y, e))
    (λ z. let d = differs (m % 2) 1 z in
    let e : m % 2 ≡ 0 = omega arith in
    rw (z, e, r))

-- ---- the lowest member and the others

-- low is the lowest member of m, as a mask: the lowest digit of k says whether submask k has it, and the others number what is left of m
pub record Parted (n m k low : ℕ) : Type 0 where
  pub some : 0 < low
  pub part : low ≤ m
  pub others : submask n (bit m) k ≡ k % 2 * low + submask n (bit (m - low)) (k / 2)

parted_odd : (n m k : ℕ) → eqb (m % 2) 1 ≡ true → Parted (suc n) m k 1
unfolding submask bit
parted_odd n m k y =
    let e = eqb_is (m % 2) 1 y in
    let e1 : (m - 1) % 2 ≡ 0 = omega arith in
    let e2 : (m - 1) / 2 ≡ m / 2 = omega arith in
    record { some = omega arith; part = omega arith; others = rw (y, e1, e2) (omega arith) }

parted_even : (n m k low : ℕ) → eqb (m % 2) 1 ≡ false → Parted n (m / 2) k low → Parted (suc n) m k (low * 2)
unfolding submask bit
parted_even n m k low z r =
    let d = differs (m % 2) 1 z in
    let s = r.part in
    let e1 : (m - low * 2) % 2 ≡ 0 = omega arith in
    let e2 : (m - low * 2) / 2 ≡ m / 2 - low = omega arith in
    let e3 = mul_assoc (k % 2) low 2 in
    record { some = omega arith; part = omega arith; others = rw (z, e1, e2, r.others) (omega arith) }

parted : (n m k : ℕ) → 0 < m → m < 2 ^ n → Parted n m k (2 ^ first_below n (bit m))
unfolding first_below bit
parted zero m k p h = absurd (omega arith)
parted (suc n) m k p h =
    by_test (eqb (m % 2) 1)
    (λ y. rw y (parted_odd n m k y))
    (λ z. let d = differs (m % 2) 1 z in
    let r = parted n (m / 2) k (omega arith) (let q = pow-suc 2 n in omega arith) in
    rw (z, pow-suc) (parted_even n m k (2 ^ first_below n (bit (m / 2))) z r))

-- as the code shifts it: t is the lowest member of the byte m
pub record LowestByte (m k t : ℕ) : Type 0 where
  pub small : t < 8
  pub parted : Parted 8 m k (1 * 2 ^ t % 256)

pub lowest_byte : (m k t : ℕ) → t ≡ first_below 8 (bit m) → 0 < m → m < 2 ^ 8 → LowestByte m k t
lowest_byte m k t e p h =
    let r : Parted 8 m k (2 ^ t) = rw e (parted 8 m k p h) in
    let l = r.part in
    let small : t < 8 = by_cases (dec_lt t 8) (λ lt. lt) (λ ge. let g = pow_mono {i = 8} {j = t} (omega arith) in absurd (omega arith)) in
    record { small = small; parted = rw (one_shifted t small) r }

-- ---- masks of the first n letters

-- a mask that is gone when n digits are shifted away
pub among_is : (m n : ℕ) → eqb (m / 2 ^ n) 0 ≡ ltb m (2 ^ n)
among_is m n =
    both_ways (eqb (m / 2 ^ n) 0) (ltb m (2 ^ n))
    (λ y. let e = eqb_is (m / 2 ^ n) 0 y in
    let lt : m < 1 * 2 ^ n = (div-lt_iff_lt-mul (pow_pos n)).0 (omega arith) in
    ltb_yes m (2 ^ n) (omega arith))
    (λ y. eqb_yes (m / 2 ^ n) 0 (div-eq_of_lt (ltb_is m (2 ^ n) y)))

pub among_all : (m n : ℕ) → m < 256 → 8 ≤ n → ltb m (2 ^ n) ≡ true
among_all m n h k = ltb_yes m (2 ^ n) (let q = pow_mono {i = 8} {j = n} k in omega arith)

pub says_among : (m n : ℕ) → (ltb m (2 ^ n) ≡ true) ↔ ((l : ℕ) → bit m l ≡ true → l < n)
says_among m n = (
  λ t l y.
      by_cases (dec_lt l n) (λ lt. lt) (λ ge. clash y (bit_above n m l (ltb_is m (2 ^ n) t) (omega arith))),
  λ h. ltb_yes m (2 ^ n) (bits_lt n m h),
)
