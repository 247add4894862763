-- Laws of the numbering of masks: each mask inside a set has one number, and the numbering rises. Only the checker need believe this file.
use mathlib.Core.Path.{◌≡◌, refl, sym, ◌∙◌}
use mathlib.Core.Logic.{by_cases}
use mathlib.Core.Bool.{Bool, true, false}
use Prim.Native.Nat.{ℕ, zero, suc, ◌+◌, ◌*◌, ◌/◌, ◌%◌, ◌^◌, ◌≤◌, ◌<◌}
use native.Mathlib.Omega.{arith}
use native.Mathlib.Nat.{not-suc-le-zero, pow-suc, zero-add}
use native.Mathlib.Decide.{dec_lt}
use lib.Dec.{eqb}
use Rattle.network.specs.Mask.{bit, mask, count, submask}
use Rattle.network.specs.Below.{rank}
use Rattle.network.proofs.Booleans.{by_test, clash, differs, eqb_is}
use Rattle.network.proofs.BelowLaws.{count_cong, count_empty}
use Rattle.network.proofs.MaskLaws.{bit_zero, no_bits, low_digit, high_digits}

double : (c : ℕ) → 2 ^ (1 + c) ≡ 2 * 2 ^ c
double c = let e : 1 + c ≡ suc c = omega arith in rw e (rw pow-suc (omega arith))

pub rank_lt : (n : ℕ) (f : ℕ → Bool) (m : ℕ) → rank n f m < 2 ^ count n f
unfolding rank count
rank_lt zero f m = omega arith
rank_lt (suc n) f m =
    let r = rank_lt n (λ i. f (suc i)) (m / 2) in
    by_test (f zero) (λ y. rw y (rw double (omega arith))) (λ z. rw z (rw zero-add r))

pub submask_rank :
    (n : ℕ) (f : ℕ → Bool) (m : ℕ) → ((i : ℕ) → bit m i ≡ true → (i < n) × (f i ≡ true)) → submask n f (rank n f m) ≡ m
unfolding rank submask bit
submask_rank zero f m k = sym (no_bits m (λ i. by_test (bit m i) (λ y. absurd (not-suc-le-zero (k i y).0)) (λ z. z)))
submask_rank (suc n) f m k =
    let r = submask_rank n (λ i. f (suc i)) (m / 2) (λ i y. let q = k (suc i) y in let a = q.0 in (omega arith, q.1)) in
    let g = rank n (λ i. f (suc i)) (m / 2) in
    by_test (f zero)
    (λ y. let a : (m % 2 + 2 * g) % 2 ≡ m % 2 = omega arith in
    let b : (m % 2 + 2 * g) / 2 ≡ g = omega arith in
    rw y (rw (a, b, r) (omega arith)))
    (λ z. let d = differs (m % 2) 1 (by_test (eqb (m % 2) 1) (λ y. clash (k zero y).1 z) (λ q. q)) in
    rw z (rw r (omega arith)))

pub rank_submask : (n : ℕ) (f : ℕ → Bool) (k : ℕ) → k < 2 ^ count n f → rank n f (submask n f k) ≡ k
unfolding rank submask count
rank_submask zero f k lt = omega arith
rank_submask (suc n) f k lt =
    by_test (f zero)
    (λ y. let x = submask n (λ i. f (suc i)) (k / 2) in
    let a : (k % 2 + 2 * x) % 2 ≡ k % 2 = omega arith in
    let b : (k % 2 + 2 * x) / 2 ≡ x = omega arith in
    let q : k < 2 * 2 ^ count n (λ i. f (suc i)) = rw (y, double) at lt in
    rw y (rw (a, b, rank_submask n (λ i. f (suc i)) (k / 2) (omega arith)) (omega arith)))
    (λ z. let x = submask n (λ i. f (suc i)) k in
    let b : 2 * x / 2 ≡ x = omega arith in
    rw z (rw b (rank_submask n (λ i. f (suc i)) k (rw (z, zero-add) at lt))))

-- only members of the set
pub in_submask : (n : ℕ) (f : ℕ → Bool) (k i : ℕ) → bit (submask n f k) i ≡ true → (i < n) × (f i ≡ true)
unfolding submask bit
in_submask zero f k i b = clash b (bit_zero i)
in_submask (suc n) f k zero b = (
  omega arith,
  by_test (f zero)
      (λ y. y)
      (λ z. let x = submask n (λ i. f (suc i)) k in
      let q : bit (2 * x) zero ≡ true = rw z at b in
      let r : 2 * x % 2 ≡ 1 = eqb_is (2 * x % 2) 1 q in
      absurd (omega arith)),
)
in_submask (suc n) f k (suc i) b =
    let r : (i < n) × (f (suc i) ≡ true) = by_test (f zero)
    (λ y. let x = submask n (λ i. f (suc i)) (k / 2) in
    let q : bit ((k % 2 + 2 * x) / 2) i ≡ true = rw y at b in
    let e : (k % 2 + 2 * x) / 2 ≡ x = omega arith in
    in_submask n (λ i. f (suc i)) (k / 2) i (rw e at q))
    (λ z. let x = submask n (λ i. f (suc i)) k in
    let q : bit (2 * x / 2) i ≡ true = rw z at b in
    let e : 2 * x / 2 ≡ x = omega arith in
    in_submask n (λ i. f (suc i)) k i (rw e at q)) in
    (omega arith, r.1)

-- a later number is a larger mask
pub submask_rises : (n : ℕ) (f : ℕ → Bool) (j k : ℕ) → j < k → k < 2 ^ count n f → submask n f j < submask n f k
unfolding submask count
submask_rises zero f j k lt h = absurd (omega arith)
submask_rises (suc n) f j k lt h =
    by_test (f zero)
    (λ y. let q : k < 2 * 2 ^ count n (λ i. f (suc i)) = rw (y, double) at h in
    rw y (by_cases (dec_lt (j / 2) (k / 2))
    (λ l. let r = submask_rises n (λ i. f (suc i)) (j / 2) (k / 2) l (omega arith) in omega arith)
    (λ g. let e : j / 2 ≡ k / 2 = omega arith in rw e (omega arith))))
    (λ z. let r = submask_rises n (λ i. f (suc i)) j k lt (rw (z, zero-add) at h) in rw z (omega arith))

pub submask_order : (n : ℕ) (f : ℕ → Bool) (j k : ℕ) → j < 2 ^ count n f → submask n f j < submask n f k → k < 2 ^ count n f → j < k
submask_order n f j k hj lt hk =
    by_cases (dec_lt j k)
    (λ l. l)
    (λ g. by_cases (dec_lt k j)
    (λ l. let r = submask_rises n f k j l hj in absurd (omega arith))
    (λ g'. let e : j ≡ k = omega arith in let q : submask n f k < submask n f k = rw e at lt in absurd (omega arith)))

pub submask_zero : (n : ℕ) (f : ℕ → Bool) → submask n f 0 ≡ 0
unfolding submask
submask_zero zero f = refl
submask_zero (suc n) f =
    let r = submask_zero n (λ i. f (suc i)) in
    by_test (f zero) (λ y. rw y (rw r)) (λ z. rw z (rw r))

-- behind the last number the members of the set no longer show
pub submask_end : (n : ℕ) (f : ℕ → Bool) → submask n f (2 ^ count n f) ≡ 0
unfolding submask count
submask_end zero f = refl
submask_end (suc n) f =
    let r = submask_end n (λ i. f (suc i)) in
    by_test (f zero)
    (λ y. let w = 2 ^ count n (λ i. f (suc i)) in
    let a : 2 * w % 2 ≡ 0 = omega arith in
    let b : 2 * w / 2 ≡ w = omega arith in
    rw y (rw double (rw (a, b, r))))
    (λ z. rw z (rw (zero-add, r)))

-- ---- a set by its mask, in a wider range

pub submask_empty : (n k : ℕ) → submask n (bit 0) k ≡ 0
unfolding submask bit
submask_empty zero k = refl
submask_empty (suc n) k = rw (submask_empty n k)

pub submask_wide : (n w : ℕ) (f : ℕ → Bool) (k : ℕ) → n ≤ w → submask w (bit (mask n f)) k ≡ submask n f k
unfolding submask mask bit
submask_wide zero w f k h = submask_empty w k
submask_wide (suc n) zero f k h = absurd (not-suc-le-zero h)
submask_wide (suc n) (suc w) f k h =
    rw (
      low_digit (f zero) (mask n (λ i. f (suc i))),
      high_digits (f zero) (mask n (λ i. f (suc i))),
      submask_wide n w (λ i. f (suc i)) (k / 2) (omega arith),
      submask_wide n w (λ i. f (suc i)) k (omega arith),
    )

pub count_wide : (n w : ℕ) (f : ℕ → Bool) → n ≤ w → count w (bit (mask n f)) ≡ count n f
unfolding count mask bit
count_wide zero w f h = count_cong w (bit 0) (λ i. false) (λ i lt. bit_zero i) ∙ count_empty w
count_wide (suc n) zero f h = absurd (not-suc-le-zero h)
count_wide (suc n) (suc w) f h =
    rw (
      low_digit (f zero) (mask n (λ i. f (suc i))),
      high_digits (f zero) (mask n (λ i. f (suc i))),
      count_wide n w (λ i. f (suc i)) (omega arith),
    )
