-- Laws of tests, counts and sums over the numbers below a bound. Only the checker need believe this file.
use mathlib.Core.Path.{◌≡◌, refl, sym, ◌∙◌}
use mathlib.Core.Logic.{by_cases}
use mathlib.Core.Bool.{Bool, true, false, not, ◌&&◌, and-true, and_assoc}
use Prim.Native.Nat.{ℕ, zero, suc, ◌+◌, ◌*◌, ◌≤◌, ◌<◌}
use native.Mathlib.Omega.{arith}
use native.Mathlib.Nat.{not-suc-le-zero}
use native.Mathlib.Numerals.{add-one}
use native.Mathlib.Decide.{dec_lt, ℕ_discrete}
use lib.Dec.{eqb}
use Rattle.network.specs.Mask.{digit, count, all_below, first_below}
use Rattle.network.specs.Below.{any_below, sum_below}
use Rattle.network.proofs.Booleans.{by_test, clash, and_left, and_right, and_make, or_right, eqb_yes, eqb_no, eqb_is}

-- ---- all, some

pub all_at : (n : ℕ) (f : ℕ → Bool) → all_below n f ≡ true → (i : ℕ) → i < n → f i ≡ true
unfolding all_below
all_at zero f t i h = absurd (not-suc-le-zero h)
all_at (suc n) f t i h =
    by_cases (dec_lt i n)
    (λ lt. all_at n f (and_left (all_below n f) (f n) t) i lt)
    (λ ge. let e : i ≡ n = omega arith in rw e (and_right (all_below n f) (f n) t))

pub all_make : (n : ℕ) (f : ℕ → Bool) → ((i : ℕ) → i < n → f i ≡ true) → all_below n f ≡ true
unfolding all_below
all_make zero f h = refl
all_make (suc n) f h = and_make (all_make n f (λ i lt. h i (omega arith))) (h n (omega arith))

pub any_at : (n : ℕ) (f : ℕ → Bool) → any_below n f ≡ true → (i : ℕ) × (i < n) × (f i ≡ true)
unfolding any_below
any_at zero f t = clash t refl
any_at (suc n) f t =
    by_test (any_below n f)
    (λ e. let r = any_at n f e in (r.0, omega arith, r.2))
    (λ e. (n, omega arith, rw e at t))

pub any_make : (n : ℕ) (f : ℕ → Bool) (i : ℕ) → i < n → f i ≡ true → any_below n f ≡ true
unfolding any_below
any_make zero f i h t = absurd (not-suc-le-zero h)
any_make (suc n) f i h t =
    by_cases (dec_lt i n)
    (λ lt. rw (any_make n f i lt t))
    (λ ge. let e : i ≡ n = omega arith in or_right (any_below n f) (rw e at t))

pub all_cong : (n : ℕ) (f g : ℕ → Bool) → ((i : ℕ) → i < n → f i ≡ g i) → all_below n f ≡ all_below n g
unfolding all_below
all_cong zero f g h = refl
all_cong (suc n) f g h = rw (h n (omega arith), all_cong n f g (λ i lt. h i (omega arith)))

pub any_cong : (n : ℕ) (f g : ℕ → Bool) → ((i : ℕ) → i < n → f i ≡ g i) → any_below n f ≡ any_below n g
unfolding any_below
any_cong zero f g h = refl
any_cong (suc n) f g h = rw (h n (omega arith), any_cong n f g (λ i lt. h i (omega arith)))

-- ---- one after another, as a loop does (it adds 1)

module _ (f : ℕ → Bool) where
  pub all_start : all_below 0 f ≡ true
  unfolding all_below
  all_start = refl

  pub all_next : (n : ℕ) → all_below n f ≡ true → f n ≡ true → all_below (n + 1) f ≡ true
  unfolding all_below
  all_next n s t = rw add-one (and_make s t)

  pub all_fails : (n i : ℕ) → i < n → f i ≡ false → all_below n f ≡ false
  all_fails n i h z = by_test (all_below n f) (λ y. clash (all_at n f y i h) z) (λ e. e)

  pub any_next : (n : ℕ) → any_below n f ≡ false → f n ≡ false → any_below (n + 1) f ≡ false
  unfolding any_below
  any_next n s t = rw (add-one, s, t)

-- the first one apart
pub all_first : (n : ℕ) (f : ℕ → Bool) → all_below (suc n) f ≡ (f zero && all_below n (λ i. f (suc i)))
unfolding all_below
all_first zero f = sym (and-true (f zero))
all_first (suc n) f = rw (all_first n f) (and_assoc (f zero) (all_below n (λ i. f (suc i))) (f (suc n)))

-- ---- the first

first_of : (n : ℕ) (f : ℕ → Bool) (i : ℕ) → i < n → f i ≡ true → (first_below n f < n) × (f (first_below n f) ≡ true)
unfolding first_below
first_of zero f i h e = absurd (not-suc-le-zero h)
first_of (suc n) f zero h e = rw e (omega arith, e)
first_of (suc n) f (suc i) h e =
    let r = first_of n (λ i. f (suc i)) i (omega arith) e in
    by_test (f zero) (λ y. rw y (omega arith, y)) (λ z. rw z (omega arith, r.1))

pub first_at : (n : ℕ) (f : ℕ → Bool) → any_below n f ≡ true → (first_below n f < n) × (f (first_below n f) ≡ true)
first_at n f t = let r = any_at n f t in first_of n f r.0 r.1 r.2

pub before_first : (n : ℕ) (f : ℕ → Bool) (j : ℕ) → j < first_below n f → f j ≡ false
unfolding first_below
before_first zero f j h = absurd (not-suc-le-zero h)
before_first (suc n) f zero h =
    by_test (f zero) (λ y. let q : zero < zero = rw y at h in absurd (not-suc-le-zero q)) (λ z. z)
before_first (suc n) f (suc j) h =
    by_test (f zero)
    (λ y. let q : suc j < zero = rw y at h in absurd (not-suc-le-zero q))
    (λ z. let q : suc j < suc (first_below n (λ i. f (suc i))) = rw z at h in before_first n (λ i. f (suc i)) j (omega arith))

pub first_le : (n : ℕ) (f : ℕ → Bool) (u : ℕ) → f u ≡ true → first_below n f ≤ u
first_le n f u y = by_cases (dec_lt u (first_below n f)) (λ lt. clash y (before_first n f u lt)) (λ ge. omega arith)

-- two tests that agree up to the first place of the one have the same first place
pub first_same :
    (n : ℕ) (f g : ℕ → Bool) → any_below n f ≡ true → ((u : ℕ) → u ≤ first_below n f → f u ≡ g u) → first_below n g ≡ first_below n f
first_same n f g y h =
    let a = first_at n f y in
    let t = first_below n f in
    let gt : g t ≡ true = sym (h t (omega arith)) ∙ a.1 in
    let le = first_le n g t gt in
    let b = first_at n g (any_make n g t a.0 gt) in
    by_cases (dec_lt (first_below n g) t)
    (λ lt. clash (h (first_below n g) le ∙ b.1) (before_first n f (first_below n g) lt))
    (λ ge. omega arith)

-- ---- how many

digit_le : (b : Bool) → digit b ≤ 1
digit_le true = omega arith
digit_le false = omega arith

digit_mono : (a b : Bool) → (b ≡ true → a ≡ true) → digit b ≤ digit a
digit_mono a true h = rw (h refl) (omega arith)
digit_mono a false h = omega arith

digit_split : (a b : Bool) → digit a ≡ digit (a && b) + digit (a && not b)
digit_split true true = refl
digit_split true false = refl
digit_split false b = refl

pub count_le : (n : ℕ) (f : ℕ → Bool) → count n f ≤ n
unfolding count
count_le zero f = omega arith
count_le (suc n) f = let r = count_le n (λ i. f (suc i)) in let d = digit_le (f zero) in omega arith

pub count_cong : (n : ℕ) (f g : ℕ → Bool) → ((i : ℕ) → i < n → f i ≡ g i) → count n f ≡ count n g
unfolding count
count_cong zero f g h = refl
count_cong (suc n) f g h = rw (h zero (omega arith), count_cong n (λ i. f (suc i)) (λ i. g (suc i)) (λ i lt. h (suc i) (omega arith)))

pub count_mono : (n : ℕ) (f g : ℕ → Bool) → ((i : ℕ) → i < n → g i ≡ true → f i ≡ true) → count n g ≤ count n f
unfolding count
count_mono zero f g h = omega arith
count_mono (suc n) f g h =
    let r = count_mono n (λ i. f (suc i)) (λ i. g (suc i)) (λ i lt. h (suc i) (omega arith)) in
    let d = digit_mono (f zero) (g zero) (h zero (omega arith)) in
    omega arith

pub count_drop :
    (n : ℕ) (f g : ℕ → Bool) → ((i : ℕ) → i < n → g i ≡ true → f i ≡ true) → (i : ℕ) → i < n → f i ≡ true → g i ≡ false →
    count n g < count n f
unfolding count
count_drop zero f g h i lt y z = absurd (not-suc-le-zero lt)
count_drop (suc n) f g h zero lt y z =
    let r = count_mono n (λ i. f (suc i)) (λ i. g (suc i)) (λ i k. h (suc i) (omega arith)) in
    rw (y, z) (omega arith)
count_drop (suc n) f g h (suc i) lt y z =
    let r = count_drop n (λ i. f (suc i)) (λ i. g (suc i)) (λ i k. h (suc i) (omega arith)) i (omega arith) y z in
    let d = digit_mono (f zero) (g zero) (h zero (omega arith)) in
    omega arith

pub count_none : (n : ℕ) (f : ℕ → Bool) → count n f ≤ 0 → (i : ℕ) → i < n → f i ≡ false
count_none n f h i lt =
    by_test (f i)
    (λ y. let r = count_drop n f (λ j. false) (λ j k e. clash e refl) i lt y refl in absurd (omega arith))
    (λ z. z)

pub count_empty : (n : ℕ) → count n (λ i. false) ≡ 0
unfolding count
count_empty zero = refl
count_empty (suc n) = let r = count_empty n in omega arith

pub count_full : (n : ℕ) → count n (λ i. true) ≡ n
unfolding count
count_full zero = refl
count_full (suc n) = let e = count_full n in omega arith

pub count_some : (n : ℕ) (f : ℕ → Bool) (i : ℕ) → i < n → f i ≡ true → 0 < count n f
count_some n f i lt y = let r = count_drop n f (λ j. false) (λ j k e. clash e refl) i lt y refl in omega arith

-- where one number has it, some number has it
pub any_counted : (n : ℕ) (f : ℕ → Bool) → count n f ≡ 1 → any_below n f ≡ true
any_counted n f e =
    by_test (any_below n f)
    (λ y. y)
    (λ z. let a = count_mono n (λ i. false) f (λ i lt y. clash (any_make n f i lt y) z) in
    let b = count_empty n in
    absurd (omega arith))

pub count_one : (n t : ℕ) → t < n → count n (λ u. eqb t u) ≡ 1
unfolding count
count_one zero t h = absurd (not-suc-le-zero h)
count_one (suc n) zero h =
    rw (
      count_cong n (λ i. eqb zero (suc i)) (λ i. false) (λ i lt. eqb_no zero (suc i) (λ e. let q : zero ≡ suc i = e in omega arith)),
      count_empty n,
    )
count_one (suc n) (suc t) h =
    rw (
      eqb_no (suc t) zero (λ e. let q : suc t ≡ zero = e in omega arith),
      count_cong n (λ i. eqb (suc t) (suc i)) (λ i. eqb t i) (λ i lt. by_cases (ℕ_discrete t i)
          (λ e. eqb_yes (suc t) (suc i) (rw e) ∙ sym (eqb_yes t i e))
          (λ ne. eqb_no (suc t) (suc i) (λ q. ne (omega arith)) ∙ sym (eqb_no t i ne))),
      count_one n t (omega arith),
    )

pub count_split : (n : ℕ) (f h : ℕ → Bool) → count n f ≡ count n (λ i. f i && h i) + count n (λ i. f i && not (h i))
unfolding count
count_split zero f h = refl
count_split (suc n) f h =
    let a = count_split n (λ i. f (suc i)) (λ i. h (suc i)) in
    let b = digit_split (f zero) (h zero) in
    omega arith

-- the numbers below n with f go, one to one, to numbers below k with g
pub count_inj :
    (n : ℕ) (f : ℕ → Bool) (to : ℕ → ℕ) (k : ℕ) (g : ℕ → Bool) →
    ((i : ℕ) → i < n → f i ≡ true → (to i < k) × (g (to i) ≡ true)) →
    ((i j : ℕ) → i < n → j < n → f i ≡ true → f j ≡ true → to i ≡ to j → i ≡ j) → count n f ≤ count k g
unfolding count
count_inj zero f to k g h inj = omega arith
count_inj (suc n) f to k g h inj =
    by_test (f zero)
    (λ y. let g' : ℕ → Bool = λ x. g x && not (eqb x (to zero)) in
    let at0 = h zero (omega arith) y in
    let gone : g' (to zero) ≡ false = rw (at0.1, eqb_yes (to zero) (to zero) refl) in
    let drop = count_drop k g g' (λ x lt e. and_left (g x) (not (eqb x (to zero))) e) (to zero) at0.0 at0.1 gone in
    let r = count_inj n (λ i. f (suc i)) (λ i. to (suc i)) k g'
    (λ i lt e. let q = h (suc i) (omega arith) e in (
      q.0,
      and_make q.1 (by_test (eqb (to (suc i)) (to zero))
          (λ z. let x : suc i ≡ 0 = inj (suc i) zero (omega arith) (omega arith) e y (eqb_is _ _ z) in absurd (omega arith))
          (λ z. rw z)),
    ))
    (λ i j li lj ei ej e. let x : suc i ≡ suc j = inj (suc i) (suc j) (omega arith) (omega arith) ei ej e in omega arith) in
    rw y (omega arith))
    (λ z. let r = count_inj n (λ i. f (suc i)) (λ i. to (suc i)) k g (λ i lt e. h (suc i) (omega arith) e)
    (λ i j li lj ei ej e. let x : suc i ≡ suc j = inj (suc i) (suc j) (omega arith) (omega arith) ei ej e in omega arith) in
    rw z (omega arith))

-- ---- sums

pub sum_le : (n : ℕ) (f : ℕ → ℕ) (b : ℕ) → ((k : ℕ) → k < n → f k ≤ b) → sum_below n f ≤ n * b
unfolding sum_below
sum_le zero f b h = omega arith
sum_le (suc n) f b h = let r = sum_le n f b (λ k lt. h k (omega arith)) in let q = h n (omega arith) in omega arith

pub sum_cong : (n : ℕ) (f g : ℕ → ℕ) → ((k : ℕ) → k < n → f k ≡ g k) → sum_below n f ≡ sum_below n g
unfolding sum_below
sum_cong zero f g h = refl
sum_cong (suc n) f g h = rw (h n (omega arith), sum_cong n f g (λ k lt. h k (omega arith)))

pub sum_mono : (n : ℕ) (f g : ℕ → ℕ) → ((k : ℕ) → k < n → f k ≤ g k) → sum_below n f ≤ sum_below n g
unfolding sum_below
sum_mono zero f g h = omega arith
sum_mono (suc n) f g h = let r = sum_mono n f g (λ k lt. h k (omega arith)) in let q = h n (omega arith) in omega arith

-- .. and the same where the sums are
pub sum_same :
    (n : ℕ) (f g : ℕ → ℕ) → ((k : ℕ) → k < n → f k ≤ g k) → sum_below n g ≤ sum_below n f → (k : ℕ) → k < n → f k ≡ g k
unfolding sum_below
sum_same zero f g h t k lt = absurd (omega arith)
sum_same (suc n) f g h t k lt =
    let below : (i : ℕ) → i < n → f i ≤ g i = λ i l. h i (omega arith) in
    let rest = sum_mono n f g below in
    let last = h n (omega arith) in
    by_cases (dec_lt k n)
    (sum_same n f g below (omega arith) k)
    (λ ge. let e : k ≡ n = omega arith in rw e (omega arith))
