-- Laws of the passes: limits stay in their range, no schedule within them is lost, and where no limit of a point and itself is negative they
-- are closed under every point passed. Only the checker need believe this file.
use mathlib.Core.Path.{◌≡◌, refl}
use mathlib.Core.Logic.{◌⊎◌, inl, inr, ⊎_elim, by_cases}
use mathlib.Core.List.{List, []}
use Prim.Native.Nat.{ℕ, zero, suc, ◌+◌, ◌-◌, ◌*◌, ◌^◌, min, ◌≤◌, ◌<◌}
use native.Mathlib.Omega.{arith}
use native.Mathlib.Nat.{le_refl, le_trans, pow-suc}
use native.Mathlib.Numerals.{add-one}
use native.Mathlib.Decide.{dec_lt}
use lib.Pow.{pow_mono}
use lib.ListN.{get_or}
use Rattle.network.specs.Network.{Schedule}
use Rattle.network.specs.Limits.{bias, limit_at}
use Rattle.network.proofs.LimitLaws.{Within}
use Rattle.plan.specs.Plan.{listed}
use Rattle.plan.proofs.SliceLaws.{get_listed}
use Rattle.differences.specs.Tabling.{passed, passes}
use Rattle.differences.specs.Ranges.{Joins, InRange}

-- an entry of a table that is listed
pub listed_at :
    (f : ℕ → ℕ → ℕ) (x y : ℕ) → x < 8 → y < 8 → limit_at (listed 8 (λ i. listed 8 (λ j. f i j))) x y ≡ f x y
listed_at f x y lx ly =
    rw (get_listed [] 8 (λ i. listed 8 (λ j. f i j)) x lx, get_listed 0 8 (λ j. f x j) y ly) refl

-- ---- one pass

-- r is a, or s without the bias where that is less
abbrev Cut : ℕ → ℕ → ℕ → Type 0
Cut a s r = (r ≤ a) × (r + bias ≤ s) × ((r ≡ a) ⊎ (r + bias ≡ s))

cut : (a s : ℕ) → bias ≤ s → Cut a s (min a (s - bias))
cut a s h =
    by_cases (dec_lt a (s - bias))
    (λ lt. (omega arith, omega arith, inl (omega arith)))
    (λ ge. (omega arith, omega arith, inr (omega arith)))

-- two limits before the pass over k can be added
pub joins : (t : List (List ℕ)) (k x : ℕ) → k < 8 → x < 8 → InRange (32768 * 2 ^ k) t → Joins (limit_at t x k) (get_or t k [])
joins t k x lk lx in_range y ly =
    let a = in_range x k lx lk in
    let b = in_range k y lk ly in
    let few : 2 ^ k ≤ 128 = pow_mono {j = 7} (omega arith) in
    (omega arith, omega arith)

pass_at :
    (t : List (List ℕ)) (k x y : ℕ) → k < 8 → x < 8 → y < 8 → InRange (32768 * 2 ^ k) t →
    Cut (limit_at t x y) (limit_at t x k + limit_at t k y) (limit_at (passed k t) x y)
unfolding passed
pass_at t k x y lk lx ly in_range =
    rw (listed_at (λ i j. min (limit_at t i j) (limit_at t i k + limit_at t k j - bias)) x y lx ly)
    (cut (limit_at t x y) (limit_at t x k + limit_at t k y) (joins t k x lk lx in_range y ly).0)

-- a schedule within three limits is within the one that is lowered to the sum of two
through : (i j k a b s r : ℕ) → j + bias ≤ i + a → k + bias ≤ i + b → j + bias ≤ k + s → Cut a (b + s) r → j + bias ≤ i + r
through i j k a b s r p q t (c, e, f) = ⊎_elim (λ h. omega arith) (λ h. omega arith) f

-- the triangle over a point m that was passed before k, from those before the pass: e stands behind it, d before it
earlier :
    (eij eim emj dij dim dmj dik dkj dkm dmk dkk : ℕ) → Cut dij (dik + dkj) eij → Cut dim (dik + dkm) eim → Cut dmj (dmk + dkj) emj →
    dij + bias ≤ dim + dmj → dkj + bias ≤ dkm + dmj → dik + bias ≤ dim + dmk → dkk + bias ≤ dkm + dmk → bias ≤ dkk → eij + bias ≤ eim + emj
earlier eij eim emj dij dim dmj dik dkj dkm dmk dkk (a, b, _) (_, _, f) (_, _, g) h i j k l =
    ⊎_elim (λ x. ⊎_elim (λ y. omega arith) (λ y. omega arith) g) (λ x. ⊎_elim (λ y. omega arith) (λ y. omega arith) g) f

-- the triangle over k itself
own_point :
    (eij eik ekj dij dik dkj dkk : ℕ) → Cut dij (dik + dkj) eij → Cut dik (dik + dkk) eik → Cut dkj (dkk + dkj) ekj → bias ≤ dkk →
    eij + bias ≤ eik + ekj
own_point eij eik ekj dij dik dkj dkk (a, b, _) (_, _, f) (_, _, g) l =
    ⊎_elim (λ x. ⊎_elim (λ y. omega arith) (λ y. omega arith) g) (λ x. ⊎_elim (λ y. omega arith) (λ y. omega arith) g) f

-- ---- all passes

-- no limit of a point and itself is negative
abbrev pub NoNegativeCycle : ℕ → List (List ℕ) → Type 0
NoNegativeCycle n t = (x : ℕ) → x < n → bias ≤ limit_at t x x

-- the limits t behind the passes over the points below k, from the limits d of n points
pub record Passing (d : List (List ℕ)) (n k : ℕ) (t : List (List ℕ)) : Type 0 where
  pub below : (x y : ℕ) → x < 8 → y < 8 → limit_at t x y ≤ limit_at d x y
  pub sound : (ψ : Schedule) → Within n d ψ → Within n t ψ
  pub closed : NoNegativeCycle n t → (m x y : ℕ) → m < k → x < 8 → y < 8 → limit_at t x y + bias ≤ limit_at t x m + limit_at t m y
  pub in_range : InRange (32768 * 2 ^ k) t

module _ (d : List (List ℕ)) (n : ℕ) (most : n ≤ 8) (start : InRange 32768 d) where
  passing_start : Passing d n 0 d
  passing_start =
      record {
        below = λ x y lx ly. le_refl _;
        sound = λ ψ h. h;
        closed = λ st m x y lm. absurd (omega arith);
        in_range = start;
      }

  module _ (k : ℕ) (t : List (List ℕ)) (lk : k < n) (f : Passing d n k t) where
    abbrev e : List (List ℕ)
    e = passed k t

    k8 : k < 8
    k8 = omega arith

    at : (x y : ℕ) → x < 8 → y < 8 → Cut (limit_at t x y) (limit_at t x k + limit_at t k y) (limit_at e x y)
    at x y lx ly = pass_at t k x y k8 lx ly f.in_range

    no_cycle_before : NoNegativeCycle n e → NoNegativeCycle n t
    no_cycle_before st x l = le_trans (st x l) (at x x (omega arith) (omega arith)).0

    closed_next : NoNegativeCycle n e → (m x y : ℕ) → m < suc k → x < 8 → y < 8 → limit_at e x y + bias ≤ limit_at e x m + limit_at e m y
    closed_next st m x y lm lx ly =
        let own = no_cycle_before st k lk in
        let g = f.closed (no_cycle_before st) in
        by_cases (dec_lt m k)
        (λ l. let m8 : m < 8 = omega arith in
        earlier _ _ _ _ _ _ _ _ _ _ _ (at x y lx ly) (at x m lx m8) (at m y m8 ly)
        (g m x y l lx ly) (g m k y l k8 ly) (g m x k l lx k8) (g m k k l k8 k8) own)
        (λ l. let q : m ≡ k = omega arith in
        rw q (own_point _ _ _ _ _ _ _ (at x y lx ly) (at x k lx k8) (at k y k8 ly) own))

    in_range_next : InRange (32768 * 2 ^ suc k) e
    in_range_next x y lx ly =
        let twice : 2 ^ suc k ≡ 2 * 2 ^ k = omega (arith, pow-suc 2 k) in
        let a = f.in_range x y lx ly in
        let b = f.in_range x k lx k8 in
        let c = f.in_range k y k8 ly in
        let w = at x y lx ly in
        (⊎_elim (λ h. omega arith) (λ h. omega arith) w.2, omega arith)

    passing_next : Passing d n (suc k) e
    passing_next =
        record {
          below = λ x y lx ly. le_trans (at x y lx ly).0 (f.below x y lx ly);
          sound = λ ψ h x y lx ly.
              through (ψ x) (ψ y) (ψ k) _ _ _ _ (f.sound ψ h x y lx ly) (f.sound ψ h x k lx lk) (f.sound ψ h k y lk ly)
              (at x y (omega arith) (omega arith));
          closed = closed_next;
          in_range = in_range_next;
        }

  pub passing : (k : ℕ) → k ≤ n → Passing d n k (passes k d)
  unfolding passes
  passing zero h = passing_start
  passing (suc k) h = passing_next k (passes k d) h (passing k (omega arith))

-- ---- as the code makes them

pub passes_start : (t : List (List ℕ)) → t ≡ passes 0 t
unfolding passes
passes_start t = refl

pub passes_next : (k : ℕ) (t : List (List ℕ)) → passes (k + 1) t ≡ passed k (passes k t)
unfolding passes
passes_next k t = rw (add-one k) refl
