-- Laws of limits of differences: no schedule that keeps exceeds them, and a schedule that exceeds none of them keeps. Like NetworkLaws,
-- RaiseLaws and SoFarLaws it opens what a constraint asks. Only the checker need believe it.
use mathlib.Core.Path.{◌≡◌, refl, ◌∙◌}
use mathlib.Core.Logic.{by_cases}
use mathlib.Core.Bool.{true}
use mathlib.Core.List.{List, [], ◌∷◌}
use Prim.Native.Nat.{ℕ, suc, ◌+◌, min, ◌≤◌, ◌<◌}
use native.Mathlib.Omega.{arith}
use native.Mathlib.Nat.{le_refl, le_trans}
use native.Mathlib.Decide.{dec_lt, ℕ_discrete}
use lib.IntN.{ℤ, pos, negsuc}
use lib.ListN.{length, get_or, set, length-set}
use lib.Seq.{set_out, get_or-set_same, get_or-set_other}
use Rattle.network.specs.Network.{Constraint, Network, Scenario, Schedule, holds, at_most, keeps}
use Rattle.network.specs.IsNetwork.{Each, InNetwork, IsNetwork}
use Rattle.network.specs.Limits.{bias, biased, limit_at, lowered, limited, all_limited}
use Rattle.network.proofs.Booleans.{by_test, leb_yes, leb_is}
use Rattle.network.proofs.NetworkLaws.{KeepsEach, keeps_is}

-- n rows of n entries
pub record Square (n : ℕ) (t : List (List ℕ)) : Type 0 where
  pub long : length t ≡ n
  pub wide : (x : ℕ) → x < n → length (get_or t x []) ≡ n

-- the schedule exceeds no limit of the first n rows and columns
abbrev pub Within : ℕ → List (List ℕ) → Schedule → Type 0
Within n t ψ = (x y : ℕ) → x < n → y < n → ψ y + bias ≤ ψ x + limit_at t x y

-- the bound is at least -32,768, as 16 bits have it
abbrev pub In16Bits : Constraint → Type 0
In16Bits c = bias ≤ biased c.bound + 32768

-- ---- one limit

-- a bound is kept exactly where its limit is not exceeded
at_most_limit : (x y : ℕ) (d : ℤ) → at_most x y d ≡ true → y + bias ≤ x + biased d
unfolding at_most biased
at_most_limit x y (pos d) t = let h = leb_is y (x + d) t in omega arith
at_most_limit x y (negsuc d) t = let h = leb_is (y + suc d) x t in omega arith

limit_at_most : (x y : ℕ) (d : ℤ) → bias ≤ biased d + 32768 → y + bias ≤ x + biased d → at_most x y d ≡ true
unfolding at_most biased
limit_at_most x y (pos d) m h = leb_yes y (x + d) (omega arith)
limit_at_most x y (negsuc d) m h = leb_yes (y + suc d) x (omega arith)

-- of a limit after one was lowered: it stays, or it is that one
by_lowered :
    (t : List (List ℕ)) (x y v i j : ℕ) (P : ℕ → Type 0) → P (limit_at t i j) → (i ≡ x → j ≡ y → P (min (limit_at t x y) v)) →
    P (limit_at (lowered t x y v) i j)
unfolding lowered
by_lowered t x y v i j P stays moves =
    by_cases (ℕ_discrete i x)
    (λ e. by_cases (dec_lt x (length t))
    (λ lt. rw (e, get_or-set_same t x (set (get_or t x []) y (min (limit_at t x y) v)) [] lt) (in_row (rw e at stays) (moves e)))
    (λ ge. rw (set_out t x (set (get_or t x []) y (min (limit_at t x y) v)) (outside x (length t) ge)) stays))
    (λ ne. rw (get_or-set_other t x i (set (get_or t x []) y (min (limit_at t x y) v)) [] ne) stays)
  where
    outside : (x n : ℕ) → ¬ (x < n) → n ≤ x
    outside x n ge = omega arith

    in_row :
        P (get_or (get_or t x []) j 0) → (j ≡ y → P (min (limit_at t x y) v)) → P (get_or (set (get_or t x []) y (min (limit_at t x y) v)) j 0)
    in_row stays moves =
        by_cases (ℕ_discrete j y)
        (λ e. by_cases (dec_lt y (length (get_or t x [])))
        (λ lt. rw (e, get_or-set_same (get_or t x []) y (min (limit_at t x y) v) 0 lt) (moves e))
        (λ ge. rw (set_out (get_or t x []) y (min (limit_at t x y) v) (outside y (length (get_or t x [])) ge)) stays))
        (λ ne. rw (get_or-set_other (get_or t x []) y j (min (limit_at t x y) v) 0 ne) stays)

lowered_there :
    (n : ℕ) (t : List (List ℕ)) (x y v : ℕ) → Square n t → x < n → y < n → limit_at (lowered t x y v) x y ≡ min (limit_at t x y) v
unfolding lowered
lowered_there n t x y v sq lx ly =
    rw (
      get_or-set_same t x (set (get_or t x []) y (min (limit_at t x y) v)) [] (rw sq.long lx),
      get_or-set_same (get_or t x []) y (min (limit_at t x y) v) 0 (rw (sq.wide x lx) ly),
    ) refl

lowered_square : (n : ℕ) (t : List (List ℕ)) (x y v : ℕ) → Square n t → Square n (lowered t x y v)
unfolding lowered
lowered_square n t x y v sq =
    let row = set (get_or t x []) y (min (limit_at t x y) v) in
    record {
      long = length-set t x row ∙ sq.long;
      wide = λ i lt. by_cases (ℕ_discrete i x)
          (λ e. rw (e, get_or-set_same t x row [] (rw (sq.long, ← e) lt), length-set) (rw e at (sq.wide i lt)))
          (λ ne. rw (get_or-set_other t x i row [] ne) (sq.wide i lt));
    }

module _ (s : Scenario) where
  -- ---- one constraint

  -- of a limit after a constraint was looked at: it stays, or it is that of the constraint, whose label holds
  by_limited :
      (t : List (List ℕ)) (c : Constraint) (i j : ℕ) (P : ℕ → Type 0) → P (limit_at t i j) →
      (holds s c.label ≡ true → i ≡ c.from → j ≡ c.to → P (min (limit_at t c.from c.to) (biased c.bound))) →
      P (limit_at (limited s t c) i j)
  unfolding limited
  by_limited t c i j P stays moves =
      by_test (holds s c.label)
      (λ y. rw y (by_lowered t c.from c.to (biased c.bound) i j P stays (moves y)))
      (λ z. rw z stays)

  limited_square : (n : ℕ) (t : List (List ℕ)) (c : Constraint) → Square n t → Square n (limited s t c)
  unfolding limited
  limited_square n t c sq =
      by_test (holds s c.label) (λ y. rw y (lowered_square n t c.from c.to (biased c.bound) sq)) (λ z. rw z sq)

  limited_below : (t : List (List ℕ)) (c : Constraint) (i j : ℕ) → limit_at (limited s t c) i j ≤ limit_at t i j
  limited_below t c i j = by_limited t c i j (λ v. v ≤ limit_at t i j) (le_refl _) (λ y e f. rw (e, f) (omega arith))

  -- where its label holds, its own limit stands
  limited_there :
      (n : ℕ) (t : List (List ℕ)) (c : Constraint) → Square n t → c.from < n → c.to < n → holds s c.label ≡ true →
      limit_at (limited s t c) c.from c.to ≤ biased c.bound
  unfolding limited
  limited_there n t c sq lx ly y =
      let there = lowered_there n t c.from c.to (biased c.bound) sq lx ly in
      rw (y, there) (omega arith)

  -- ---- all constraints

  pub all_square : (n : ℕ) (t : List (List ℕ)) (cs : List Constraint) → Square n t → Square n (all_limited s t cs)
  unfolding all_limited
  all_square n t [] sq = sq
  all_square n t (c ∷ cs) sq = all_square n (limited s t c) cs (limited_square n t c sq)

  pub all_below_lem : (t : List (List ℕ)) (cs : List Constraint) (i j : ℕ) → limit_at (all_limited s t cs) i j ≤ limit_at t i j
  unfolding all_limited
  all_below_lem t [] i j = le_refl _
  all_below_lem t (c ∷ cs) i j = le_trans (all_below_lem (limited s t c) cs i j) (limited_below t c i j)

  -- no limit falls below -32,768
  pub all_in_16_bits :
      (t : List (List ℕ)) (cs : List Constraint) → Each In16Bits cs → (i j : ℕ) → bias ≤ limit_at t i j + 32768 →
      bias ≤ limit_at (all_limited s t cs) i j + 32768
  unfolding all_limited Each
  all_in_16_bits t [] m i j h = h
  all_in_16_bits t (c ∷ cs) m i j h =
      all_in_16_bits (limited s t c) cs m.1 i j
      (by_limited t c i j (λ v. bias ≤ v + 32768) h (λ y e f.
      let q = m.0 in
      let k : bias ≤ limit_at t c.from c.to + 32768 = rw (e, f) at h in
      omega arith))

  -- a schedule that keeps the constraints exceeds no limit
  all_within :
      (net : Network) (n : ℕ) (ψ : Schedule) (t : List (List ℕ)) (cs : List Constraint) → KeepsEach net ψ s cs → Within n t ψ →
      Within n (all_limited s t cs) ψ
  unfolding all_limited Each
  all_within net n ψ t [] k h = h
  all_within net n ψ t (c ∷ cs) k h =
      all_within net n ψ (limited s t c) cs k.1 (λ i j li lj.
      by_limited t c i j (λ v. ψ j + bias ≤ ψ i + v) (h i j li lj) (λ y e f.
      let q = at_most_limit (ψ c.from) (ψ c.to) c.bound (k.0 y) in
      let g : ψ c.to + bias ≤ ψ c.from + limit_at t c.from c.to = rw (e, f) at (h i j li lj) in
      rw (e, f) (omega arith)))

  -- a schedule that exceeds no limit keeps them
  within_all :
      (net : Network) (ψ : Schedule) (t : List (List ℕ)) (cs : List Constraint) → Each (InNetwork net) cs → Each In16Bits cs →
      (n : ℕ) → net.points ≤ n → Square n t → Within net.points (all_limited s t cs) ψ →
      KeepsEach net ψ s cs
  unfolding all_limited Each
  within_all net ψ t [] k m n le sq h = tt
  within_all net ψ t (c ∷ cs) k m n le sq h =
      let lx = k.0.from_point in
      let ly = k.0.to_point in (
        λ y.
            let below = all_below_lem (limited s t c) cs c.from c.to in
            let there = limited_there n t c sq (omega arith) (omega arith) y in
            let w = h c.from c.to lx ly in
            limit_at_most (ψ c.from) (ψ c.to) c.bound m.0 (omega arith),
        within_all net ψ (limited s t c) cs k.1 m.1 n le (limited_square n t c sq) h,
      )

module _ (net : Network) (s : Scenario) (t : List (List ℕ)) (ψ : Schedule) where
  pub kept_within : (n : ℕ) → keeps net ψ s ≡ true → Within n t ψ → Within n (all_limited s t net.constraints) ψ
  kept_within n k = all_within s net n ψ t net.constraints ((keeps_is net ψ s).0 k)

  pub within_kept :
      IsNetwork net → Each In16Bits net.constraints → (n : ℕ) → net.points ≤ n → Square n t →
      Within net.points (all_limited s t net.constraints) ψ → keeps net ψ s ≡ true
  within_kept wf m n le sq h = (keeps_is net ψ s).1 (within_all s net ψ t net.constraints wf.in_network m n le sq h)
