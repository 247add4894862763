-- Laws of arrays made by calls at each index: they are listed. Only the checker need believe this file.
use mathlib.Core.Path.{◌≡◌, sym, ap, ◌∙◌, subst}
use mathlib.Core.Logic.{by_cases}
use mathlib.Core.Bool.{Bool, true, false}
use mathlib.Core.List.{List}
use Prim.Native.Nat.{ℕ, zero, suc, ◌+◌, ◌-◌, ◌≤◌, ◌<◌}
use native.Mathlib.Omega.{arith}
use native.Mathlib.Nat.{le_refl}
use native.Mathlib.Decide.{ℕ_discrete}
use denote.Param.Members.{Mut, Called}
use lib.ListN.{length, get_or, replicate, get_or-replicate}
use lib.Seq.{ext_get_or}
use Rattle.std.specs.Array.{IsFromFnResult, IsFromFnResultFrom}
use Rattle.std.proofs.lemmas.List.{get_or-append_right}
use Rattle.std.specs.List.{AllWithin, HoldsAt, range_with_len}
use Rattle.std.specs.Prelude.{MatchBool}
use Rattle.std.proofs.lemmas.List.FromFn.{length-range_with_len, get_or-range_with_len}
use Rattle.network.specs.Mask.{all_below}
use Rattle.network.proofs.BelowLaws.{all_make, all_fails}
use Rattle.plan.specs.Plan.{listed}
use Rattle.differences.specs.declared.Row.{Row}
use Rattle.plan.proofs.SliceLaws.{length_listed, get_listed, filled_to}

-- calls of a closure that no call changes, each of which gave h of its index
module _
    {F B : Type 0} (g : Mut F (ℕ × Unit {0}) B) (f : F) (h : ℕ → B) (n : ℕ) (d : B) (ys : List B)
    (one : (i : ℕ) (y : B) (q : F) → i < n → Called g f (i, tt) y q → (y ≡ h i) × (q ≡ f))
  where
    each_is :
        (k i : ℕ) → i + k ≤ n → (p : F) → p ≡ f → IsFromFnResultFrom g p ys i k → (j : ℕ) → i ≤ j → j < i + k → get_or ys j d ≡ h j
    each_is zero i most p e t j low high = absurd (omega arith)
    each_is (suc k) i most p e (q, y, at, call, rest) j low high =
        let is = one i y q (omega arith) (subst (λ (c : F). Called g c (i, tt) y q) e call) in
        by_cases (ℕ_discrete i j)
        (λ same. rw (← same) (at.1 d ∙ is.0))
        (λ other. each_is k (i + 1) (omega arith) q is.1 rest j (omega arith) (omega arith))

    pub made_listed : IsFromFnResult g f ys n → ys ≡ listed n h
    made_listed made =
        ext_get_or d ys (listed n h) (made.long ∙ sym (length_listed n h)) (λ j lt.
        let below : j < n = rw made.long at lt in
        each_is n 0 (omega arith) f (λ i. f) made.each j (omega arith) (omega arith) ∙ sym (get_listed d n h j below))

-- a row is its entries
pub row_is : (r : Row) (l : List ℕ) → r.to ≡ l → ◌≡◌ {A = Row} r (record { to = l })
row_is r l e i = record { to = e i }

-- what `all` says of a test of each number below n
pub all_of_range :
    (n : ℕ) (p : ℕ → Bool) (r : Bool) →
    MatchBool r (AllWithin (λ x. p x ≡ true) (range_with_len 0 n) 0 (length (range_with_len 0 n)))
    ((k : ℕ) × (k < length (range_with_len 0 n)) × HoldsAt (λ x. p x ≡ false) (range_with_len 0 n) k) →
    r ≡ all_below n p
all_of_range n p true h =
    sym (all_make n p (λ x lt. subst (λ (i : ℕ). p i ≡ true) (get_or-range_with_len 0 n x 0 lt ∙ omega arith) (h x 0 (omega arith) (rw (length-range_with_len 0 n) lt))))
all_of_range n p false (k, lt, h) =
    let below : k < n = rw (length-range_with_len 0 n) at lt in
    sym (all_fails p n k below (subst (λ (i : ℕ). p i ≡ false) (get_or-range_with_len 0 n k 0 below ∙ omega arith) (h 0)))

-- an array filled from its front has d where it is not filled yet
pub not_filled :
    {E : Type 0} (d : E) (n : ℕ) (f : ℕ → E) (i : ℕ) (xs : List E) (e : E) → i < n → xs ≡ filled_to d n f i → get_or xs i e ≡ d
not_filled {E} d n f i xs e lt is =
    let long = length_listed i f in
    let behind : n - length (listed i f) ≡ n - i = rw long in
    ap (λ (l : List E). get_or l i e) is
    ∙ get_or-append_right (listed i f) (replicate (n - length (listed i f)) d) i i e long (le_refl i)
    ∙ get_or-replicate (n - length (listed i f)) (i - i) d e (omega (arith, behind))
