-- Laws of arrays whose entries a closure makes, one call for each index. Only the checker need believe this file.
use mathlib.Core.Path.{◌≡◌, sym, subst, ◌∙◌}
use mathlib.Core.List.{List}
use Prim.Native.Nat.{ℕ, zero, suc, ◌+◌, ◌<◌}
use native.Mathlib.Omega.{arith}
use lib.ListN.{get_or}
use lib.Seq.{ext_get_or}
use denote.Param.Members.{Mut, Called}
use Rattle.std.specs.Array.{IsFromFnResult, IsFromFnResultFrom}
use Rattle.plan.specs.Plan.{listed}
use Rattle.plan.proofs.SliceLaws.{length_listed, get_listed}

-- where each call gives what h says, and leaves the closure as it is
module _ {F B : Type 0} (g : Mut F (ℕ × Unit {0}) B) (d : B) (h : ℕ → B) (f : F) (gives : (i : ℕ) (y : B) (q : F) → Called g f (i, tt) y q → (q ≡ f) × (y ≡ h i)) where
  entry : (ys : List B) (n i : ℕ) → IsFromFnResultFrom g f ys i n → (k : ℕ) → k < n → get_or ys (i + k) d ≡ h (i + k)
  entry ys zero i r k lt = absurd (omega arith)
  entry ys (suc n) i r zero lt =
      let z : i + 0 ≡ i = omega arith in
      rw z (r.2.1 d ∙ (gives i r.1 r.0 r.3).1)
  entry ys (suc n) i r (suc k) lt =
      let s : i + suc k ≡ i + 1 + k = omega arith in
      let as_it_was = (gives i r.1 r.0 r.3).0 in
      rw s (entry ys n (i + 1) (subst (λ (q : F). IsFromFnResultFrom g q ys (i + 1) n) as_it_was r.4) k (omega arith))

  pub made : (ys : List B) (n : ℕ) → IsFromFnResult g f ys n → ys ≡ listed n h
  made ys n r =
      let long = r.long in
      ext_get_or d ys (listed n h) (long ∙ sym (length_listed n h))
      (λ k lt. let k_in : k < n = omega arith in
      let z : 0 + k ≡ k = omega arith in
      (rw z at (entry ys n 0 r.each k k_in)) ∙ sym (get_listed d n h k k_in))
