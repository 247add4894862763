-- Laws of faults and answers. Only the checker need believe this file.
use mathlib.Core.Path.{◌≡◌, refl}
use mathlib.Core.Bool.{Bool, true, false}
use Prim.Native.Nat.{ℕ}
use lib.Dec.{eqb}
use Rattle.network.proofs.Booleans.{by_test, clash, eqb_is, eqb_yes, eqb_no}
use Rattle.plan.specs.declared.Refusal.{Refusal}
use Rattle.plan.specs.Refusal.{refusal_number}
use Rattle.plan.specs.Answer.{Answer, fine, refused}
use Rattle.plan.specs.Faults.{unless, first, answered}
use Rattle.plan.proofs.RefusalLaws.{no_refusal, some_number}

-- ---- faults

pub unless_is : (b : Bool) (r : Refusal) → unless b r ≡ 0 → b ≡ true
unfolding unless
unless_is true r e = refl
unless_is false r e = absurd (no_refusal r e)

-- a test's fault is none or its refusal's
pub unless_of : (P : ℕ → Type 0) (b : Bool) (r : Refusal) → P 0 → P (refusal_number r) → P (unless b r)
unfolding unless
unless_of P true r none t = none
unless_of P false r none t = t

-- a refusal comes first, whatever follows
pub first_refused : (r : Refusal) (n : ℕ) → first (refusal_number r) n ≡ refusal_number r
unfolding first
first_refused r n = rw (some_number r)

-- no fault is first only where neither is one
pub first_none : (a b : ℕ) → first a b ≡ 0 → (a ≡ 0) × (b ≡ 0)
unfolding first
first_none a b e = by_test (eqb a 0) (λ y. (eqb_is a 0 y, rw y at e)) (λ z. clash (eqb_yes a 0 (rw z at e)) z)

-- ---- answers

module _ {A : Type 0} where
  pub answered_fault : (zeros : A) (n : ℕ) (a : A) → (answered zeros n a).fault ≡ n
  unfolding answered
  answered_fault zeros n a = refl

  pub answered_fine : (zeros : A) (n : ℕ) (a : A) → n ≡ 0 → answered zeros n a ≡ fine a
  unfolding answered
  answered_fine zeros n a e = rw e

  -- beside a fault the value's place is all zero
  abbrev pub ZeroBeside : A → Answer A → Type 0
  ZeroBeside zeros x = ¬ (x.fault ≡ 0) → x.value ≡ zeros

  pub answered_zero : (zeros : A) (n : ℕ) (a : A) → ZeroBeside zeros (answered zeros n a)
  unfolding answered
  answered_zero zeros n a ne = rw (eqb_no n 0 ne)

  pub answered_refused : (zeros a : A) (r : Refusal) → refused zeros r ≡ answered zeros (refusal_number r) a
  unfolding answered
  answered_refused zeros a r = rw (some_number r)
