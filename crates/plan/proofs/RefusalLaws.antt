-- Laws of the refusals' numbers: each has its own, and 0 is none of them. Only the checker need believe this file.
use mathlib.Core.Path.{◌≡◌, refl, sym, ap, ◌∙◌}
use mathlib.Core.Bool.{false}
use mathlib.Core.List.{List, [], ◌∷◌}
use Prim.Native.Nat.{ℕ, zero, suc}
use native.Mathlib.Omega.{arith}
use lib.Dec.{eqb}
use lib.ListN.{get_or}
use Rattle.network.proofs.Booleans.{eqb_no}
use Rattle.plan.specs.declared.Refusal.{Refusal}
use Rattle.plan.specs.declared.Refusal.TheVariants as refusal
use Rattle.std.specs.Prelude.{Result, Ok, Err}
use Rattle.plan.specs.Refusal.{refusal_number, judged_number}

-- the refusals in the order of their numbers
abbrev refusals : List Refusal
refusals =
    refusal.PlanText ∷ refusal.Head ∷ refusal.Letters ∷ refusal.Constraints ∷ refusal.TreeText ∷ refusal.Shape ∷ refusal.Broken
    ∷ refusal.Mask ∷ refusal.AfterDone ∷ refusal.Buffer ∷ refusal.Hopeless ∷ []

abbrev judged_by : ℕ → Result (Unit {0}) Refusal
judged_by zero = Ok tt
judged_by (suc n) = Err (get_or refusals n refusal.PlanText)

back : (r : Result (Unit {0}) Refusal) → judged_by (judged_number r) ≡ r
back (Ok tt) = refl
back (Err refusal.PlanText) = refl
back (Err refusal.Head) = refl
back (Err refusal.Letters) = refl
back (Err refusal.Constraints) = refl
back (Err refusal.TreeText) = refl
back (Err refusal.Shape) = refl
back (Err refusal.Broken) = refl
back (Err refusal.Mask) = refl
back (Err refusal.AfterDone) = refl
back (Err refusal.Buffer) = refl
back (Err refusal.Hopeless) = refl

pub fine_is : (r : Result (Unit {0}) Refusal) → judged_number r ≡ 0 → r ≡ Ok tt
fine_is r e = sym (back r) ∙ ap judged_by e

pub refused_is : (r : Result (Unit {0}) Refusal) (f : Refusal) → judged_number r ≡ refusal_number f → r ≡ Err f
refused_is r f e = sym (back r) ∙ ap judged_by e ∙ back (Err f)

pub refusal_one_number : (a b : Refusal) → refusal_number a ≡ refusal_number b → a ≡ b
refusal_one_number a b e = cc (refused_is (Err a) b e)

-- 0 is no refusal's number
pub no_refusal : (r : Refusal) → refusal_number r ≡ 0 → ⊥
no_refusal r e = let z : ◌≡◌ {A = ℕ} 0 1 = cc (fine_is (Err r) e) in omega arith

pub some_number : (r : Refusal) → eqb (refusal_number r) 0 ≡ false
some_number r = eqb_no (refusal_number r) 0 (no_refusal r)
