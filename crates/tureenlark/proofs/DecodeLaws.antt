-- Laws: numbers and bytes that exported calls hand back, read again. Only the checker need believe this file.
use mathlib.Core.Path.{◌≡◌, refl, sym, ap, ◌∙◌}
use mathlib.Core.Logic.{inl, inr}
use mathlib.Core.Bool.{Bool, cond}
use mathlib.Core.List.{List, ◌∷◌, ◌++◌}
use Prim.Native.Nat.{ℕ, ◌+◌, ◌-◌, ◌≤◌, ◌<◌}
use native.Mathlib.Omega.{arith}
use lib.Dec.{eqb}
use Rattle.network.proofs.Booleans.{by_test, eqb_is, eqb_no, differs, ltb_yes, ltb_no}
use Rattle.plan.specs.Answer.{Answer, fine}
use Rattle.run.specs.Told.{Told, instruct, complete, refuse}
use Rattle.demands.specs.EachCall.{OneOf}
use Rattle.demands.proofs.Demand1Laws.{crew_numbers, Numbered, refusal_said}
use Rattle.plan.proofs.RefusalLaws.{no_refusal}
use Rattle.answers.specs.Numbers.{numbered, answer_number, told_number}
use Rattle.answers.specs.Steps.{told_bytes}
use Rattle.tureenlark.specs.Exported.{refusals, answer_in, fault_in, move_in, told_in}
use Rattle.tureenlark.specs.LibraryDemands.{ResultOr}

-- ---- a number

pub number_fine : (f v : ℕ) → f ≡ 0 → numbered f v ≡ v
unfolding numbered
number_fine f v e = rw e

pub number_refused : (f v : ℕ) → ¬ (f ≡ 0) → numbered f v ≡ refusals + f
unfolding numbered
number_refused f v some = rw (eqb_no f 0 some)

-- a result, read; a refusal, read
pub fine_in : (n : ℕ) → n < refusals → answer_in n ≡ fine n
fine_in n small = ap (λ (b : Bool). cond b (fine n) (record { fault = n - refusals; value = 0 })) (ltb_yes n refusals small)

pub refused_in : (k : ℕ) → answer_in (refusals + k) ≡ record { fault = k; value = 0 }
refused_in k =
    let n = refusals + k in
    let high : ¬ (refusals + k < refusals) = λ lt. omega arith in
    let back : refusals + k - refusals ≡ k = omega arith in
    ap (λ (b : Bool). cond b (fine n) (record { fault = n - refusals; value = 0 })) (ltb_no n refusals high)
    ∙ ap (λ (m : ℕ). record { fault = m; value = 0 }) back

-- the fault of a number whose result is small
pub fault_in_lem : (f v : ℕ) → v < refusals → fault_in (numbered f v) ≡ f
fault_in_lem f v small =
    by_test (eqb f 0)
    (λ y. let e = eqb_is f 0 y in ap fault_in (number_fine f v e) ∙ ap (λ (a : Answer ℕ). a.fault) (fine_in v small) ∙ sym e)
    (λ z. ap fault_in (number_refused f v (differs f 0 z)) ∙ ap (λ (a : Answer ℕ). a.fault) (refused_in f))

-- an answer whose value is small where there is no fault, and 0 beside one
pub small_value : (a : Answer ℕ) → (a.fault ≡ 0 → a.value ≤ 1724) → (¬ (a.fault ≡ 0) → a.value ≡ 0) → a.value < refusals
small_value a most zero-beside =
    by_test (eqb a.fault 0)
    (λ y. let le = most (eqb_is a.fault 0 y) in omega arith)
    (λ z. let e = zero-beside (differs a.fault 0 z) in omega arith)

pub answer_in_lem :
    (a : Answer ℕ) → (a.fault ≡ 0 → a.value ≤ 1724) → (¬ (a.fault ≡ 0) → a.value ≡ 0) → answer_in (answer_number a) ≡ a
answer_in_lem a most zero-beside =
    by_test (eqb a.fault 0)
    (λ y. let e = eqb_is a.fault 0 y in
    ap answer_in (number_fine a.fault a.value e) ∙ fine_in a.value (small_value a most zero-beside)
    ∙ (λ i. record { fault = sym e i; value = a.value }))
    (λ z. let some = differs a.fault 0 z in
    let none = sym (zero-beside some) in
    ap answer_in (number_refused a.fault a.value some) ∙ refused_in a.fault ∙ (λ i. record { fault = a.fault; value = none i }))

-- the result 1 stands for no fault
pub one_is : (f : ℕ) → numbered f 1 ≡ 1 → f ≡ 0
one_is f e = sym (fault_in_lem f 1 (omega arith)) ∙ ap fault_in e

pub is_one : (f : ℕ) → f ≡ 0 → numbered f 1 ≡ 1
is_one f e = number_fine f 1 e

pub is_result : (v : ℕ) → numbered 0 v ≡ v
is_result v = number_fine 0 v refl

-- a refusal's number
pub refused_is : (f v n : ℕ) → v < refusals → numbered f v ≡ refusals + n → f ≡ n
refused_is f v n small e = sym (fault_in_lem f v small) ∙ ap fault_in e ∙ ap (λ (a : Answer ℕ). a.fault) (refused_in n)

pub is_refused : (f v n : ℕ) → ¬ (n ≡ 0) → f ≡ n → numbered f v ≡ refusals + n
is_refused f v n some e = number_refused f v (λ z. some (sym e ∙ z)) ∙ ap (λ (k : ℕ). refusals + k) e

-- ---- the numbers that a call can answer

pub some_of : (numbers : List ℕ) (f : ℕ) → OneOf (0 ∷ numbers) f → ¬ (f ≡ 0) → OneOf numbers f
unfolding OneOf
some_of numbers f (inl e) some = absurd (some e)
some_of numbers f (inr h) some = h

pub answers_of :
    (low high : ℕ) (numbers : List ℕ) (f v : ℕ) → (f ≡ 0 → (low ≤ v) × (v ≤ high)) → OneOf (0 ∷ numbers) f →
    ResultOr low high numbers (numbered f v)
answers_of low high numbers f v result one =
    by_test (eqb f 0)
    (λ y. let e = eqb_is f 0 y in let r = result e in rw (number_fine f v e) (inl r))
    (λ z. let some = differs f 0 z in inr (f, some_of numbers f one some, number_refused f v some))

-- ---- what is told

told_some : (n : ℕ) → OneOf crew_numbers n → ¬ (n ≡ 0)
told_some n h e = let (r, is) = refusal_said n h in no_refusal r (is ∙ e)

-- three bytes of an instruction stand at the front of what is left
pub told_in_lem : (x : Told) → Numbered x → (rest : List ℕ) → told_in (told_number x) (told_bytes x ++ rest) ≡ x
told_in_lem (instruct m) h rest = refl
told_in_lem complete h rest = refl
told_in_lem (refuse n) h rest =
    let k = refusals + n in
    let one : ¬ (refusals + n ≡ 1) = λ e. omega arith in
    let none : ¬ (refusals + n ≡ 0) = λ e. omega arith in
    ap (λ (b : Bool). cond b (instruct (move_in rest)) (cond (eqb k 0) complete (refuse (fault_in k)))) (eqb_no k 1 one)
    ∙ ap (λ (b : Bool). cond b complete (refuse (fault_in k))) (eqb_no k 0 none)
    ∙ ap (λ (a : Answer ℕ). refuse a.fault) (refused_in n)

pub told_numbers : (x : Told) → Numbered x → ResultOr 0 1 crew_numbers (told_number x)
told_numbers (instruct m) h = inl (omega arith, omega arith)
told_numbers complete h = inl (omega arith, omega arith)
told_numbers (refuse n) h = inr (n, h, refl)
