-- Theorem: the verdict and the screen of this planner say what document 01 asks. Read the statement in specs/FixedOutcomes.antt; only the
-- checker need believe the proof.
use mathlib.Core.Path.{◌≡◌, refl, sym}
use mathlib.Core.Bool.{Bool, true, false}
use mathlib.Core.List.{[], ◌∷◌}
use Rattle.std.specs.Prelude.{Some, None, Result, Ok, Err}
use Prim.Native.Nat.{ℕ}
use lib.Dec.{eqb}
use Rattle.network.proofs.Booleans.{by_test, eqb_is, differs}
use Rattle.plan.specs.declared.Plan.{Plan}
use Rattle.plan.specs.declared.Refusal.{Refusal}
use Rattle.verdict.specs.Answers.{Verdict, verdict_answer, screen_answer}
use Rattle.verdict.specs.Verdict.{least_schedule, screened}
use Rattle.verdict.proofs.VerdictTheorems.{says, one_verdict, passed_exactly, failed_exactly}
use Rattle.demands.specs.ThisPlanner.{planner}
use Rattle.demands.specs.EachCall.{OneOf}
use Rattle.demands.specs.FixedOutcomes.{FixedOutcomes}
use Rattle.demands.proofs.Demand1Laws.{by_plan, one_of_more, some_refusal}
use Rattle.demands.proofs.Demand1Theorem.{demand1}

-- ---- something is handed back

verdict_said : (p : Plan) (m : ℕ) → (r : Verdict) × (verdict_answer r ≡ least_schedule p m)
verdict_said p m =
    let a = least_schedule p m in
    let so = demand1.verdict p m in
    by_test (eqb a.fault 0)
    (λ y. let fine = sym (eqb_is a.fault 0 y) in
    by_test a.value.scheduled
    (λ t. (
      Ok (Some a.value.slots),
      λ i. record { fault = fine i; value = record { scheduled = sym t i; slots = a.value.slots } },
    ))
    (λ f. (
      Ok None,
      λ i. record { fault = fine i; value = record { scheduled = sym f i; slots = sym (so.zeros f) i } },
    )))
    (λ z. let some = differs a.fault 0 z in
    let one : OneOf (0 ∷ 2 ∷ 3 ∷ 4 ∷ 8 ∷ []) a.fault =
    by_plan p (λ wf. one_of_more _ _ _ refl (so.numbers wf)) (λ n h. one_of_more _ _ _ refl (so.judged n).numbers) in
    let (r, is) = some_refusal a.fault (one_of_more _ _ _ refl one) some in
    let none = sym (so.refused some) in
    (Err r, λ i. record { fault = is i; value = none i }))

screen_said : (p : Plan) → (r : Result Bool Refusal) × (screen_answer r ≡ screened p)
screen_said p =
    let a = screened p in
    let so = demand1.screen p in
    by_test (eqb a.fault 0)
    (λ y. let fine = sym (eqb_is a.fault 0 y) in
    by_test a.value
    (λ t. (Ok true, λ i. record { fault = fine i; value = sym t i }))
    (λ f. (Ok false, λ i. record { fault = fine i; value = sym f i })))
    (λ z. let some = differs a.fault 0 z in
    let (r, is) = some_refusal a.fault (one_of_more _ _ _ refl so.judged.numbers) some in
    let none = sym (so.beside some) in
    (Err r, λ i. record { fault = is i; value = none i }))

-- ---- The theorem

pub fixed_outcomes : FixedOutcomes planner
fixed_outcomes =
    record {
      verdict_said = verdict_said;
      screen_said = screen_said;
      verdict = says;
      one_verdict = one_verdict;
      passes = λ p r so wf. passed_exactly p r so wf;
      fails = λ p r so wf. failed_exactly p r so wf;
    }
