-- Theorem: the table of differences of this planner says what card 2 asks. Read the statement in specs/ForcedOrder.antt; only the checker
-- need believe the proof.
use mathlib.Core.Path.{◌≡◌, refl, sym, ap, ◌∙◌}
use mathlib.Core.Logic.{◌↔◌}
use mathlib.Core.Bool.{Bool, true, false}
use mathlib.Core.List.{[], ◌∷◌}
use Rattle.std.specs.Prelude.{Option, Some, None, Result, Ok, Err}
use Prim.Native.Nat.{ℕ, ◌^◌, ◌<◌}
use lib.Dec.{eqb, ltb}
use lib.IntN.{negsuc}
use lib.Signed.{◌≤ℤ◌}
use Rattle.network.specs.Mask.{bit}
use Rattle.network.specs.Fixed.{Setting, Schedulable}
use Rattle.network.specs.Differences.{ForcedBefore}
use Rattle.network.proofs.Booleans.{by_test, both_ways, clash, eqb_is, differs}
use Rattle.masks.proofs.ByteLaws.{says_among}
use Rattle.plan.specs.declared.Plan.{Plan}
use Rattle.plan.specs.declared.Refusal.{Refusal}
use Rattle.plan.specs.declared.Refusal.TheVariants as refusal
use Rattle.plan.specs.Answer.{Answer}
use Rattle.plan.specs.Faults.{unless, answered}
use Rattle.plan.specs.Plan.{network_of}
use Rattle.plan.specs.WellFormed.{WellFormed}
use Rattle.plan.proofs.AnswerLaws.{unless_is, first_none}
use Rattle.plan.proofs.RefusalLaws.{refusal_one_number, no_refusal}
use Rattle.judge.specs.Judge.{plan_fault}
use Rattle.judge.proofs.JudgeTheorems.{fine_exactly}
use Rattle.verdict.specs.Answers.{Fixed, Verdict, verdict_answer}
use Rattle.verdict.specs.Verdict.{verdict_of, verdict_fault, least_schedule}
use Rattle.verdict.proofs.AnswerLaws as verdict
use Rattle.verdict.proofs.VerdictTheorems as fixed
use Rattle.differences.specs.declared.DifferenceTable.{DifferenceTable}
use Rattle.differences.specs.Answers.{Differences, table_answer, rows_of}
use Rattle.differences.specs.Says.{entry, Tells, Says}
use Rattle.differences.specs.Tabling.{table_of, table_fault, difference_table}
use Rattle.differences.proofs.AnswerLaws as table
use Rattle.differences.proofs.DifferencesTheorems.{scheduled_exactly, says, one_table, before_exactly}
use Rattle.demands.specs.ThisPlanner.{planner}
use Rattle.demands.specs.EachCall.{OneOf}
use Rattle.demands.specs.ForcedOrder.{ForcedOrder}
use Rattle.demands.proofs.Demand1Laws.{by_plan, one_of_more, some_refusal}
use Rattle.demands.proofs.Demand1Theorem.{demand1}

-- ---- something is handed back

table_said : (p : Plan) (m : ℕ) → (t : Result (Option DifferenceTable) Refusal) × (table_answer t ≡ difference_table p m)
table_said p m =
    let a = difference_table p m in
    let so = demand1.differences p m in
    by_test (eqb a.fault 0)
    (λ y. let fine = sym (eqb_is a.fault 0 y) in
    by_test a.value.scheduled
    (λ s. (
      Ok (Some (record { rows = a.value.rows })),
      λ i. record { fault = fine i; value = record { scheduled = sym s i; rows = a.value.rows } },
    ))
    (λ n. (
      Ok None,
      λ i. record { fault = fine i; value = record { scheduled = sym n i; rows = sym (so.zeros n) i } },
    )))
    (λ z. let some = differs a.fault 0 z in
    let one : OneOf (0 ∷ 2 ∷ 3 ∷ 4 ∷ 8 ∷ []) a.fault =
    by_plan p (λ wf. one_of_more _ _ _ refl (so.numbers wf)) (λ n h. one_of_more _ _ _ refl (so.judged n).numbers) in
    let (r, is) = some_refusal a.fault (one_of_more _ _ _ refl one) some in
    let none = sym (so.refused some) in
    (Err r, λ i. record { fault = is i; value = none i }))

-- ---- the forced order

tells_of :
    (p : Plan) (m : ℕ) (t : Result (Option DifferenceTable) Refusal) → Says p m t → Schedulable (network_of p) (bit m) →
    Tells (network_of p) (bit m) (rows_of t)
tells_of p m (Ok (Some t)) says some = says
tells_of p m (Ok None) says some = absurd (says.0 some)
tells_of p m (Err r) says some = absurd says

forced_so :
    (p : Plan) (m : ℕ) (t : Result (Option DifferenceTable) Refusal) → table_answer t ≡ difference_table p m → WellFormed p → Setting (network_of p) m →
    Schedulable (network_of p) (bit m) → (x y : ℕ) → x < p.points → y < p.points →
    ForcedBefore (network_of p) (bit m) x y ↔ (entry (rows_of t) y x ≤ℤ negsuc 0)
forced_so p m t so wf setting some =
    before_exactly (network_of p) (bit m) (rows_of t) (tells_of p m t (says p m t so wf setting) some)

-- ---- as the verdict

-- whether there is something, or the refusal
abbrev case_of : {A : Type 0} → Result (Option A) Refusal → Result Bool Refusal
case_of (Ok (Some a)) = Ok true
case_of (Ok None) = Ok false
case_of (Err r) = Err r

none_back : {A : Type 0} (x : Result (Option A) Refusal) → case_of x ≡ Ok false → x ≡ Ok None
none_back (Ok (Some a)) e = cc
none_back (Ok None) e = refl
none_back (Err r) e = cc

refused_back : {A : Type 0} (r : Refusal) (x : Result (Option A) Refusal) → case_of x ≡ Err r → x ≡ Err r
refused_back r (Ok (Some a)) e = cc
refused_back r (Ok None) e = cc
refused_back r (Err q) e = ap Err cc

same_case :
    (t : Result (Option DifferenceTable) Refusal) (v : Verdict) → (table_answer t).fault ≡ (verdict_answer v).fault →
    ((table_answer t).fault ≡ 0 → (table_answer t).value.scheduled ≡ (verdict_answer v).value.scheduled) → case_of t ≡ case_of v
same_case (Ok (Some t)) (Ok (Some slots)) e s = refl
same_case (Ok (Some t)) (Ok None) e s = clash refl (s refl)
same_case (Ok (Some t)) (Err r) e s = absurd (no_refusal r (sym e))
same_case (Ok None) (Ok (Some slots)) e s = clash refl (sym (s refl))
same_case (Ok None) (Ok None) e s = refl
same_case (Ok None) (Err r) e s = absurd (no_refusal r (sym e))
same_case (Err q) (Ok (Some slots)) e s = absurd (no_refusal q e)
same_case (Err q) (Ok None) e s = absurd (no_refusal q e)
same_case (Err q) (Err r) e s = ap Err (refusal_one_number q r e)

-- no fault: a well-formed plan, and a setting
fine_so : (p : Plan) (m : ℕ) → table_fault p m ≡ 0 → WellFormed p × Setting (network_of p) m
unfolding table_fault
fine_so p m e =
    let none = first_none (plan_fault p) (unless (ltb m (2 ^ p.letters)) refusal.Mask) e in
    ((fine_exactly p).0 none.0, (says_among m p.letters).0 (unless_is (ltb m (2 ^ p.letters)) refusal.Mask none.1))

same_schedule : (p : Plan) (m : ℕ) → table_fault p m ≡ 0 → (difference_table p m).value.scheduled ≡ (least_schedule p m).value.scheduled
same_schedule p m e =
    let (wf, setting) = fine_so p m e in
    let a = scheduled_exactly p wf (bit m) in
    let b = fixed.scheduled_exactly p wf (bit m) in
    ap (λ (x : Answer Differences). x.value.scheduled) (table.fine_answer p m wf setting)
    ∙ both_ways (table_of (network_of p) (bit m)).scheduled (verdict_of (network_of p) (bit m)).scheduled (λ y. b.1 (a.0 y)) (λ y. a.1 (b.0 y))
    ∙ sym (ap (λ (x : Answer Fixed). x.value.scheduled) (verdict.fine_answer p m wf setting))

same_fault : (p : Plan) (m : ℕ) → (difference_table p m).fault ≡ (least_schedule p m).fault
unfolding difference_table least_schedule table_fault verdict_fault answered
same_fault p m = refl

fault_is : (p : Plan) (m : ℕ) → (difference_table p m).fault ≡ table_fault p m
unfolding difference_table answered
fault_is p m = refl

pub fine_fault : (p : Plan) (m : ℕ) → (difference_table p m).fault ≡ 0 → WellFormed p × Setting (network_of p) m
fine_fault p m e = fine_so p m (sym (fault_is p m) ∙ e)

module _
    (p : Plan) (m : ℕ) (t : Result (Option DifferenceTable) Refusal) (v : Verdict) (so : table_answer t ≡ difference_table p m) (said : verdict_answer v ≡ least_schedule p m)
  where
    as_verdict : case_of t ≡ case_of v
    as_verdict =
        let fault = ap (λ (x : Answer Differences). x.fault) so in
        same_case t v
        (fault ∙ same_fault p m ∙ sym (ap (λ (x : Answer Fixed). x.fault) said))
        (λ e.
        ap (λ (x : Answer Differences). x.value.scheduled) so
        ∙ same_schedule p m (sym (fault_is p m) ∙ sym fault ∙ e)
        ∙ sym (ap (λ (x : Answer Fixed). x.value.scheduled) said))

    none_so : (t ≡ Ok None) ↔ (v ≡ Ok None)
    none_so = (λ e. none_back v (sym as_verdict ∙ ap case_of e), λ e. none_back t (as_verdict ∙ ap case_of e))

    refused_so : (r : Refusal) → (t ≡ Err r) ↔ (v ≡ Err r)
    refused_so r = (λ e. refused_back r v (sym as_verdict ∙ ap case_of e), λ e. refused_back r t (as_verdict ∙ ap case_of e))

-- ---- The theorem

pub forced_order : ForcedOrder planner
forced_order =
    record {
      said = table_said;
      table = says;
      one_table = one_table;
      forced = forced_so;
      none = none_so;
      refused = refused_so;
    }
