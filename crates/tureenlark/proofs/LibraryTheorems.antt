-- Theorems on the exported calls, for LibraryTheorem.antt: a plan that was read crosses, a refused report leaves the history, and a schedule's
-- place is all zero wherever it is there and no schedule is answered. A reader may read the statements; only the checker need believe the
-- proofs.
use mathlib.Core.Path.{◌≡◌, refl, sym, ap, ◌∙◌}
use mathlib.Core.Bool.{false}
use mathlib.Core.List.{List, ◌++◌}
use Prim.Native.Nat.{ℕ, ◌≤◌}
use lib.Dec.{eqb}
use lib.ListN.{length, take, drop, replicate, take-append-drop}
use Rattle.network.specs.Mask.{digit}
use Rattle.network.proofs.Booleans.{by_test, eqb_is, leb_is, differs}
use Rattle.plan.specs.declared.Refusal.TheVariants as refusal
use Rattle.plan.specs.declared.Plan.{Plan}
use Rattle.plan.specs.Plan.{listed}
use Rattle.plan.specs.Faults.{first, filled}
use Rattle.plan.proofs.AnswerLaws.{unless_is, first_none, answered_zero}
use Rattle.plan_text.specs.ReadPlan.{read_plan}
use Rattle.plan_text.proofs.PlanTextTheorems.{read_exactly, refused_zero}
use Rattle.run.specs.declared.History.{History}
use Rattle.run.proofs.RunTheorems.{refused_same}
use Rattle.verdict.specs.Answers.{none, Fixed}
use Rattle.verdict.specs.Verdict.{verdict_fault, least_schedule}
use Rattle.verdict.proofs.AnswerLaws.{eight_answer}
use Rattle.demands.proofs.Demand1Laws.{stays}
use Rattle.records.specs.Records.{plan_in, plan_bytes, plan_length, history_in, history_bytes, history_length}
use Rattle.records.proofs.RecordsTheorems.{plan_bytes_lem, plan_crosses, behind_ignored, history_bytes_cross}
use Rattle.answers.specs.Numbers.{numbered}
use Rattle.tureenlark.specs.Library.{plan_short, history_short, read_plan_left, report_short, report_at, report_number, report_left}
use Rattle.tureenlark.specs.Library.{short_fault, schedule_length, unless_short, slots_for, least_schedule_number, least_schedule_left}
use Rattle.tureenlark.proofs.LibraryLaws.{long, left_long}

-- ---- A plan that was read crosses: from the record that reading left, whatever stood there before, the other calls take the very plan that
-- the text says. (Beside a refusal that is the plan of zeros.)

arrays : (text : List ℕ) → (length (read_plan text).value.letter ≡ 6) × (length (read_plan text).value.constraint ≡ 64)
arrays text =
    let a = read_plan text in
    by_test (eqb a.fault 0)
    (λ y.
    let none = eqb_is a.fault 0 y in
    let h = (read_exactly text a.value).0 (λ i. record { fault = none i; value = a.value }) in
    (h.2, h.3))
    (λ z.
    let zeros = (refused_zero text (differs a.fault 0 z)).1 in
    (ap (λ (p : Plan). length p.letter) zeros, ap (λ (p : Plan). length p.constraint) zeros))

pub read_crosses : (text plan : List ℕ) → plan_length ≤ length plan → plan_in (read_plan_left text plan) ≡ (read_plan text).value
unfolding filled
read_crosses text plan enough =
    let v = (read_plan text).value in
    let bytes = plan_bytes v in
    let six = arrays text in
    ap (λ (n : ℕ). plan_in (filled n bytes plan)) (long plan_length plan enough)
    ∙ behind_ignored bytes (drop (length bytes) plan) (plan_bytes_lem v)
    ∙ plan_crosses v six.0 six.1

-- ---- A refused report changes no byte of the history.

-- what was filled, and what stands behind it
kept : (n : ℕ) (bytes xs : List ℕ) → length bytes ≡ n → bytes ≡ take n xs → filled 0 bytes xs ≡ xs
unfolding filled
kept n bytes xs long is = rw long (ap (λ (l : List ℕ). l ++ drop n xs) is ∙ take-append-drop n xs)

nine : (bs : List ℕ) → length (history_bytes (history_in bs)) ≡ history_length
unfolding listed
nine bs = refl

pub report_refused_same :
    (plan tree history : List ℕ) (mask : ℕ) → ¬ (report_number plan tree history mask ≡ 1) → report_left plan tree history mask ≡ history
unfolding numbered first
report_refused_same plan tree history mask not-one =
    let f = report_short plan history in
    let a = report_at plan tree history mask in
    by_test (eqb f 0)
    (λ y.
    let none = eqb_is f 0 y in
    let enough = leb_is history_length (length history) (unless_is _ refusal.Buffer (first_none (plan_short plan) (history_short history) none).1) in
    let faulty : ¬ (a.fault ≡ 0) = λ e. not-one (ap (λ (n : ℕ). numbered (first n a.fault) 1) none ∙ ap (λ (n : ℕ). numbered n 1) e) in
    let same = refused_same (plan_in plan) tree (history_in history) mask faulty in
    ap (λ (n : ℕ). filled n (history_bytes a.value) history) none
    ∙ ap (λ (h : History). filled 0 (history_bytes h) history) same
    ∙ kept history_length (history_bytes (history_in history)) history (nine history) (history_bytes_cross history enough))
    (λ z. stays f (history_bytes a.value) history (differs f 0 z))

-- ---- A schedule's place that is there: where no schedule is answered, its eight bytes are zero. So beside "none" and under every refusal, 10
-- for a short plan among them.

no_slots :
    (plan : List ℕ) (values : ℕ) (schedule : List ℕ) → short_fault schedule_length schedule ≡ 0 → ¬ (least_schedule_number plan values schedule ≡ 1) →
    slots_for plan values ≡ replicate 8 0
unfolding unless_short numbered first least_schedule
no_slots plan values schedule there not-one =
    let f = plan_short plan in
    let a = least_schedule (plan_in plan) values in
    by_test (eqb f 0)
    (λ y.
    let whole = eqb_is f 0 y in
    let unscheduled : a.value.scheduled ≡ false =
    by_test (eqb a.fault 0)
    (λ fine.
    by_test a.value.scheduled
    (λ yes. absurd (not-one (
    ap (λ (n : ℕ). numbered (first (first n f) a.fault) (digit a.value.scheduled)) there
    ∙ ap (λ (n : ℕ). numbered (first n a.fault) (digit a.value.scheduled)) whole
    ∙ ap (λ (n : ℕ). numbered n (digit a.value.scheduled)) (eqb_is a.fault 0 fine)
    ∙ ap digit yes)))
    (λ no. no))
    (λ faulty. ap (λ (x : Fixed). x.scheduled) (answered_zero none (verdict_fault (plan_in plan) values) _ (differs a.fault 0 faulty))) in
    sym (left_long f a.value.slots none.slots whole) ∙ (eight_answer (plan_in plan) values).zeros unscheduled)
    (λ z. rw z)

pub unscheduled_zero :
    (plan : List ℕ) (values : ℕ) (schedule : List ℕ) → schedule_length ≤ length schedule → ¬ (least_schedule_number plan values schedule ≡ 1) →
    least_schedule_left plan values schedule ≡ replicate 8 0 ++ drop 8 schedule
unfolding filled
unscheduled_zero plan values schedule enough not-one =
    let there = long schedule_length schedule enough in
    ap (λ (n : ℕ). filled n (slots_for plan values) schedule) there
    ∙ ap (λ (bs : List ℕ). filled 0 bs schedule) (no_slots plan values schedule there not-one)
