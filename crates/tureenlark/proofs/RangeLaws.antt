-- Laws: the numbers that each exported call can answer, and short records. Only the checker need believe this file; specs/LibraryDemands.antt
-- has the statements.
use mathlib.Core.Path.{◌≡◌, refl, sym, ap, ◌∙◌}
use mathlib.Core.Logic.{inl, inr, ⊎_elim}
use mathlib.Core.Bool.{Bool, true, false, cond}
use mathlib.Core.List.{List, [], ◌∷◌}
use Prim.Native.Nat.{ℕ, ◌≤◌}
use native.Mathlib.Omega.{arith}
use lib.Dec.{leb, eqb}
use lib.ListN.{length}
use Rattle.network.specs.Mask.{digit}
use Rattle.network.proofs.Booleans.{by_test, differs}
use Rattle.plan.specs.declared.Plan.{Plan}
use Rattle.plan.specs.declared.Refusal.TheVariants as refusal
use Rattle.plan.specs.Faults.{first}
use Rattle.plan.proofs.AnswerLaws.{first_none}
use Rattle.plan.specs.Plan.{listed, network_of}
use Rattle.judge.specs.Judge.{plan_fault}
use Rattle.tree.specs.Nodes.{legal_length}
use Rattle.tree.specs.Trees.{tree_bytes}
use Rattle.tree.proofs.NodeLaws.{legal_is}
use Rattle.plan_text.specs.PlanText.{plan_text}
use Rattle.plan_text.specs.ReadPlan.{read_plan}
use Rattle.plan_text.specs.WritePlan.{write_plan}
use Rattle.plan_text.proofs.LengthLaws.{plan_length_lem}
use Rattle.plan_text.proofs.PlanTextTheorems.{at_most_1025}
use Rattle.tree_text.specs.ReadTree.{read_tree}
use Rattle.tree_text.specs.WriteTree.{write_tree}
use Rattle.tree_text.proofs.TreeTextLaws.{text_length}
use Rattle.checker.specs.Checker.{check_fault}
use Rattle.search.specs.Search.{search_answer}
use Rattle.search.proofs.SearchTheorems.{fault_is, count_bounds}
use Rattle.verdict.specs.Verdict.{least_schedule, screened}
use Rattle.differences.specs.Tabling.{difference_table}
use Rattle.answer_text.specs.AnswerText.{answer_text}
use Rattle.answer_text.proofs.AnswerTextTheorems.{answer_fits}
use Rattle.demands.specs.EachCall.{OneOf}
use Rattle.demands.proofs.Demand1Laws.{all_among, one_of_more, first_one, unless_one, by_plan, plan_one, write_one, crew_numbers}
use Rattle.demands.proofs.Demand1Theorem.{demand1, show_numbered, reports_one, search_one}
use Rattle.records.specs.Records.{plan_in, plan_length, history_in, history_length}
use Rattle.answers.specs.Numbers.{fault_number, told_number}
use Rattle.answers.specs.Tables.{table_length}
use Rattle.tureenlark.specs.Library.{short_fault, plan_short, instruction_length, steps_length, schedule_length, judge_plan_number, read_plan_number, write_plan_number, read_tree_number}
use Rattle.tureenlark.specs.Library.{write_tree_number, check_tree_number, search_number, show_short, told_at, show_number, report_short, report_at}
use Rattle.tureenlark.specs.Library.{report_number, follow_short, followed, follow_number, schedule_short, least_schedule_number, screen_number}
use Rattle.tureenlark.specs.Library.{table_short, differences_number, answer_fault, answer_text_number}
use Rattle.tureenlark.specs.LibraryDemands.{ResultOr}
use Rattle.tureenlark.proofs.DecodeLaws.{some_of, answers_of, told_numbers}

-- a short record is 10
short_one : (ms : List ℕ) (n : ℕ) (bs : List ℕ) → (all_among ms (0 ∷ 10 ∷ []) ≡ true) → OneOf ms (short_fault n bs)
short_one ms n bs t = unless_one ms (leb n (length bs)) refusal.Buffer t

-- what is counted, where there is no fault
pub plan_written_most : (p : Plan) (text : List ℕ) → (write_plan p text).fault ≡ 0 → (11 ≤ (write_plan p text).value) × ((write_plan p text).value ≤ 1025)
plan_written_most p text none =
    let counted = (demand1.write_plan_lem p text).counted none in
    let long = plan_length_lem p in
    by_plan p
    (λ wf. let most = at_most_1025 p wf in (omega (arith, counted, long), omega (arith, counted, most)))
    (λ n h. absurd (n (((demand1.write_plan_lem p text).judged n).fine.0 none)))

pub tree_read_most : (text tree : List ℕ) → (read_tree text tree).fault ≡ 0 → (1 ≤ (read_tree text tree).value) × ((read_tree text tree).value ≤ 191)
tree_read_most text tree e =
    let (bs, says, three, fills) = (demand1.read_tree_lem text tree).read e in
    let legal = legal_is (length bs) says.legal in
    (omega arith, omega arith)

pub tree_written_most :
    (tree text : List ℕ) → (write_tree tree text).fault ≡ 0 → (14 ≤ (write_tree tree text).value) × ((write_tree tree text).value ≤ 1724)
tree_written_most tree text e =
    let so = demand1.write_tree_lem tree text in
    let counted = so.counted e in
    let long = text_length tree in
    by_test (legal_length (length tree))
    (λ y. let legal = legal_is (length tree) y in
    (omega (arith, counted, long, legal.threes, legal.some), omega (arith, counted, long, legal.threes, legal.most)))
    (λ z. let six = so.shape.1 z in absurd (omega (arith, six, e)))

pub searched_most : (p : Plan) (tree : List ℕ) → (search_answer p tree).fault ≡ 0 → (1 ≤ (search_answer p tree).value) × ((search_answer p tree).value ≤ 191)
searched_most p tree e = count_bounds p tree (sym (fault_is p tree) ∙ e)

module _ (plan : List ℕ) where
  abbrev p : Plan
  p = plan_in plan

  pub judge_range : ResultOr 1 1 (2 ∷ 3 ∷ 4 ∷ 10 ∷ []) (judge_plan_number plan)
  judge_range =
      answers_of 1 1 _ (first (plan_short plan) (plan_fault p)) 1 (λ e. (omega arith, omega arith))
      (first_one _ _ _ (short_one _ plan_length plan refl) (plan_one _ refl p))

  pub read_plan_range : (text : List ℕ) → ResultOr 1 1 (1 ∷ 2 ∷ 3 ∷ 4 ∷ 10 ∷ []) (read_plan_number text plan)
  read_plan_range text =
      answers_of 1 1 _ (first (plan_short plan) (read_plan text).fault) 1 (λ e. (omega arith, omega arith))
      (first_one _ _ _ (short_one _ plan_length plan refl) (one_of_more _ _ _ refl (demand1.read_plan_lem text).numbers))

  pub write_plan_range : (text : List ℕ) → ResultOr 11 1025 (2 ∷ 3 ∷ 4 ∷ 10 ∷ []) (write_plan_number plan text)
  unfolding write_plan
  write_plan_range text =
      let a = write_plan p text in
      answers_of 11 1025 _ (first (plan_short plan) a.fault) a.value
      (λ e. plan_written_most p text (first_none (plan_short plan) a.fault e).1)
      (first_one _ _ _ (short_one _ plan_length plan refl) (write_one (plan_fault p) (plan_text p) text _ refl (plan_one _ refl p)))

  pub check_range : (tree : List ℕ) → ResultOr 1 1 (2 ∷ 3 ∷ 4 ∷ 6 ∷ 7 ∷ 10 ∷ []) (check_tree_number plan tree)
  check_range tree =
      answers_of 1 1 _ (first (plan_short plan) (check_fault p tree)) 1 (λ e. (omega arith, omega arith))
      (first_one _ _ _ (short_one _ plan_length plan refl)
      (by_plan p
      (λ wf. one_of_more _ _ _ refl ((demand1.check p tree).numbers wf))
      (λ n h. one_of_more _ _ _ refl ((demand1.check p tree).judged n).numbers)))

  pub search_range : (tree : List ℕ) → ResultOr 1 191 (2 ∷ 3 ∷ 4 ∷ 10 ∷ 11 ∷ []) (search_number plan tree)
  search_range tree =
      let a = search_answer p tree in
      answers_of 1 191 _ (first (plan_short plan) a.fault) a.value
      (λ e. searched_most p tree (first_none (plan_short plan) a.fault e).1)
      (first_one _ _ _ (short_one _ plan_length plan refl) (one_of_more _ _ _ refl (search_one p tree)))

pub read_tree_range : (text tree : List ℕ) → ResultOr 1 191 (5 ∷ 10 ∷ []) (read_tree_number text tree)
read_tree_range text tree =
    let a = read_tree text tree in
    answers_of 1 191 _ a.fault a.value
    (tree_read_most text tree) (demand1.read_tree_lem text tree).numbers

pub write_tree_range : (tree text : List ℕ) → ResultOr 14 1724 (6 ∷ 10 ∷ []) (write_tree_number tree text)
write_tree_range tree text =
    let a = write_tree tree text in
    answers_of 14 1724 _ a.fault a.value (tree_written_most tree text) (demand1.write_tree_lem tree text).numbers

-- ---- the crew's run

-- one of more numbers
answers_more :
    (low high : ℕ) (ks ms : List ℕ) (n : ℕ) → all_among ks ms ≡ true → ResultOr low high ms n → ResultOr low high ks n
answers_more low high ks ms n t (inl r) = inl r
answers_more low high ks ms n t (inr (k, one, e)) = inr (k, one_of_more ks ms k t one, e)

-- a number that is told unless a record is short
abbrev with_ten : List ℕ
with_ten = 2 ∷ 3 ∷ 4 ∷ 6 ∷ 7 ∷ 8 ∷ 9 ∷ 10 ∷ []

told_range :
    (f n : ℕ) → OneOf (0 ∷ 10 ∷ []) f → ResultOr 0 1 crew_numbers n → ResultOr 0 1 with_ten (cond (eqb f 0) n (fault_number f))
told_range f n one told =
    by_test (eqb f 0)
    (λ y. rw y (answers_more 0 1 with_ten crew_numbers n refl told))
    (λ z. rw z (inr (f, one_of_more with_ten (10 ∷ []) f refl (some_of (10 ∷ []) f one (differs f 0 z)), refl)))

pub show_range :
    (plan tree history instruction : List ℕ) →
    ResultOr 0 1 (2 ∷ 3 ∷ 4 ∷ 6 ∷ 7 ∷ 8 ∷ 9 ∷ 10 ∷ []) (show_number plan tree history instruction)
show_range plan tree history instruction =
    told_range (show_short plan history instruction) (told_number (told_at plan tree history))
    (first_one _ _ _ (short_one _ plan_length plan refl)
    (first_one _ _ _ (short_one _ history_length history refl) (short_one _ instruction_length instruction refl)))
    (told_numbers (told_at plan tree history) (show_numbered (plan_in plan) tree (history_in history)))

pub report_range :
    (plan tree history : List ℕ) (mask : ℕ) →
    ResultOr 1 1 (2 ∷ 3 ∷ 4 ∷ 6 ∷ 7 ∷ 8 ∷ 9 ∷ 10 ∷ []) (report_number plan tree history mask)
report_range plan tree history mask =
    answers_of 1 1 _ (first (report_short plan history) (report_at plan tree history mask).fault) 1 (λ e. (omega arith, omega arith))
    (first_one _ _ _ (first_one _ _ _ (short_one _ plan_length plan refl) (short_one _ history_length history refl))
    (one_of_more _ _ _ refl (reports_one (plan_in plan) tree (history_in history) mask)))

-- a history that is read has eight masks
pub eight_in : (bs : List ℕ) → length (history_in bs).masks ≡ 8
unfolding listed
eight_in bs = refl

pub follow_range : (plan tree history calls steps : List ℕ) → ResultOr 0 8 (10 ∷ []) (follow_number plan tree history calls steps)
follow_range plan tree history calls steps =
    let few = demand1.follow_few (plan_in plan) tree (history_in history) calls (eight_in history) in
    answers_of 0 8 _ (follow_short plan history steps) (length (followed plan tree history calls).steps) (λ e. (omega arith, few))
    (first_one _ _ _ (short_one _ plan_length plan refl)
    (first_one _ _ _ (short_one _ history_length history refl) (short_one _ steps_length steps refl)))

-- ---- fixed outcomes, the screen, the program

digit_most : (b : Bool) → (0 ≤ digit b) × (digit b ≤ 1)
digit_most true = (omega arith, omega arith)
digit_most false = (omega arith, omega arith)

pub least_schedule_range :
    (plan : List ℕ) (values : ℕ) (schedule : List ℕ) → ResultOr 0 1 (2 ∷ 3 ∷ 4 ∷ 8 ∷ 10 ∷ []) (least_schedule_number plan values schedule)
least_schedule_range plan values schedule =
    let a = least_schedule (plan_in plan) values in
    let so = demand1.verdict (plan_in plan) values in
    answers_of 0 1 _ (first (schedule_short plan schedule) a.fault) (digit a.value.scheduled) (λ e. digit_most a.value.scheduled)
    (first_one _ _ _ (first_one _ _ _ (short_one _ schedule_length schedule refl) (short_one _ plan_length plan refl))
    (by_plan (plan_in plan)
    (λ wf. one_of_more _ _ _ refl (so.numbers wf))
    (λ n h. one_of_more _ _ _ refl (so.judged n).numbers)))

pub screen_range : (plan : List ℕ) → ResultOr 0 1 (2 ∷ 3 ∷ 4 ∷ 10 ∷ []) (screen_number plan)
screen_range plan =
    let a = screened (plan_in plan) in
    answers_of 0 1 _ (first (plan_short plan) a.fault) (digit a.value) (λ e. digit_most a.value)
    (first_one _ _ _ (short_one _ plan_length plan refl) (one_of_more _ _ _ refl (demand1.screen (plan_in plan)).judged.numbers))

pub differences_range :
    (plan : List ℕ) (values : ℕ) (table : List ℕ) → ResultOr 0 1 (2 ∷ 3 ∷ 4 ∷ 8 ∷ 10 ∷ []) (differences_number plan values table)
differences_range plan values table =
    let a = difference_table (plan_in plan) values in
    let so = demand1.differences (plan_in plan) values in
    answers_of 0 1 _ (first (table_short plan table) a.fault) (digit a.value.scheduled) (λ e. digit_most a.value.scheduled)
    (first_one _ _ _ (first_one _ _ _ (short_one _ table_length table refl) (short_one _ plan_length plan refl))
    (by_plan (plan_in plan)
    (λ wf. one_of_more _ _ _ refl (so.numbers wf))
    (λ n h. one_of_more _ _ _ refl (so.judged n).numbers)))

pub answer_range : (input text : List ℕ) → ResultOr 5 1724 (10 ∷ []) (answer_text_number input text)
answer_range input text =
    let fits = answer_fits input in
    let some : 5 ≤ length (answer_text input) =
    ⊎_elim
    (λ (n, fault, e). let long = ap length e in omega arith)
    (λ (q, sized, wf, text, printed).
    ⊎_elim
    (λ (none, e). let long = ap length e in omega arith)
    (λ (c, (t, f, e)). let long = ap length e in let all = text_length (tree_bytes (network_of q) t) in omega arith)
    printed)
    (demand1.program input) in
    answers_of 5 1724 _ (answer_fault input text) (length (answer_text input)) (λ e. (some, fits))
    (unless_one _ (leb (length (answer_text input)) (length text)) refusal.Buffer refl)
