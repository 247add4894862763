-- Theorem: this library meets the demands. Read the statement in specs/LibraryDemands.antt; only the checker need believe the proof.
use mathlib.Core.Path.{◌≡◌, sym, ap, ◌∙◌}
use mathlib.Core.Logic.{◌⊎◌, inl, inr, ⊎_elim, by_cases}
use mathlib.Core.List.{List, ◌++◌}
use Prim.Native.Nat.{ℕ, ◌≤◌, ◌<◌}
use native.Mathlib.Omega.{arith}
use native.Mathlib.Decide.{dec_lt}
use lib.ListN.{length, drop, replicate}
use Rattle.plan.specs.Faults.{first}
use Rattle.judge.specs.Judge.{plan_fault}
use Rattle.plan_text.specs.ReadPlan.{read_plan}
use Rattle.plan_text.specs.WritePlan.{write_plan, write_plan_leaves}
use Rattle.checker.specs.Checker.{check_fault}
use Rattle.search.specs.Search.{search_answer, search_leaves}
use Rattle.verdict.specs.Answers.{none}
use Rattle.verdict.specs.Verdict.{least_schedule, screened}
use Rattle.records.specs.Records.{plan_in, plan_bytes, plan_length, history_bytes, history_length}
use Rattle.answers.specs.Numbers.{told_number}
use Rattle.answers.specs.Steps.{told_bytes}
use Rattle.tureenlark.specs.Library.{plan_short, short_fault, instruction_length, steps_length, schedule_length, show_short, told_at}
use Rattle.tureenlark.specs.Library.{report_short, report_at, follow_short, followed, steps_bytes, schedule_short, slots_for}
use Rattle.tureenlark.specs.Library.{show_number, show_left, report_number, report_left, follow_number, follow_history, follow_steps}
use Rattle.tureenlark.specs.Library.{least_schedule_number, least_schedule_left}
use Rattle.tureenlark.specs.ThisLibrary.{library}
use Rattle.tureenlark.specs.LibraryDemands.{Ten, LibraryDemands}
use Rattle.tureenlark.proofs.LibraryLaws.{short, long, first_short, then_short, number_short, number_refused, told_short, left_short, filled_short}
use Rattle.tureenlark.proofs.RangeLaws as range
use Rattle.tureenlark.proofs.PlanCallLaws as plans
use Rattle.tureenlark.proofs.RunCallLaws as runs
use Rattle.tureenlark.proofs.FixedCallLaws as fixed
use Rattle.tureenlark.proofs.TableCallLaws as table

-- ---- which of some records is short

-- 10 where one of two is, whichever comes first
ten_of_two : (f g : ℕ) → ((f ≡ 10) ⊎ (f ≡ 0)) → ((g ≡ 10) ⊎ (g ≡ 0)) → (f ≡ 10) ⊎ (g ≡ 10) → first f g ≡ 10
ten_of_two f g (inl e) or-g one = first_short f g e
ten_of_two f g (inr e) or-g (inl ten) = absurd (omega (arith, e, ten))
ten_of_two f g (inr e) or-g (inr ten) = then_short f g 10 e ten

short_or : (n : ℕ) (bs : List ℕ) → (short_fault n bs ≡ 10) ⊎ (short_fault n bs ≡ 0)
short_or n bs = by_cases (dec_lt (length bs) n) (λ lt. inl (short n bs lt)) (λ ge. inr (long n bs (omega arith)))

first_or : (f g : ℕ) → ((f ≡ 10) ⊎ (f ≡ 0)) → ((g ≡ 10) ⊎ (g ≡ 0)) → (first f g ≡ 10) ⊎ (first f g ≡ 0)
first_or f g (inl e) or-g = inl (first_short f g e)
first_or f g (inr e) (inl ten) = inl (then_short f g 10 e ten)
first_or f g (inr e) (inr zero) = inr (then_short f g 0 e zero)

two_short :
    (n m : ℕ) (bs cs : List ℕ) → (length bs < n) ⊎ (length cs < m) → first (short_fault n bs) (short_fault m cs) ≡ 10
two_short n m bs cs one =
    ten_of_two (short_fault n bs) (short_fault m cs) (short_or n bs) (short_or m cs)
    (⊎_elim (λ lt. inl (short n bs lt)) (λ lt. inr (short m cs lt)) one)

three_short :
    (n m k : ℕ) (bs cs ds : List ℕ) → (length bs < n) ⊎ ((length cs < m) ⊎ (length ds < k)) →
    first (short_fault n bs) (first (short_fault m cs) (short_fault k ds)) ≡ 10
three_short n m k bs cs ds one =
    ten_of_two (short_fault n bs) (first (short_fault m cs) (short_fault k ds)) (short_or n bs)
    (first_or (short_fault m cs) (short_fault k ds) (short_or m cs) (short_or k ds))
    (⊎_elim (λ lt. inl (short n bs lt)) (λ two. inr (two_short m k cs ds two)) one)

-- ---- calls with a record that is short

show_short_so :
    (plan tree history instruction : List ℕ) →
    (length plan < plan_length) ⊎ ((length history < history_length) ⊎ (length instruction < 3)) →
    Ten (show_number plan tree history instruction) × (show_left plan tree history instruction ≡ instruction)
show_short_so plan tree history instruction one =
    let ten = three_short plan_length history_length instruction_length plan history instruction one in (
      sym (told_short (show_short plan history instruction) (told_number (told_at plan tree history)) ten),
      sym (filled_short (show_short plan history instruction) (told_bytes (told_at plan tree history)) instruction ten),
    )

report_short_so :
    (plan tree history : List ℕ) (mask : ℕ) → (length plan < plan_length) ⊎ (length history < history_length) →
    Ten (report_number plan tree history mask) × (report_left plan tree history mask ≡ history)
report_short_so plan tree history mask one =
    let ten = two_short plan_length history_length plan history one in
    let back = report_at plan tree history mask in (
      sym (number_short (report_short plan history) back.fault 1 ten),
      sym (filled_short (report_short plan history) (history_bytes back.value) history ten),
    )

follow_short_so :
    (plan tree history calls steps : List ℕ) → (length plan < plan_length) ⊎ ((length history < history_length) ⊎ (length steps < 32)) →
    Ten (follow_number plan tree history calls steps) × (follow_history plan tree history calls steps ≡ history)
    × (follow_steps plan tree history calls steps ≡ steps)
follow_short_so plan tree history calls steps one =
    let ten = three_short plan_length history_length steps_length plan history steps one in
    let r = followed plan tree history calls in (
      sym (number_refused (follow_short plan history steps) (length r.steps) ten),
      sym (filled_short (follow_short plan history steps) (history_bytes r.history) history ten),
      sym (filled_short (follow_short plan history steps) (steps_bytes r) steps ten),
    )

no_place_so :
    (plan : List ℕ) (values : ℕ) (schedule : List ℕ) → length schedule < 8 →
    Ten (least_schedule_number plan values schedule) × (least_schedule_left plan values schedule ≡ schedule)
no_place_so plan values schedule lt =
    let ten = short schedule_length schedule lt in
    let both = first_short (short_fault schedule_length schedule) (plan_short plan) ten in (
      sym (number_short (schedule_short plan schedule) (least_schedule (plan_in plan) values).fault _ both),
      sym (filled_short (short_fault schedule_length schedule) (slots_for plan values) schedule ten),
    )

schedule_short_so :
    (plan : List ℕ) (values : ℕ) (schedule : List ℕ) → length plan < plan_length → 8 ≤ length schedule →
    Ten (least_schedule_number plan values schedule) × (least_schedule_left plan values schedule ≡ replicate 8 0 ++ drop 8 schedule)
schedule_short_so plan values schedule lt room =
    let ten = short plan_length plan lt in
    let there = long schedule_length schedule room in
    let both = then_short (short_fault schedule_length schedule) (plan_short plan) 10 there ten in
    let zeros = sym (left_short (plan_short plan) (least_schedule (plan_in plan) values).value.slots none.slots ten) in (
      sym (number_short (schedule_short plan schedule) (least_schedule (plan_in plan) values).fault _ both),
      runs.front_is (short_fault schedule_length schedule) (slots_for plan values) schedule there
          ∙ ap (λ (l : List ℕ). l ++ drop (length l) schedule) zeros,
    )

-- ---- The theorem

pub library_demands : LibraryDemands library
library_demands =
    record {
      judge_numbers = range.judge_range;
      read_plan_numbers = λ text plan. range.read_plan_range plan text;
      write_plan_numbers = range.write_plan_range;
      read_tree_numbers = range.read_tree_range;
      write_tree_numbers = range.write_tree_range;
      check_numbers = range.check_range;
      search_numbers = range.search_range;
      show_numbers = range.show_range;
      report_numbers = range.report_range;
      follow_numbers = range.follow_range;
      least_schedule_numbers = range.least_schedule_range;
      screen_numbers = range.screen_range;
      differences_numbers = range.differences_range;
      answer_numbers = range.answer_range;
      judge_short = λ plan lt. sym (number_short (plan_short plan) (plan_fault (plan_in plan)) 1 (short plan_length plan lt));
      read_plan_short = λ text plan lt. (
        sym (number_short (plan_short plan) (read_plan text).fault 1 (short plan_length plan lt)),
        sym (filled_short (plan_short plan) (plan_bytes (read_plan text).value) plan (short plan_length plan lt)),
      );
      write_plan_short = λ plan text lt. (
        sym (number_short (plan_short plan) (write_plan (plan_in plan) text).fault _ (short plan_length plan lt)),
        sym (left_short (plan_short plan) (write_plan_leaves (plan_in plan) text) text (short plan_length plan lt)),
      );
      check_short = λ plan tree lt. sym (number_short (plan_short plan) (check_fault (plan_in plan) tree) 1 (short plan_length plan lt));
      search_short = λ plan tree lt. (
        sym (number_short (plan_short plan) (search_answer (plan_in plan) tree).fault _ (short plan_length plan lt)),
        sym (left_short (plan_short plan) (search_leaves (plan_in plan) tree) tree (short plan_length plan lt)),
      );
      show_short_lem = show_short_so;
      report_short_lem = report_short_so;
      follow_short_lem = follow_short_so;
      least_schedule_no_place = no_place_so;
      least_schedule_short = schedule_short_so;
      differences_no_place = table.no_place_so;
      differences_short = λ plan values place lt room. table.table_short_so plan values place room lt;
      screen_short = λ plan lt. sym (number_short (plan_short plan) (screened (plan_in plan)).fault _ (short plan_length plan lt));
      judge = plans.judge_so;
      read_plan_lem = λ text plan enough. plans.read_plan_so plan enough text;
      read_plan_bytes = λ text plan enough. plans.read_plan_bytes_so plan enough text;
      read_plan_exactly = λ text plan enough. plans.read_plan_exactly_so plan enough text;
      read_plan_back = plans.read_plan_back_so;
      write_plan_lem = λ plan text enough. plans.write_plan_so plan enough text;
      read_tree_lem = plans.read_tree_so;
      write_tree_lem = plans.write_tree_so;
      tree_back = plans.tree_back_so;
      check = λ plan tree enough. plans.check_so plan enough tree;
      check_yes = λ plan tree enough. plans.check_yes_so plan enough tree;
      search = λ plan tree enough. plans.search_so plan enough tree;
      search_hopeless = λ plan tree enough. plans.search_hopeless_so plan enough tree;
      search_nobody = λ plan tree enough. plans.search_nobody_so plan enough tree;
      search_tree = λ plan tree enough. plans.search_tree_so plan enough tree;
      show = runs.show_so;
      show_bytes = runs.show_bytes_so;
      report = λ plan tree history instruction mask enough nine three. runs.report_so plan tree history mask enough nine instruction three;
      report_bytes = runs.report_bytes_so;
      every_crew = runs.every_crew_so;
      every_two_crews = runs.every_two_crews_so;
      follow = runs.follow_so;
      least_schedule_lem = fixed.least_schedule_so;
      least_schedule_says = fixed.least_schedule_says_so;
      screen = fixed.screen_so;
      screen_passes = fixed.screen_passes_so;
      differences = λ plan values place enough room. table.table_so plan values place room enough;
      differences_zero = table.table_zero_so;
      differences_says = λ plan values place enough room. table.table_says_so plan values place room enough;
      differences_forced = λ plan values place enough room. table.table_forced_so plan values place room enough;
      answer = fixed.answer_so;
    }
