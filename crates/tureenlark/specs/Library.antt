-- Definitions: what each exported call answers and leaves in the buffers lent to it, for buffers of any length and contents. Names follow the
-- exported functions. Computed: pinned by `library_demands` of tureenlark/proofs/LibraryTheorem.antt.
use Rattle.std.specs.Prelude.{cond, List, ℕ, leb, eqb, length, get_or}
use Rattle.network.specs.Mask.{digit, join_below}
use Rattle.plan.specs.declared.Refusal.TheVariants as refusal
use Rattle.plan.specs.Answer.{Answer}
use Rattle.plan.specs.Faults.{unless, first, filled}
use Rattle.judge.specs.Judge.{plan_fault}
use Rattle.frame.specs.Texts.{room_fault}
use Rattle.plan_text.specs.WritePlan.{write_plan, write_plan_leaves}
use Rattle.plan_text.specs.ReadPlan.{read_plan}
use Rattle.tree_text.specs.ReadTree.{read_tree}
use Rattle.tree_text.specs.WriteTree.{write_tree}
use Rattle.checker.specs.Checker.{check_fault}
use Rattle.search.specs.Search.{search_answer, search_leaves}
use Rattle.run.specs.declared.History.{History}
use Rattle.run.specs.Run.{show_answer, report_answer}
use Rattle.run.specs.Told.{Told}
use Rattle.following.specs.Calls.{Progress, begun, after_calls}
use Rattle.following.specs.ThisRun.{the_run}
use Rattle.following.specs.Following.{calls_in, zero_step, followed_record}
use Rattle.verdict.specs.Answers.{none}
use Rattle.verdict.specs.Verdict.{least_schedule, screened}
use Rattle.differences.specs.Answers.{no_table}
use Rattle.differences.specs.Tabling.{difference_table}
use Rattle.answer_text.specs.AnswerText.{answer_text}
use Rattle.records.specs.Records.{plan_in, plan_bytes, plan_length, history_in, history_bytes, history_length}
use Rattle.answers.specs.Numbers.{numbered, answer_number, told_number, fault_number}
use Rattle.answers.specs.Steps.{told_bytes, step_bytes}
use Rattle.answers.specs.Tables.{table_length, table_bytes}

-- ---- Records. One that is shorter than its layout is 10, before anything else is looked at.

abbrev pub short_fault : ℕ → List ℕ → ℕ
short_fault n bs = unless (leb n (length bs)) refusal.Buffer

-- (A plan's length, a history's and a table's stand with their layouts.)
abbrev pub instruction_length : ℕ
instruction_length = 3

abbrev pub steps_length : ℕ
steps_length = 32

abbrev pub schedule_length : ℕ
schedule_length = 8

abbrev pub plan_short : List ℕ → ℕ
plan_short plan = short_fault plan_length plan

abbrev pub history_short : List ℕ → ℕ
history_short history = short_fault history_length history

-- what a call leaves in a buffer, unless it was refused before
unfoldable pub unless_short : ℕ → List ℕ → List ℕ → List ℕ
unless_short fault left xs = cond (eqb fault 0) left xs

-- ---- Plans and their texts.

abbrev pub judge_plan_number : List ℕ → ℕ
judge_plan_number plan = numbered (first (plan_short plan) (plan_fault (plan_in plan))) 1

abbrev pub read_plan_number : List ℕ → List ℕ → ℕ
read_plan_number text plan = numbered (first (plan_short plan) (read_plan text).fault) 1

-- where the text is refused the record is all zero
abbrev pub read_plan_left : List ℕ → List ℕ → List ℕ
read_plan_left text plan = filled (plan_short plan) (plan_bytes (read_plan text).value) plan

abbrev pub write_plan_number : List ℕ → List ℕ → ℕ
write_plan_number plan text = let a = write_plan (plan_in plan) text in numbered (first (plan_short plan) a.fault) a.value

abbrev pub write_plan_left : List ℕ → List ℕ → List ℕ
write_plan_left plan text = unless_short (plan_short plan) (write_plan_leaves (plan_in plan) text) text

-- ---- Trees and their texts.

abbrev pub read_tree_number : List ℕ → List ℕ → ℕ
read_tree_number text tree = answer_number (read_tree text tree)

abbrev pub write_tree_number : List ℕ → List ℕ → ℕ
write_tree_number tree text = answer_number (write_tree tree text)

abbrev pub check_tree_number : List ℕ → List ℕ → ℕ
check_tree_number plan tree = numbered (first (plan_short plan) (check_fault (plan_in plan) tree)) 1

-- ---- The search.

abbrev pub search_number : List ℕ → List ℕ → ℕ
search_number plan tree = let a = search_answer (plan_in plan) tree in numbered (first (plan_short plan) a.fault) a.value

abbrev pub search_left : List ℕ → List ℕ → List ℕ
search_left plan tree = unless_short (plan_short plan) (search_leaves (plan_in plan) tree) tree

-- ---- The crew's run.

abbrev pub show_short : List ℕ → List ℕ → List ℕ → ℕ
show_short plan history instruction = first (plan_short plan) (first (history_short history) (short_fault instruction_length instruction))

abbrev pub told_at : List ℕ → List ℕ → List ℕ → Told
told_at plan tree history = show_answer (plan_in plan) tree (history_in history)

abbrev pub show_number : List ℕ → List ℕ → List ℕ → List ℕ → ℕ
show_number plan tree history instruction =
    let fault = show_short plan history instruction in
    cond (eqb fault 0) (told_number (told_at plan tree history)) (fault_number fault)

abbrev pub show_left : List ℕ → List ℕ → List ℕ → List ℕ → List ℕ
show_left plan tree history instruction = filled (show_short plan history instruction) (told_bytes (told_at plan tree history)) instruction

abbrev pub report_short : List ℕ → List ℕ → ℕ
report_short plan history = first (plan_short plan) (history_short history)

abbrev pub report_at : List ℕ → List ℕ → List ℕ → ℕ → Answer History
report_at plan tree history mask = report_answer (plan_in plan) tree (history_in history) mask

abbrev pub report_number : List ℕ → List ℕ → List ℕ → ℕ → ℕ
report_number plan tree history mask = numbered (first (report_short plan history) (report_at plan tree history mask).fault) 1

abbrev pub report_left : List ℕ → List ℕ → List ℕ → ℕ → List ℕ
report_left plan tree history mask = filled (report_short plan history) (history_bytes (report_at plan tree history mask).value) history

-- ---- Lists of calls.

-- eight steps
unfoldable pub steps_bytes : Progress → List ℕ
steps_bytes r = join_below 8 (λ i. step_bytes (get_or (followed_record r).steps i zero_step))

abbrev pub follow_short : List ℕ → List ℕ → List ℕ → ℕ
follow_short plan history steps = first (plan_short plan) (first (history_short history) (short_fault steps_length steps))

abbrev pub followed : List ℕ → List ℕ → List ℕ → List ℕ → Progress
followed plan tree history calls = after_calls the_run (plan_in plan) tree (begun (history_in history)) (calls_in calls)

abbrev pub follow_number : List ℕ → List ℕ → List ℕ → List ℕ → List ℕ → ℕ
follow_number plan tree history calls steps =
    numbered (follow_short plan history steps) (length (followed plan tree history calls).steps)

abbrev pub follow_history : List ℕ → List ℕ → List ℕ → List ℕ → List ℕ → List ℕ
follow_history plan tree history calls steps =
    filled (follow_short plan history steps) (history_bytes (followed plan tree history calls).history) history

abbrev pub follow_steps : List ℕ → List ℕ → List ℕ → List ℕ → List ℕ → List ℕ
follow_steps plan tree history calls steps =
    filled (follow_short plan history steps) (steps_bytes (followed plan tree history calls)) steps

-- ---- Fixed outcomes and the screen.

abbrev pub schedule_short : List ℕ → List ℕ → ℕ
schedule_short plan schedule = first (short_fault schedule_length schedule) (plan_short plan)

abbrev pub least_schedule_number : List ℕ → ℕ → List ℕ → ℕ
least_schedule_number plan values schedule =
    let a = least_schedule (plan_in plan) values in
    numbered (first (schedule_short plan schedule) a.fault) (digit a.value.scheduled)

-- the eight slots: all zero beside "none", and where the record, the plan or the letters are refused
abbrev pub slots_for : List ℕ → ℕ → List ℕ
slots_for plan values = unless_short (plan_short plan) (least_schedule (plan_in plan) values).value.slots none.slots

-- They fill the schedule's place wherever it is there, under 10 for a short plan too; a place that is short stays as it was.
abbrev pub least_schedule_left : List ℕ → ℕ → List ℕ → List ℕ
least_schedule_left plan values schedule = filled (short_fault schedule_length schedule) (slots_for plan values) schedule

abbrev pub screen_number : List ℕ → ℕ
screen_number plan = let a = screened (plan_in plan) in numbered (first (plan_short plan) a.fault) (digit a.value)

-- ---- The table of differences.

abbrev pub table_short : List ℕ → List ℕ → ℕ
table_short plan table = first (short_fault table_length table) (plan_short plan)

abbrev pub differences_number : List ℕ → ℕ → List ℕ → ℕ
differences_number plan values table =
    let a = difference_table (plan_in plan) values in
    numbered (first (table_short plan table) a.fault) (digit a.value.scheduled)

-- the 128 bytes: all zero beside "none", and where the record, the plan or the letters are refused
abbrev pub table_for : List ℕ → ℕ → List ℕ
table_for plan values =
    unless_short (plan_short plan) (table_bytes (difference_table (plan_in plan) values).value.rows) (table_bytes no_table.rows)

-- They fill the table's place wherever it is there, under 10 for a short plan too; a place that is short stays as it was.
abbrev pub differences_left : List ℕ → ℕ → List ℕ → List ℕ
differences_left plan values table = filled (short_fault table_length table) (table_for plan values) table

-- ---- The program's answer.

abbrev pub answer_fault : List ℕ → List ℕ → ℕ
answer_fault input text = room_fault (answer_text input) text

abbrev pub answer_text_number : List ℕ → List ℕ → ℕ
answer_text_number input text = numbered (answer_fault input text) (length (answer_text input))

abbrev pub answer_text_left : List ℕ → List ℕ → List ℕ
answer_text_left input text = filled (answer_fault input text) (answer_text input) text
