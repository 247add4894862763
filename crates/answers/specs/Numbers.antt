-- Definitions: the answer of a call as one number. Computed: pinned by `library_demands` of
-- tureenlark/proofs/LibraryTheorem.antt.
use Rattle.std.specs.Prelude.{Bool, cond, ℕ, ◌+◌, eqb, Option, Some, None, Result, Ok, Err}
use Rattle.network.specs.Mask.{digit}
use Rattle.plan.specs.declared.Refusal.{Refusal}
use Rattle.plan.specs.Refusal.{refusal_number}
use Rattle.plan.specs.Answer.{Answer}
use Rattle.run.specs.Told.{Told, instruct, complete, refuse}
use Rattle.verdict.specs.Answers.{Fixed}
use Rattle.differences.specs.Answers.{Differences}

-- a refusal: 7F00 (hexadecimal) and its number, like the frame 7F of a text
abbrev pub fault_number : ℕ → ℕ
fault_number n = 32512 + n

-- a result, unless there is a fault
unfoldable pub numbered : ℕ → ℕ → ℕ
numbered fault result = cond (eqb fault 0) result (fault_number fault)

-- a count or a length
abbrev pub answer_number : Answer ℕ → ℕ
answer_number a = numbered a.fault a.value

-- yes is 1, no is 0
abbrev pub test_number : Answer Bool → ℕ
test_number a = numbered a.fault (digit a.value)

-- whether there is a schedule
abbrev pub fixed_number : Answer Fixed → ℕ
fixed_number a = numbered a.fault (digit a.value.scheduled)

-- whether there is a table
abbrev pub table_number : Answer Differences → ℕ
table_number a = numbered a.fault (digit a.value.scheduled)

-- 1 for an instruction, 0 for done
abbrev pub told_number : Told → ℕ
told_number (instruct m) = 1
told_number complete = 0
told_number (refuse n) = fault_number n

-- the number of what a call hands back, by a reading of what it is where nothing is refused
abbrev pub number_of : {A : Type 0} → (A → ℕ) → Result A Refusal → ℕ
number_of reading (Ok a) = reading a
number_of reading (Err r) = fault_number (refusal_number r)

-- 1 for something, 0 for nothing
abbrev pub some_number : {A : Type 0} → Option A → ℕ
some_number None = 0
some_number (Some a) = 1
