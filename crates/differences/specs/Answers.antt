-- Definitions: what is said of differences, and number and values of each case of what the call hands back. To be believed, for demand 1, 2, 3.
use Rattle.std.specs.Prelude.{Bool, true, false, List, replicate, Option, Some, None, Result, Ok, Err}
use Rattle.plan.specs.declared.Refusal.{Refusal}
use Rattle.plan.specs.Answer.{Answer, fine, refused}
use Rattle.differences.specs.declared.Row.{Row}
use Rattle.differences.specs.declared.DifferenceTable.{DifferenceTable}

-- whether there is a schedule, and the eight rows of the table
pub record Differences : Type 0 where
  pub scheduled : Bool
  pub rows : List Row

abbrev pub zero_row : Row
zero_row = record { to = replicate 8 0 }

-- card 2's "none", and beside a refusal: all 64 entries are zero
abbrev pub no_table : Differences
no_table = record { scheduled = false; rows = replicate 8 zero_row }

-- what a table says, or "none"
abbrev pub tabling : Option DifferenceTable → Differences
tabling (Some t) = record { scheduled = true; rows = t.rows }
tabling None = no_table

-- what a call's answer says
abbrev pub table_answer : Result (Option DifferenceTable) Refusal → Answer Differences
table_answer (Ok t) = fine (tabling t)
table_answer (Err r) = refused no_table r

-- .. and its eight rows
abbrev pub rows_of : Result (Option DifferenceTable) Refusal → List Row
rows_of r = (table_answer r).value.rows
