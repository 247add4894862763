-- Theorems of what stands in the place of a plan, a schedule or a table that a call was to make, of what `places` hands out by its contracts:
-- all zero beside "none" and beside a refusal. Only the checker need believe this file.
use mathlib.Core.Path.{◌≡◌, refl, ◌∙◌}
use mathlib.Core.List.{List}
use Prim.Native.Nat.{ℕ}
use lib.ListN.{replicate}
use Rattle.std.specs.Prelude.{Option, Some, None, Result, Ok, Err}
use Rattle.plan.specs.declared.Plan.{Plan}
use Rattle.plan.specs.declared.Refusal.{Refusal}
use Rattle.plan.specs.Plan.{zero_plan}
use Rattle.plan_text.specs.PlanRead.{plan_read_answer}
use Rattle.verdict.specs.Answers.{Verdict, verdict_answer}
use Rattle.differences.specs.declared.Row.{Row}
use Rattle.differences.specs.declared.DifferenceTable.{DifferenceTable}
use Rattle.differences.specs.Answers.{zero_row, table_answer}

pub plan_beside_refusal_zero :
    (read : Result Plan Refusal) (plan : Plan) → plan ≡ (plan_read_answer read).value → ((p : Plan) → read ≡ Ok p → ⊥) → plan ≡ zero_plan
plan_beside_refusal_zero (Ok p) plan handed none = absurd (none p refl)
plan_beside_refusal_zero (Err r) plan handed none = handed

pub slots_beside_none_zero :
    (r : Verdict) (slots : List ℕ) → slots ≡ (verdict_answer r).value.slots → ((s : List ℕ) → r ≡ Ok (Some s) → ⊥) →
    slots ≡ replicate 8 0
slots_beside_none_zero (Ok (Some s)) slots handed none = absurd (none s refl)
slots_beside_none_zero (Ok None) slots handed none = handed
slots_beside_none_zero (Err r) slots handed none = handed

pub rows_beside_none_zero :
    (r : Result (Option DifferenceTable) Refusal) (rows : List Row) → rows ≡ (table_answer r).value.rows →
    ((t : DifferenceTable) → r ≡ Ok (Some t) → ⊥) → rows ≡ replicate 8 zero_row
rows_beside_none_zero (Ok (Some t)) rows handed none = absurd (none t refl)
rows_beside_none_zero (Ok None) rows handed none = handed
rows_beside_none_zero (Err r) rows handed none = handed
