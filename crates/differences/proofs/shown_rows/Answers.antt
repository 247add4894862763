-- `shown_rows`: each row by its own call. Only the checker need believe this file.
use mathlib.Core.Bool.{cond, ◌&&◌}
use mathlib.Core.List.{List}
use Prim.Native.Nat.{ℕ, ◌%◌}
use borrow.Author.Rules.{rules}
use lib.Dec.{ltb}
use Rattle.network.specs.Limits.{limit_at}
use Rattle.plan.specs.Plan.{listed}
use Rattle.differences.specs.declared.Row.{Row}
use Rattle.differences.specs.Answers.{zero_row}
use Rattle.differences.specs.Tabling.{shown}
use Rattle.differences.proofs.ArrayLaws.{made_listed, row_is}
use Rattle.differences.proofs.shown_rows.Goals as goal

-- the row of x
abbrev row : List (List ℕ) → ℕ → ℕ → Row
row t n x = record { to = listed 8 (λ y. cond (ltb x n && ltb y n) (limit_at t x y % 65536) 0) }

pub returns : goal.returns
unfolding shown
returns c =
    let a = c.args in
    made_listed _ _ (row a.limits a.n) 8 zero_row c.from_fn.result (λ x r q lt call. search (rules, row_is)) c.from_fn.ensures.items
