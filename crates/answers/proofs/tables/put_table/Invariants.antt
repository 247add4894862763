-- The invariant: what was stored are the bytes of the rows passed. Only the checker need believe this file.
use mathlib.Core.Path.{◌≡◌}
use lib.ListN.{get_or}
use lib.Seq.{sets}
use Rattle.network.specs.Mask.{join_below}
use Rattle.differences.specs.Answers.{zero_row}
use Rattle.answers.specs.Tables.{row_bytes}
use Rattle.answers.proofs.tables.put_table.Given as goal

abbrev pub invariant-loop-x : goal.invariant-loop-x
invariant-loop-x l = l.out ≡ sets l.initial.out 0 (join_below l.x (λ k. row_bytes (get_or l.rows k zero_row)))
