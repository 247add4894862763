-- The invariant: what was stored are the bytes of the entries passed. Only the checker need believe this file.
use mathlib.Core.Path.{◌≡◌}
use lib.ListN.{get_or}
use lib.Seq.{sets}
use Rattle.network.specs.Mask.{join_below}
use Rattle.answers.specs.Tables.{entry_bytes}
use Rattle.answers.proofs.tables.put_row.Given as goal

abbrev pub invariant-loop-y : goal.invariant-loop-y
invariant-loop-y l = l.out ≡ sets l.initial.out l.at (join_below l.y (λ k. entry_bytes (get_or l.row.to k 0)))
