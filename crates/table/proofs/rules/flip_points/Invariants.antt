-- `flip_points`: the table tightens with each. Only the checker need believe this file.
use Rattle.table.specs.Table.{Tighter}
use Rattle.table.proofs.rules.flip_points.Given as goal

abbrev pub invariant-loop-x : goal.invariant-loop-x
invariant-loop-x l = Tighter l.v l.initial.table l.table
