-- `flip_conditions`: the table tightens with each. Only the checker need believe this file.
use Rattle.table.specs.Table.{Tighter}
use Rattle.table.proofs.rules.flip_conditions.Given as goal

abbrev pub invariant-loop-q : goal.invariant-loop-q
invariant-loop-q l = Tighter l.v l.initial.table l.table
