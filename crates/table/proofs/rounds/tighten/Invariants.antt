-- `tighten`: the table tightens with each round. Only the checker need believe this file.
use Rattle.table.specs.Table.{Tighter}
use Rattle.table.proofs.rounds.tighten.Given as goal

abbrev pub invariant-loop : goal.invariant-loop
invariant-loop l = Tighter l.v l.initial.table l.table
