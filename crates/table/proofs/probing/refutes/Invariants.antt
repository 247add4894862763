-- `refutes`: the table tightens with each round of probes. Only the checker need believe this file.
use Rattle.table.specs.Table.{Tighter}
use Rattle.table.proofs.probing.refutes.Given as goal

abbrev pub invariant-loop : goal.invariant-loop
invariant-loop l = Tighter l.v l.initial.table l.table
