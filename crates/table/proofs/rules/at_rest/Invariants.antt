-- `at_rest`: each round of the raise moves slots that are no later than a win to such slots. Only the checker need believe this file.
use Rattle.table.specs.Table.{Moves}
use Rattle.table.proofs.rules.at_rest.Given as goal

abbrev pub invariant-loop : goal.invariant-loop
invariant-loop l = Moves l.v l.fn.s.letters l.initial.moved l.moved
