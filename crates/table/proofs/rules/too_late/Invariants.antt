-- `too_late`: a point that stands later than it may decides. Only the checker need believe this file.
use Rattle.table.proofs.rules.too_late.Given as goal

abbrev pub invariant-loop-x : goal.invariant-loop-x
invariant-loop-x l = Unit {0}
