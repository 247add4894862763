-- `own`: letter by letter. Only the checker need believe this file.
use Rattle.pruning.proofs.OwnLaws.{Gathered}
use Rattle.pruning.proofs.view.own.Given as goal

abbrev pub invariant-loop-l : goal.invariant-loop-l
invariant-loop-l l = Gathered l.entries l.out l.l
