-- `move_lost`: an outcome after which the state is lost decides. Only the checker need believe this file.
use Rattle.pruning.proofs.move_lost.Given as goal

-- nothing is said of the outcomes passed
abbrev pub invariant-loop-k : goal.invariant-loop-k
invariant-loop-k l = Unit {0}
