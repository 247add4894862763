-- By the laws of the walk: outcomes are passed until the one reported comes. Only the checker need believe this file.
use Rattle.run.proofs.WalkLaws.{Passed}
use Rattle.run.proofs.walk.nodes_before.Given as goal

abbrev pub invariant-loop-k : goal.invariant-loop-k
invariant-loop-k l = Passed l.plan l.at l.nodes l.v l.mask l.k l.count
