-- `from_slot`: the slots passed have no point ready. Only the checker need believe this file.
use Rattle.moves.proofs.StepLaws.{Idle}
use Rattle.moves.proofs.from_slot.Given as goal

abbrev pub invariant-loop-t : goal.invariant-loop-t
invariant-loop-t l = Idle l.at l.soonest l.slot l.t
