-- `least_slots`: the slots climb, and where a round changes nothing they are the least. Only the checker need believe this file.
use Prim.Native.Nat.{◌-◌, ◌*◌}
use Rattle.network.specs.Mask.{bit}
use Rattle.constraints.specs.Used.{constraints_of}
use Rattle.verdict.proofs.TotalLaws.{total}
use Rattle.verdict.proofs.CodeLaws.{ClimbingBy}
use Rattle.verdict.proofs.least_slots.Given as goal

abbrev pub invariant-loop-slots : goal.invariant-loop-slots
invariant-loop-slots l = ClimbingBy l.cap (constraints_of l.constraints) (bit l.values) l.slots

abbrev pub decreases-loop-slots : goal.decreases-loop-slots
decreases-loop-slots l = 8 * l.cap - total l.slots
