-- `slots_after`: the slots passed are the new ones. Only the checker need believe this file.
use mathlib.Core.Bool.{cond}
use lib.ListN.{get_or}
use Rattle.network.specs.Mask.{bit}
use Rattle.game.proofs.CodeLaws.{Filled}
use Rattle.game.proofs.slots_after.Given as goal

abbrev pub invariant-loop-x : goal.invariant-loop-x
invariant-loop-x l = Filled 8 (λ i. cond (bit l.points i) l.slot (get_or l.initial.out i 0)) l.initial.out l.x l.out
