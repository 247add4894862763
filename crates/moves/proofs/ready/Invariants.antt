-- `ready`: each turn adds one point below. Only the checker need believe this file.
use mathlib.Core.Bool.{◌&&◌}
use lib.Dec.{leb}
use Rattle.network.specs.Mask.{bit}
use Rattle.network.specs.Network.{slots_in}
use Rattle.plan.proofs.LetterLaws.{MaskFrom}
use Rattle.moves.proofs.ready.Given as goal

abbrev pub invariant-loop-x : goal.invariant-loop-x
invariant-loop-x l = MaskFrom 8 (λ i. bit l.at.left i && leb (slots_in l.soonest i) l.slot) l.x l.m
