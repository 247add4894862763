-- `raise_in`: the slots are as after the turns of the constraints passed. Only the checker need believe this file.
use mathlib.Core.Path.{◌≡◌}
use lib.ListN.{take}
use Rattle.network.specs.Mask.{bit}
use Rattle.network.specs.Raise.{turns}
use Rattle.constraints.specs.Used.{constraints_of}
use Rattle.constraints.proofs.raising.raise_in.Given as goal

abbrev pub invariant-loop-c : goal.invariant-loop-c
invariant-loop-c l = l.slots ≡ turns l.cap (bit l.values) l.initial.slots (constraints_of (take l.c-index l.constraints))
