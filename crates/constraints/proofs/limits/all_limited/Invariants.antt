-- `all_limited`: the limits are as the constraints looked at ask. Only the checker need believe this file.
use mathlib.Core.Path.{◌≡◌}
use lib.ListN.{take}
use Rattle.network.specs.Mask.{bit}
use Rattle.network.specs.Limits.{all_limited}
use Rattle.constraints.specs.Used.{constraints_of}
use Rattle.constraints.proofs.limits.all_limited.Given as goal

abbrev pub invariant-loop-c : goal.invariant-loop-c
invariant-loop-c l = l.so_far ≡ all_limited (bit l.values) l.initial.so_far (constraints_of (take l.c-index l.constraints))
