-- `all_remain`: a scenario without a setting decides. Only the checker need believe this file.
use Prim.Native.Nat.{◌-◌}
use Rattle.table.specs.Table.{Within}
use Rattle.table.proofs.rounds.all_remain.Given as goal

abbrev pub invariant-loop-c : goal.invariant-loop-c
invariant-loop-c l = Within l.v.unheard l.u

abbrev pub decreases-loop-c : goal.decreases-loop-c
decreases-loop-c l = 256 - l.u
