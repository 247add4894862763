-- `tighten_scenario`: the table tightens with each setting. Only the checker need believe this file.
use Prim.Native.Nat.{◌-◌}
use Rattle.table.specs.Table.{Within, Tighter}
use Rattle.table.proofs.rounds.tighten_scenario.Given as goal

abbrev pub invariant-loop-d : goal.invariant-loop-d
invariant-loop-d l = Within l.v.undecided l.d × Tighter l.v l.initial.table l.table

abbrev pub decreases-loop-d : goal.decreases-loop-d
decreases-loop-d l = 256 - l.d
