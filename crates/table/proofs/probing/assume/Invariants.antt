-- `assume`: one setting after the other. Only the checker need believe this file.
use Prim.Native.Nat.{◌-◌}
use Rattle.table.specs.Table.{Within, Assuming}
use Rattle.table.proofs.probing.assume.Given as goal

abbrev pub invariant-loop-table : goal.invariant-loop-table
invariant-loop-table l = Within l.v.undecided l.d × (Assuming l.v l.s.letters l.initial.table l.table)

abbrev pub decreases-loop-table : goal.decreases-loop-table
decreases-loop-table l = 256 - l.d
