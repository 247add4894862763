-- `probe_each`: the table tightens with each setting. Only the checker need believe this file.
use Prim.Native.Nat.{◌-◌, ◌<◌}
use Rattle.table.specs.Table.{Within, Tighter}
use Rattle.table.proofs.probing.probe_each.Given as goal

abbrev pub invariant-loop-u : goal.invariant-loop-u
invariant-loop-u l = (l.unknown < 256) × Within l.unknown l.u × Tighter l.v l.initial.table l.table

abbrev pub decreases-loop-u : goal.decreases-loop-u
decreases-loop-u l = 256 - l.u
