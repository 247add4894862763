-- `least_slots`: the settings passed have no earlier slots. Only the checker need believe this file.
use Prim.Native.Nat.{◌-◌, ◌<◌}
use Rattle.table.specs.Table.{Within}
use Rattle.table.proofs.TableLaws.{Before, BelowAt}
use Rattle.table.proofs.least_slots.Given as goal

abbrev pub invariant-loop-u : goal.invariant-loop-u
invariant-loop-u l = (l.unknown < 256) × Within l.unknown l.u ×
    (Before (BelowAt l.v l.table l.least) l.unknown l.u)

abbrev pub decreases-loop-u : goal.decreases-loop-u
decreases-loop-u l = 256 - l.u
