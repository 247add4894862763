-- `flip_slot`: while partners are looked for, the least slot found is sound or some partner is still to come. Only the checker need believe this file.
use Prim.Native.Nat.{◌-◌, ◌<◌}
use Rattle.table.specs.Table.{Within}
use Rattle.table.specs.Table as t
use Rattle.table.proofs.TableLaws.{Seeking}
use Rattle.table.proofs.rules.flip_slot.Given as goal

abbrev pub invariant-loop-least : goal.invariant-loop-least
invariant-loop-least l =
    (t.free l.fn.v l.x < 256) × Within (t.free l.fn.v l.x) l.d
    × Seeking l.fn.v l.table l.fn.s.letters l.q l.x l.least l.d

abbrev pub decreases-loop-least : goal.decreases-loop-least
decreases-loop-least l = 256 - l.d
