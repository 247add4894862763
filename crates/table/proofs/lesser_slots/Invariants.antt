-- `lesser_slots`: the slots passed are the lesser of the two. Only the checker need believe this file.
use mathlib.Core.Path.{◌≡◌}
use Prim.Native.Nat.{◌≤◌}
use lib.ListN.{length}
use Rattle.table.proofs.TableLaws.{Lesser}
use Rattle.table.proofs.lesser_slots.Given as goal

abbrev pub invariant-loop-x : goal.invariant-loop-x
invariant-loop-x l = (l.x ≤ 8) × (length l.out ≡ 8) × Lesser l.a l.b l.out l.x
