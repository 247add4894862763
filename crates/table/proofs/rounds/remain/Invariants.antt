-- `remain`: while none is found, those passed are struck. Only the checker need believe this file.
use mathlib.Core.Path.{◌≡◌}
use Prim.Native.Nat.{◌-◌}
use Rattle.table.specs.Table.{Within, set_to, entry}
use Rattle.table.proofs.TableLaws.{Before}
use Rattle.table.proofs.rounds.remain.Given as goal

abbrev pub invariant-loop-c : goal.invariant-loop-c
invariant-loop-c l = Within l.v.undecided l.d ×
    (l.count ≡ 0 → Before (λ e. entry l.table (set_to l.c.letters l.v.undecided e) 0 ≡ 255) l.v.undecided l.d)

abbrev pub decreases-loop-c : goal.decreases-loop-c
decreases-loop-c l = 256 - l.d
