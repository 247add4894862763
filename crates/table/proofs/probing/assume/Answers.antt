-- `assume`: one setting after the other. Only the checker need believe this file.
use Prim.Native.Nat.{◌<◌}
use native.Mathlib.Omega.{arith}
use Rattle.table.specs.Table.{Within}
use Rattle.table.proofs.TableLaws.{within_none, go_on, assume_nothing}
use borrow.Author.Rules.{rules}
use Rattle.table.proofs.probing.assume.Goals as goal
use Rattle.table.proofs.probing.assume.Goals.{Else-d-eq0}

further : (c : Else-d-eq0) → Within c.args.v.now.undecided
    c.next_inside-d.result × (c.loop-table.d < c.next_inside-d.result)
further c =
    go_on c.args.v.now.undecided (search rules)
    c.loop-table.d c.loop-table.invariant.0 _ c.next_inside-d.ensures
    c.if-d-eq0.false

pub loop-table-init : goal.loop-table-init
loop-table-init c = (within_none _, assume_nothing)

pub loop-table-smaller : goal.loop-table-smaller
loop-table-smaller c = let r = further c in let lt = r.1 in omega arith

pub loop-table-preserved : goal.loop-table-preserved
loop-table-preserved c = ((further c).0, search rules)
