-- `first_rows`: one setting after the other. Only the checker need believe this file.
use Prim.Native.Nat.{◌<◌}
use native.Mathlib.Omega.{arith}
use lib.Bits.{or_lt}
use Rattle.table.specs.Table.{Within, unknown}
use Rattle.table.proofs.TableLaws.{within_none, go_on, same_table}
use borrow.Author.Rules.{rules}
use Rattle.table.proofs.first_rows.Goals as goal
use Rattle.table.proofs.first_rows.Goals.{Else-u-eq0}

further : (c : Else-u-eq0) → Within (unknown c.args.v.now)
    c.next_inside-u.result × (c.loop-u.u < c.next_inside-u.result)
further c =
    go_on (unknown c.args.v.now)
    c.loop-u.invariant.0 c.loop-u.u
    c.loop-u.invariant.1 _ c.next_inside-u.ensures c.if-u-eq0.false

pub loop-u-init : goal.loop-u-init
loop-u-init c = (or_lt 8 c.args.v.now.unheard c.args.v.now.undecided (search rules) (search rules), within_none _, same_table)

pub loop-u-smaller : goal.loop-u-smaller
loop-u-smaller c = let r = further c in let lt = r.1 in omega arith

pub loop-u-preserved : goal.loop-u-preserved
loop-u-preserved c = (c.loop-u.invariant.0, (further c).0, search rules)
