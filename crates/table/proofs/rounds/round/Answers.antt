-- `round`: the table tightens with each scenario. Only the checker need believe this file.
use Prim.Native.Nat.{◌<◌}
use native.Mathlib.Omega.{arith}
use Rattle.table.specs.Table.{Within}
use Rattle.table.proofs.TableLaws.{within_none, go_on, same_table, join}
use borrow.Author.Rules.{rules}
use Rattle.table.proofs.rounds.round.Goals as goal
use Rattle.table.proofs.rounds.round.Goals.{Else-u-eq0}

further : (c : Else-u-eq0) → Within c.args.v.now.unheard
    c.next_inside-u.result × (c.loop-u.u < c.next_inside-u.result)
further c =
    go_on c.args.v.now.unheard (search rules)
    c.loop-u.u c.loop-u.invariant.0 _
    c.next_inside-u.ensures c.if-u-eq0.false

pub loop-u-init : goal.loop-u-init
loop-u-init c = (within_none _, same_table)

pub loop-u-smaller : goal.loop-u-smaller
loop-u-smaller c = let r = further c in let lt = r.1 in omega arith

pub loop-u-preserved : goal.loop-u-preserved
loop-u-preserved c = ((further c).0, join c.loop-u.invariant.1 c.visit-now.ensures)
