-- `all_remain`: a scenario without a setting decides. Only the checker need believe this file.
use Prim.Native.Nat.{◌<◌}
use native.Mathlib.Omega.{arith}
use Rattle.table.specs.Table.{Within}
use Rattle.table.proofs.TableLaws.{within_none, go_on}
use borrow.Author.Rules.{rules}
use Rattle.table.proofs.rounds.all_remain.Goals as goal
use Rattle.table.proofs.rounds.all_remain.Goals.{Else-u-eq0}

further : (c : Else-u-eq0) → Within c.args.v.now.unheard
    c.next_inside-u.result × (c.loop-c.u < c.next_inside-u.result)
further c =
    go_on c.args.v.now.unheard (search rules)
    c.loop-c.u c.loop-c.invariant _
    c.next_inside-u.ensures c.if-u-eq0.false

pub loop-c-init : goal.loop-c-init
loop-c-init c = within_none _

pub loop-c-smaller : goal.loop-c-smaller
loop-c-smaller c = let r = further c in let lt = r.1 in omega arith

pub loop-c-preserved : goal.loop-c-preserved
loop-c-preserved c = (further c).0
