-- `tighten_scenario`: the table tightens with each setting. Only the checker need believe this file.
use Prim.Native.Nat.{◌<◌}
use native.Mathlib.Omega.{arith}
use Rattle.table.specs.Table.{Within}
use Rattle.table.proofs.TableLaws.{within_none, go_on, same_table, join}
use borrow.Author.Rules.{rules}
use Rattle.table.proofs.rounds.tighten_scenario.Goals as goal
use Rattle.table.proofs.rounds.tighten_scenario.Goals.{Else-d-eq0}

further : (c : Else-d-eq0) → Within c.args.v.now.undecided
    c.next_inside-d.result × (c.loop-d.d < c.next_inside-d.result)
further c =
    go_on c.args.v.now.undecided
    (search rules) c.loop-d.d
    c.loop-d.invariant.0 _ c.next_inside-d.ensures c.if-d-eq0.false

pub loop-d-init : goal.loop-d-init
loop-d-init c = (within_none _, same_table)

pub loop-d-smaller : goal.loop-d-smaller
loop-d-smaller c = let r = further c in let lt = r.1 in omega arith

pub loop-d-preserved : goal.loop-d-preserved
loop-d-preserved c = ((further c).0, join c.loop-d.invariant.1 c.tighten_setting-any.ensures)
