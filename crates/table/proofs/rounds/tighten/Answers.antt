-- `tighten`: the table tightens with each round. Only the checker need believe this file.
use mathlib.Core.Path.{ap}
use mathlib.Core.Bool.{not}
use Rattle.network.proofs.Booleans.{not_true}
use Rattle.table.proofs.TableLaws.{join, lost_before}
use Rattle.table.proofs.rounds.tighten.Goals as goal

pub returns-then-not-all_remain : goal.returns-then-not-all_remain
returns-then-not-all_remain c =
    let t = join c.loop.invariant
    c.round-now.ensures in
    (t, λ e. lost_before t (c.all_remain.ensures (not_true c.all_remain.result (ap not c.if-not-all_remain.true))))
