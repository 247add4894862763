-- `settle`: the table tightens at each step, and the first step that says lost decides. Only the checker need believe this file.
use mathlib.Core.Path.{ap}
use mathlib.Core.Bool.{not}
use Rattle.network.proofs.Booleans.{not_true}
use Rattle.table.proofs.TableLaws.{join, lost_before}
use Rattle.table.proofs.settle.Goals as goal

pub returns-then-not-all_remain : goal.returns-then-not-all_remain
returns-then-not-all_remain c =
    let filled = c.first_rows.ensures in
    let said = c.all_remain in
    (filled, λ e. lost_before filled (said.ensures (not_true said.result (ap not c.if-not-all_remain.true))))

pub returns : goal.returns
returns c =
    let tight = join c.first_rows.ensures c.tighten.ensures.0 in
    (join tight c.refutes.ensures.0, λ e. lost_before tight (c.refutes.ensures.1 e))
