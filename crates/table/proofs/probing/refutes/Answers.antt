-- `refutes`: the table tightens with each round of probes. Only the checker need believe this file.
use mathlib.Core.Path.{ap}
use mathlib.Core.Bool.{not}
use Rattle.network.proofs.Booleans.{not_true}
use Rattle.table.proofs.TableLaws.{join, lost_before}
use Rattle.table.proofs.probing.refutes.Goals as goal

pub returns-then-not-tighten : goal.returns-then-not-tighten
returns-then-not-tighten c =
    let said = c.tighten in
    let probed = join c.loop.invariant
    c.probe_each-moved.ensures in
    (join probed said.ensures.0, λ e. lost_before probed (said.ensures.1 (not_true said.result (ap not c.if-not-tighten.true))))
