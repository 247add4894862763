-- `take_turn`: what is called says it, where the label fails and where it holds. Only the checker need believe this file.
use mathlib.Core.Path.{ap}
use mathlib.Core.Bool.{not}
use Rattle.network.specs.Mask.{bit}
use Rattle.network.proofs.Booleans.{denied, granted}
use Rattle.plan.specs.Plan.{constraint_of}
use Rattle.constraints.proofs.RaisingLaws.{no_turn, own_turn}
use Rattle.constraints.proofs.raising.take_turn.Goals as goal

pub returns-then-not-label_holds : goal.returns-then-not-label_holds
returns-then-not-label_holds c =
    let a = c.args in
    no_turn a.cap (bit a.values) a.slots.now (constraint_of a.c) (denied c.label_holds.ensures (ap not c.if-not-label_holds.true))

pub returns : goal.returns
returns c =
    let a = c.args in
    let held = granted c.label_holds.ensures (ap not c.if-not-label_holds.false) in
    rw (← own_turn a.cap (bit a.values) a.slots.now (constraint_of a.c) held)
    (rw (
      ← c.slot_in.ensures,
      ← c.least_from-least.ensures,
      ← c.min-slot.ensures,
    ) c.no_earlier.ensures)
