-- `limited`: what is called says it, where the label fails and where it holds. Only the checker need believe this file.
use mathlib.Core.Path.{ap, ◌∙◌}
use mathlib.Core.Bool.{not}
use Rattle.network.specs.Mask.{bit}
use Rattle.network.specs.Limits.{lowered}
use Rattle.network.proofs.Booleans.{denied, granted}
use Rattle.plan.specs.Plan.{constraint_of}
use Rattle.constraints.proofs.LimitingLaws.{not_limited, own_limit}
use Rattle.constraints.proofs.limits.limited.Goals as goal

pub returns-then-not-label_holds : goal.returns-then-not-label_holds
returns-then-not-label_holds c =
    let a = c.args in
    not_limited (bit a.values) a.limits (constraint_of a.c) (denied c.label_holds.ensures (ap not c.if-not-label_holds.true))

pub returns : goal.returns
returns c =
    let a = c.args in
    let held = granted c.label_holds.ensures (ap not c.if-not-label_holds.false) in
    c.lowered.ensures
    ∙ ap (lowered a.limits a.c.from a.c.to) c.biased.ensures
    ∙ own_limit (bit a.values) a.limits (constraint_of a.c) held
