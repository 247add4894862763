-- `decide`: the least slots, and whether they are within the horizon. Only the checker need believe this file.
use mathlib.Core.Path.{◌≡◌, sym, ap}
use mathlib.Core.Bool.{not}
use Prim.Native.Nat.{◌+◌}
use Rattle.network.specs.Mask.{bit}
use Rattle.network.proofs.Booleans.{denied, granted}
use Rattle.plan.specs.Plan.{network_of}
use Rattle.verdict.specs.Verdict.{least_slots}
use Rattle.verdict.proofs.CodeLaws.{scheduled, not_scheduled}
use Rattle.verdict.proofs.decide.Goals as goal
use Rattle.verdict.proofs.decide.Goals.{After-least_slots-slots}

-- the constraints used are the plan's, so that the slots are the plan's
least : (c : After-least_slots-slots) → let a = c.args in
    c.least_slots-slots.result ≡ least_slots (a.plan.now.horizon + 1) (network_of a.plan.now) (bit a.values)
least c = c.least_slots-slots.ensures (network_of c.args.plan.now) (sym (c.used.ensures.say c.requires.1))

pub returns-then-not-within_horizon : goal.returns-then-not-within_horizon
returns-then-not-within_horizon c =
    let a = c.args in
    not_scheduled (network_of a.plan.now) (bit a.values) c.least_slots-slots.result
    (least (goal.at.returns-then-not-within_horizon c).After-least_slots-slots)
    (denied c.within_horizon.ensures (ap not c.if-not-within_horizon.true))

pub returns : goal.returns
returns c =
    let a = c.args in
    scheduled (network_of a.plan.now) (bit a.values) c.least_slots-slots.result (least (goal.at.returns c).After-least_slots-slots)
    (granted c.within_horizon.ensures (ap not c.if-not-within_horizon.false))
