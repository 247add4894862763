-- `all_limited`: the limits are as the constraints looked at ask. Only the checker need believe this file.
use mathlib.Core.Path.{refl, sym, ◌∙◌}
use Rattle.network.specs.Mask.{bit}
use Rattle.network.specs.Limits.{all_limited}
use Rattle.constraints.proofs.UsedLaws.{limits_next}
use Rattle.constraints.proofs.limits.all_limited.Goals as goal

pub loop-c-init : goal.loop-c-init
unfolding all_limited
loop-c-init c = refl

pub loop-c-preserved : goal.loop-c-preserved
loop-c-preserved c =
    let a = c.args in
    c.limited-next.ensures
    ∙ rw c.loop-c.invariant (sym (limits_next (bit a.values) a.limits c.used-constraints.result.now c.loop-c.c-index c.loop-c-test.true))
