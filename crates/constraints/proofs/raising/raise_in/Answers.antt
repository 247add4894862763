-- `raise_in`: the slots are as after the turns of the constraints passed. Only the checker need believe this file.
use mathlib.Core.Path.{refl, ◌∙◌, sym}
use Rattle.network.specs.Mask.{bit}
use Rattle.network.specs.Raise.{turns}
use Rattle.constraints.proofs.UsedLaws.{turns_next}
use Rattle.constraints.proofs.raising.raise_in.Goals as goal

pub loop-c-init : goal.loop-c-init
unfolding turns
loop-c-init c = refl

pub loop-c-preserved : goal.loop-c-preserved
loop-c-preserved c =
    let a = c.args in
    c.take_turn.ensures
    ∙ rw c.loop-c.invariant (sym (turns_next a.cap (bit a.values) a.slots.now a.constraints.now c.loop-c.c-index c.loop-c-test.true))
