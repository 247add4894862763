-- `kept_so_far_by`: what is called says it. Only the checker need believe this file.
use mathlib.Core.Path.{refl, ap, ◌∙◌}
use Rattle.network.specs.Mask.{bit}
use Rattle.network.specs.Network.{slots_in}
use Rattle.network.specs.SoFar.{all_kept_so_far, keeps_so_far}
use Rattle.pruning.proofs.kept_so_far_by.Goals as goal

pub returns : goal.returns
unfolding keeps_so_far
returns c few =
    let a = c.args in
    let known = c.known_of-known in
    c.each_kept_so_far.ensures
    ∙ ap (all_kept_so_far known.result a.at.performed (slots_in a.at.slots) (bit a.at.values)) (c.used.ensures.say few)
    ∙ rw (known.ensures a.plan.now refl refl)
