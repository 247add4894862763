-- `all_kept_so_far`: the constraints used are all that can be broken. Only the checker need believe this file.
use mathlib.Core.Path.{ap, ◌∙◌}
use mathlib.Core.List.{List}
use Rattle.network.specs.Mask.{bit}
use Rattle.network.specs.Network.{slots_in}
use Rattle.network.specs.SoFar.{all_kept_so_far}
use Rattle.plan.specs.declared.Constraint.{Constraint}
use Rattle.constraints.specs.Used.{constraints_of}
use Rattle.constraints.proofs.UsedLaws.{used_kept}
use Rattle.constraints.proofs.all_kept_so_far.Goals as goal

pub returns : goal.returns
returns c =
    let a = c.args in
    c.each_kept_so_far.ensures
    ∙ ap (λ (cs : List Constraint). all_kept_so_far a.known a.performed (slots_in a.slots) (bit a.values) (constraints_of cs)) c.used.ensures.taken
    ∙ used_kept a.known a.performed (slots_in a.slots) (bit a.values) a.plan
