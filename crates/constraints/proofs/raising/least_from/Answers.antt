-- `least_from`: by the law that adds half of the range. Only the checker need believe this file.
use mathlib.Core.Path.{sym, ◌∙◌}
use native.Mathlib.Omega.{arith}
use Rattle.constraints.proofs.RaisingLaws.{least_is}
use Rattle.constraints.proofs.raising.least_from.Goals as goal

pub returns : goal.returns
returns c =
    let a = c.args in
    c.saturating_sub.ensures ∙ sym (least_is a.y a.bound (omega arith))
