-- `heard`: the plan's letters of that kind. Only the checker need believe this file.
use mathlib.Core.Path.{refl}
use Rattle.plan.proofs.letters.heard.Goals as goal

pub returns : goal.returns
returns c = c.disclosed_of_kind.ensures c.args.plan refl refl
