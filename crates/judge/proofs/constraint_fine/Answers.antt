-- By the plan's points and letters. Only the checker need believe this file.
use mathlib.Core.Path.{refl}
use Rattle.judge.proofs.constraint_fine.Goals as goal

pub returns : goal.returns
returns c = c.constraint_over.ensures c.args.plan refl refl
