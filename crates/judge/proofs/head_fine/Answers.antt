-- By computation. Only the checker need believe this file.
use mathlib.Core.Path.{refl}
use Rattle.judge.specs.Judge.{head_fine}
use Rattle.judge.proofs.head_fine.Goals as goal

pub returns : goal.returns
unfolding head_fine
returns c = refl
