-- `legal`: what is called says it. Only the checker need believe this file.
use mathlib.Core.Path.{refl}
use Rattle.game.specs.Position.{is_legal}
use Rattle.game.proofs.legal.Goals as goal

pub returns : goal.returns
unfolding is_legal
returns c = rw (c.subset-2.ensures, c.settled.ensures, c.subset.ensures) refl
