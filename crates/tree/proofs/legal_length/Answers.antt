-- By computation. Only the checker need believe this file.
use mathlib.Core.Path.{refl}
use Rattle.tree.specs.Nodes.{legal_length}
use Rattle.tree.proofs.legal_length.Goals as goal

pub returns : goal.returns
unfolding legal_length
returns c = refl
