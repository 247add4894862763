-- `set_to`: the definition, computed. Only the checker need believe this file.
use mathlib.Core.Path.{refl}
use Rattle.table.specs.Table.{set_to}
use Rattle.table.proofs.cells.set_to.Goals as goal

pub returns : goal.returns
unfolding set_to
returns c = refl
