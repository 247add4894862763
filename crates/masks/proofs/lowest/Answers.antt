-- `lowest`: the machine's trailing zeros. Only the checker need believe this file.
use Rattle.masks.proofs.ByteLaws.{trailing_first}
use Rattle.masks.proofs.lowest.Goals as goal

pub returns : goal.returns
returns c = trailing_first 8 c.args.mask
