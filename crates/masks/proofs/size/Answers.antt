-- `size`: the machine's count of ones. Only the checker need believe this file.
use native.Mathlib.Omega.{arith}
use Rattle.network.proofs.MachineLaws.{ones_count}
use Rattle.masks.proofs.size.Goals as goal

pub returns : goal.returns
returns c = ones_count 8 c.args.mask (omega arith)
