-- `biased`: by the law that adds half of the range. Only the checker need believe this file.
use native.Mathlib.Omega.{arith}
use Rattle.constraints.proofs.LimitingLaws.{biased_is}
use Rattle.constraints.proofs.limits.biased.Goals as goal

pub returns : goal.returns
returns c = biased_is c.args.bound (omega arith)
