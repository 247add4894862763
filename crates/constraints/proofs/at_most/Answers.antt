-- `at_most`: one law for each sign of the bound. Only the checker need believe this file.
use native.Mathlib.Omega.{arith}
use Rattle.constraints.proofs.ConstraintLaws.{at_most_pos, at_most_neg}
use Rattle.constraints.proofs.at_most.Goals as goal

pub returns-then-d-lt-HALF_RANGE : goal.returns-then-d-lt-HALF_RANGE
returns-then-d-lt-HALF_RANGE c = at_most_pos c.args.x c.args.y c.args.bound (omega arith)

pub returns : goal.returns
returns c = at_most_neg c.args.x c.args.y c.args.bound (omega arith) (omega arith)
