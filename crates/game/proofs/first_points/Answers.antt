-- `first_points`: all eight, or one less than a power of 2. Only the checker need believe this file.
use mathlib.Core.Path.{sym}
use native.Mathlib.Omega.{arith}
use Rattle.game.proofs.CodeLaws.{all_points, first_points}
use Rattle.game.proofs.first_points.Goals as goal

pub returns-then-n-ge8 : goal.returns-then-n-ge8
returns-then-n-ge8 c = sym (all_points c.args.n (omega arith))

pub returns : goal.returns
returns c = first_points c.args.n (omega arith)
