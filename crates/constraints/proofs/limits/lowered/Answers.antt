-- `lowered`: one row, or past the table. Only the checker need believe this file.
use mathlib.Core.Path.{◌≡◌, ap}
use native.Mathlib.Omega.{arith}
use lib.ListN.{length, set}
use borrow.Author.Rules.{rules}
use Rattle.network.specs.Limits.{lowered}
use Rattle.constraints.proofs.LimitingLaws.{row_past}
use Rattle.constraints.proofs.limits.lowered.Goals as goal

pub returns-then-x-ge8 : goal.returns-then-x-ge8
returns-then-x-ge8 c =
    let long : length c.args.limits ≡ 8 = search rules in
    row_past c.args.limits c.args.x c.args.y c.args.v (omega arith)

pub returns : goal.returns
unfolding lowered
returns c = ap (set c.args.limits c.args.x) c.lowered_in-row.ensures
