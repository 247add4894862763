-- By cases of the room; the three parts stand one behind the other. Only the checker need believe this file.
use native.Mathlib.Omega.{arith}
use Rattle.records.specs.Records.{plan_bytes}
use Rattle.records.proofs.StoreLaws.{plan_length_lem, no_room, plan_put}
use borrow.Author.Rules.{rules}
use Rattle.records.proofs.plan_record.put_plan.Goals as goal

pub returns-then-out-lt-LENGTH : goal.returns-then-out-lt-LENGTH
returns-then-out-lt-LENGTH c =
    let a = c.args in
    let long = plan_length_lem a.p in
    no_room a.out.now 0 (plan_bytes a.p) (omega arith)

pub returns : goal.returns
returns c =
    let a = c.args in
    plan_put a.out.now a.p (search rules) c.put_bytes.ensures c.put_letters.ensures
    c.put_constraints.ensures
