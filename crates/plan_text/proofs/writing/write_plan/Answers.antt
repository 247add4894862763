-- By the laws of what is answered and left in the buffer. Only the checker need believe this file.
use borrow.Author.Rules.{rules}
use Rattle.plan_text.proofs.WriteLaws.{plan_short_lem, plan_written_lem}
use Rattle.plan_text.proofs.writing.write_plan.Goals as goal

pub returns-then-out-size : goal.returns-then-out-size
returns-then-out-size c =
    let a = c.args in
    let e = plan_short_lem a.plan a.out.now (search rules) (search rules) in
    record { answer = e.0; buffer = e.1 }

pub returns : goal.returns
returns c =
    let a = c.args in
    let e = plan_written_lem a.plan a.out.now (search rules) (search rules) in
    record {
      answer = e.0;
      buffer = rw (c.put_constraints.ensures, c.put_letters.ensures, c.put_head.ensures) e.1;
    }
