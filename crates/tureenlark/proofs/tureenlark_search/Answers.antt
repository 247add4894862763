-- Short records are refused; else the call is made of the plan that the bytes say. Only the checker need believe this file.
use mathlib.Core.Path.{◌∙◌, ap}
use Rattle.plan.specs.declared.Plan.{Plan}
use Rattle.records.specs.Records.{plan_in}
use Rattle.answers.specs.Numbers.{answer_number}
use Rattle.search.specs.Search.{search_answer, search_leaves}
use Rattle.answers.proofs.NumberLaws.{number_counted}
use Rattle.tureenlark.specs.Library.{plan_short}
use Rattle.tureenlark.proofs.LibraryLaws.{short, long, number_short, number_long, left_short, left_long}
use Rattle.tureenlark.proofs.tureenlark_search.Goals as goal

pub returns-then-plan-lt-LENGTH : goal.returns-then-plan-lt-LENGTH
returns-then-plan-lt-LENGTH c =
    let b = c.args.plan.now in
    let t = c.args.tree.now in
    let e = short 400 b c.if-plan-lt-LENGTH.true in
    record {
      answer = c.refused.ensures ∙ number_short (plan_short b) (search_answer (plan_in b) t).fault (search_answer (plan_in b) t).value e;
      buffer = left_short (plan_short b) (search_leaves (plan_in b) t) t e;
    }

pub returns : goal.returns
returns c =
    let b = c.args.plan.now in
    let t = c.args.tree.now in
    let e = long 400 b c.if-plan-lt-LENGTH.false in
    let is = c.plan_in.ensures in
    let said = c.search.ensures in
    record {
      answer = c.number.ensures ∙ number_counted _ ∙ ap answer_number (said.answer ∙ ap (λ (p : Plan). search_answer p t) is)
          ∙ number_long (plan_short b) (search_answer (plan_in b) t).fault (search_answer (plan_in b) t).value e;
      buffer = said.buffer ∙ ap (λ (p : Plan). search_leaves p t) is ∙ left_long (plan_short b) (search_leaves (plan_in b) t) t e;
    }
