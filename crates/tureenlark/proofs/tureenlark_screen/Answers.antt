-- Short records are refused; else the call is made of the plan that the bytes say. Only the checker need believe this file.
use mathlib.Core.Path.{◌∙◌, ap}
use Rattle.records.specs.Records.{plan_in}
use Rattle.network.specs.Mask.{digit}
use Rattle.answers.specs.Numbers.{test_number}
use Rattle.verdict.specs.Verdict.{screened}
use Rattle.answers.proofs.NumberLaws.{number_tested}
use Rattle.tureenlark.specs.Library.{plan_short}
use Rattle.tureenlark.proofs.LibraryLaws.{short, long, number_short, number_long}
use Rattle.tureenlark.proofs.tureenlark_screen.Goals as goal

pub returns-then-plan-lt-LENGTH : goal.returns-then-plan-lt-LENGTH
returns-then-plan-lt-LENGTH c =
    let b = c.args.plan.now in
    let a = screened (plan_in b) in
    c.refused.ensures ∙ number_short (plan_short b) a.fault (digit a.value) (short 400 b c.if-plan-lt-LENGTH.true)

pub returns : goal.returns
returns c =
    let b = c.args.plan.now in
    let a = screened (plan_in b) in
    c.number.ensures ∙ number_tested _ ∙ ap test_number (c.screen_plan.ensures ∙ ap screened c.plan_in.ensures)
    ∙ number_long (plan_short b) a.fault (digit a.value) (long 400 b c.if-plan-lt-LENGTH.false)
