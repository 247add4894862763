-- `screen_plan`: the plan's fault, then whether every setting has a schedule. Only the checker need believe this file.
use mathlib.Core.Path.{◌≡◌, sym, ap, ◌∙◌}
use native.Mathlib.Omega.{arith}
use Rattle.std.specs.Prelude.{Err}
use Rattle.plan.specs.WellFormed.{WellFormed}
use Rattle.judge.proofs.WellFormedLaws.{fine_exactly}
use Rattle.verdict.specs.Answers.{screen_answer}
use Rattle.verdict.proofs.AnswerLaws.{screen_refused, screen_decided}
use Rattle.verdict.proofs.screen.screen_plan.Goals as goal

pub returns-in_err-judge : goal.returns-in_err-judge
returns-in_err-judge c =
    let r = c.in_err-judge.field-0.0 in
    let same : c.from_residual.result ≡ Err r = grind arith in
    ap screen_answer same ∙ screen_refused c.args.plan r c.in_err-judge.ensures

pub all_schedulable-requires : goal.all_schedulable-requires
all_schedulable-requires c =
    let wf : WellFormed c.args.plan = (fine_exactly c.args.plan).0 (sym c.in_ok-judge.ensures) in
    (wf.head.horizon, wf.head.letters, wf.head.constraints)

pub returns : goal.returns
returns c = screen_decided c.args.plan c.in_ok-judge.ensures c.all_schedulable.result c.all_schedulable.ensures
