-- `answer_to`: the first 1,026 bytes are read, and what that says is printed. Only the checker need believe this file.
use mathlib.Core.Path.{◌≡◌, ap, ◌∙◌}
use lib.ListN.{take}
use Rattle.plan_text.specs.ReadPlan.{read_plan}
use Rattle.plan_text.specs.PlanRead.{plan_read_answer}
use Rattle.answer_text.specs.AnswerText.{plan_in}
use Rattle.answer_text.specs.Holding.{holding}
use Rattle.answer_text.proofs.CodeLaws.{part_judged, text_refused, text_read}
use Rattle.answer_text.proofs.answer_to.Goals as goal
use Rattle.answer_text.proofs.answer_to.Goals.{After-read_plan}

said : (c : After-read_plan) → plan_read_answer c.read_plan.result ≡ plan_in c.args.input.now
said c =
    let s = c.args.input.now in
    let part : take c.min-judged.result s ≡ take 1026 s = rw (c.min-judged.ensures) (part_judged s) in
    c.read_plan.ensures ∙ ap read_plan part

pub returns-in-Err : goal.returns-in-Err
returns-in-Err c =
    c.refusal_text.ensures
    ∙ ap holding (text_refused _ c.read_plan.result (said (goal.at.returns-in-Err c).After-read_plan) _ c.in-Err.is)

pub returns-in-Ok : goal.returns-in-Ok
returns-in-Ok c =
    c.plan_answer.ensures
    ∙ ap holding (text_read _ c.read_plan.result (said (goal.at.returns-in-Ok c).After-read_plan) _ c.in-Ok.is)
