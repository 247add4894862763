-- `least_schedule`: the plan's fault, then the mask's, then the verdict. Only the checker need believe this file.
use mathlib.Core.Path.{ap, ◌≡◌, sym, ◌∙◌}
use mathlib.Core.Bool.{not}
use native.Mathlib.Omega.{arith}
use Rattle.std.specs.Prelude.{Err}
use Rattle.network.proofs.Booleans.{denied, granted}
use Rattle.plan.specs.WellFormed.{WellFormed}
use Rattle.plan.specs.Answer.{fine}
use Rattle.judge.proofs.WellFormedLaws.{fine_exactly}
use Rattle.verdict.specs.Answers.{verdict_answer}
use Rattle.verdict.proofs.AnswerLaws.{refused_plan, refused_mask, decided}
use Rattle.verdict.proofs.least_schedule.Goals as goal

pub returns-in_err-judge : goal.returns-in_err-judge
returns-in_err-judge c =
    let a = c.args in
    let r = c.in_err-judge.field-0.0 in
    let same : c.from_residual.result ≡ Err r = grind arith in
    ap verdict_answer same ∙ refused_plan a.plan a.values r c.in_err-judge.ensures

pub returns-then-not-among : goal.returns-then-not-among
returns-then-not-among c =
    let a = c.args in
    refused_mask a.plan a.values c.in_ok-judge.ensures (denied c.among.ensures (ap not c.if-not-among.true))

pub decide-requires : goal.decide-requires
decide-requires c =
    let wf : WellFormed c.args.plan = (fine_exactly c.args.plan).0 (sym c.in_ok-judge.ensures) in
    (wf.head.horizon, wf.head.constraints)

pub returns : goal.returns
returns c =
    let a = c.args in
    ap fine c.decide.ensures
    ∙ decided a.plan a.values c.in_ok-judge.ensures (granted c.among.ensures (ap not c.if-not-among.false))
