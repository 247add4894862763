-- `difference_table`: the plan's fault, then the mask's, then the table. Only the checker need believe this file.
use mathlib.Core.Path.{ap, ◌≡◌, sym, ◌∙◌}
use borrow.Author.Rules.{rules}
use Rattle.std.specs.Prelude.{Err}
use Rattle.plan.specs.Answer.{fine}
use Rattle.plan.specs.WellFormed.{WellFormed}
use Rattle.judge.proofs.WellFormedLaws.{fine_exactly}
use Rattle.differences.specs.Answers.{table_answer}
use Rattle.differences.proofs.AnswerLaws.{refused_plan, refused_mask, decided}
use Rattle.differences.proofs.difference_table.Goals as goal

pub returns-in_err-judge : goal.returns-in_err-judge
returns-in_err-judge c =
    let a = c.args in
    let r = c.in_err-judge.field-0.0 in
    let refused : c.from_residual.result ≡ Err r = search rules in
    ap table_answer refused ∙ refused_plan a.plan a.values r c.in_err-judge.ensures

pub returns-then-not-among : goal.returns-then-not-among
returns-then-not-among c =
    let a = c.args in
    refused_mask a.plan a.values c.in_ok-judge.ensures (sym c.if-not-among.ensures)

pub tabulate-requires : goal.tabulate-requires
tabulate-requires c =
    let wf : WellFormed c.args.plan = (fine_exactly c.args.plan).0 (sym c.in_ok-judge.ensures) in
    (wf.head.horizon, wf.head.points, wf.head.constraints)

pub returns : goal.returns
returns c =
    let a = c.args in
    ap fine c.tabulate.ensures ∙ decided a.plan a.values c.in_ok-judge.ensures (sym c.if-not-among.ensures)
