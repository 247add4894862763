-- Short records are refused; else the call is made of the plan that the bytes say. Only the checker need believe this file.
use mathlib.Core.Path.{◌∙◌, ap}
use Prim.Native.Nat.{ℕ}
use Rattle.answers.specs.Numbers.{numbered}
use Rattle.plan.specs.declared.Plan.{Plan}
use Rattle.records.specs.Records.{plan_in}
use Rattle.checker.specs.Checker.{check_fault}
use Rattle.answers.proofs.NumberLaws.{number_judged}
use Rattle.tureenlark.specs.Library.{plan_short}
use Rattle.tureenlark.proofs.LibraryLaws.{short, long, number_short, number_long}
use Rattle.tureenlark.proofs.tureenlark_check_tree.Goals as goal

pub returns-then-plan-lt-LENGTH : goal.returns-then-plan-lt-LENGTH
returns-then-plan-lt-LENGTH c =
    let b = c.args.plan.now in
    let t = c.args.tree.now in
    c.refused.ensures ∙ number_short (plan_short b) (check_fault (plan_in b) t) 1 (short 400 b c.if-plan-lt-LENGTH.true)

pub returns : goal.returns
returns c =
    let b = c.args.plan.now in
    let t = c.args.tree.now in
    c.number.ensures ∙ number_judged _ ∙ ap (λ (n : ℕ). numbered n 1) (c.check_tree.ensures ∙ ap (λ (p : Plan). check_fault p t) c.plan_in.ensures)
    ∙ number_long (plan_short b) (check_fault (plan_in b) t) 1 (long 400 b c.if-plan-lt-LENGTH.false)
