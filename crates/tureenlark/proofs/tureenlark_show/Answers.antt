-- Short records are refused; else the call is made of the plan that the bytes say. Only the checker need believe this file.
use mathlib.Core.Path.{◌≡◌, ◌∙◌, ap}
use native.Mathlib.Omega.{arith}
use Rattle.plan.specs.Faults.{put_at}
use Rattle.run.specs.Told.{Told, shown_told}
use Rattle.answers.specs.Numbers.{told_number}
use Rattle.answers.specs.Steps.{told_bytes}
use Rattle.tureenlark.specs.Library.{plan_short, history_short, short_fault, show_short, told_at}
use Rattle.tureenlark.proofs.LibraryLaws.{short, long, first_short, then_short, told_short, told_long, filled_short, put_long, few_bytes}
use Rattle.tureenlark.proofs.tureenlark_show.Goals as goal

pub returns-then-plan-lt-LENGTH : goal.returns-then-plan-lt-LENGTH
returns-then-plan-lt-LENGTH c =
    let b = c.args.plan.now in
    let t = c.args.tree.now in
    let h = c.args.history.now in
    let i = c.args.instruction.now in
    let told = told_at b t h in
    let f = show_short b h i in
    let e = first_short (plan_short b) _ (short 400 b c.if-plan-lt-LENGTH.true) in
    record {
      answer = c.refused.ensures ∙ told_short f (told_number told) e;
      buffer = filled_short f (told_bytes told) i e;
    }

pub returns-then-history-lt-LENGTH : goal.returns-then-history-lt-LENGTH
returns-then-history-lt-LENGTH c =
    let b = c.args.plan.now in
    let t = c.args.tree.now in
    let h = c.args.history.now in
    let i = c.args.instruction.now in
    let told = told_at b t h in
    let f = show_short b h i in
    let e = then_short (plan_short b) _ 10 (long 400 b c.if-plan-lt-LENGTH.false) (first_short (history_short h) (short_fault 3 i) (short 9 h c.if-history-lt-LENGTH.true)) in
    record {
      answer = c.refused-then-history-lt-LENGTH.ensures ∙ told_short f (told_number told) e;
      buffer = filled_short f (told_bytes told) i e;
    }

pub returns-then-instruction-lt-INSTRUCTION : goal.returns-then-instruction-lt-INSTRUCTION
returns-then-instruction-lt-INSTRUCTION c =
    let b = c.args.plan.now in
    let t = c.args.tree.now in
    let h = c.args.history.now in
    let i = c.args.instruction.now in
    let told = told_at b t h in
    let f = show_short b h i in
    let e = then_short (plan_short b) _ 10 (long 400 b c.if-plan-lt-LENGTH.false)
    (then_short (history_short h) (short_fault 3 i) 10 (long 9 h c.if-history-lt-LENGTH.false) (short 3 i c.if-instruction-lt-INSTRUCTION.true)) in
    record {
      answer = c.refused-then-instruction-lt-INSTRUCTION.ensures ∙ told_short f (told_number told) e;
      buffer = filled_short f (told_bytes told) i e;
    }

pub returns : goal.returns
returns c =
    let b = c.args.plan.now in
    let t = c.args.tree.now in
    let h = c.args.history.now in
    let i = c.args.instruction.now in
    let told = told_at b t h in
    let f = show_short b h i in
    let e = then_short (plan_short b) _ 0 (long 400 b c.if-plan-lt-LENGTH.false)
    (then_short (history_short h) (short_fault 3 i) 0 (long 9 h c.if-history-lt-LENGTH.false) (long 3 i c.if-instruction-lt-INSTRUCTION.false)) in
    let said : shown_told c.show-shown.result ≡ told =
    c.show-shown.ensures ∙ rw (c.plan_in.ensures, c.history_in.ensures) in
    let few = few_bytes told in
    record {
      answer = c.shown.ensures ∙ ap told_number said ∙ told_long f (told_number told) e;
      buffer = c.put_told.ensures ∙ ap (λ (x : Told). put_at i 0 (told_bytes x)) said ∙ put_long f (told_bytes told) i e (omega arith);
    }
