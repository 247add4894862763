-- Short records are refused; else the call is made of the plan that the bytes say. Only the checker need believe this file.
use mathlib.Core.Path.{◌≡◌, ◌∙◌, ap}
use native.Mathlib.Omega.{arith}
use Rattle.answers.specs.Numbers.{numbered}
use Prim.Native.Nat.{◌≤◌}
use lib.ListN.{length}
use Rattle.plan.specs.Answer.{Answer}
use Rattle.plan.specs.Faults.{put_at}
use Rattle.run.specs.declared.History.{History}
use Rattle.records.specs.Records.{history_bytes}
use Rattle.answers.proofs.NumberLaws.{number_judged}
use Rattle.tureenlark.specs.Library.{plan_short, history_short, report_short, report_at}
use Rattle.tureenlark.proofs.LibraryLaws.{short, long, first_short, then_short, number_short, number_long, filled_short, put_long}
use borrow.Author.Rules.{rules}
use Rattle.run.specs.Told.{reported_answer}
use Rattle.tureenlark.proofs.tureenlark_report.Goals as goal

pub returns-then-plan-lt-LENGTH : goal.returns-then-plan-lt-LENGTH
returns-then-plan-lt-LENGTH c =
    let b = c.args.plan.now in
    let t = c.args.tree.now in
    let h = c.args.history.now in
    let m = c.args.mask in
    let a = report_at b t h m in
    let e = first_short (plan_short b) (history_short h) (short 400 b c.if-plan-lt-LENGTH.true) in
    record {
      answer = c.refused.ensures ∙ number_short (report_short b h) a.fault 1 e;
      buffer = filled_short (report_short b h) (history_bytes a.value) h e;
    }

pub returns-then-history-lt-LENGTH : goal.returns-then-history-lt-LENGTH
returns-then-history-lt-LENGTH c =
    let b = c.args.plan.now in
    let t = c.args.tree.now in
    let h = c.args.history.now in
    let m = c.args.mask in
    let a = report_at b t h m in
    let e = then_short (plan_short b) (history_short h) 10 (long 400 b c.if-plan-lt-LENGTH.false) (short 9 h c.if-history-lt-LENGTH.true) in
    record {
      answer = c.refused-then-history-lt-LENGTH.ensures ∙ number_short (report_short b h) a.fault 1 e;
      buffer = filled_short (report_short b h) (history_bytes a.value) h e;
    }

pub returns : goal.returns
returns c =
    let b = c.args.plan.now in
    let t = c.args.tree.now in
    let h = c.args.history.now in
    let m = c.args.mask in
    let a = report_at b t h m in
    let e = then_short (plan_short b) (history_short h) 0 (long 400 b c.if-plan-lt-LENGTH.false) (long 9 h c.if-history-lt-LENGTH.false) in
    let said : reported_answer c.report-reported.result ≡ a =
    c.report-reported.ensures ∙ rw (c.plan_in.ensures, c.history_in-given.ensures) in
    let eight : length c.report-reported.result.history.masks ≡ 8 = search rules in
    let room : length (history_bytes a.value) ≤ length h = rw (← said) (omega arith) in
    record {
      answer = c.number.ensures ∙ number_judged _ ∙ ap (λ (x : Answer History). numbered x.fault 1) said ∙ number_long (report_short b h) a.fault 1 e;
      buffer = c.put_history.ensures ∙ ap (λ (x : Answer History). put_at h 0 (history_bytes x.value)) said
          ∙ put_long (report_short b h) (history_bytes a.value) h e room;
    }
