-- A short record is refused; else the plan that was read is stored, zeros beside a fault. Only the checker need believe this file.
use mathlib.Core.Path.{◌∙◌, ap}
use native.Mathlib.Omega.{arith}
use Rattle.answers.specs.Numbers.{numbered}
use lib.ListN.{length}
use Prim.Native.Nat.{◌≤◌}
use Rattle.plan.specs.declared.Plan.{Plan}
use Rattle.plan.specs.Answer.{Answer}
use Rattle.plan.specs.Faults.{put_at}
use Rattle.plan_text.specs.ReadPlan.{read_plan}
use Rattle.records.specs.Records.{plan_bytes}
use Rattle.records.proofs.RecordsTheorems.{plan_bytes_lem}
use Rattle.answers.proofs.NumberLaws.{number_read}
use Rattle.tureenlark.specs.Library.{plan_short}
use Rattle.tureenlark.proofs.LibraryLaws.{short, long, number_short, number_long, filled_short, put_long}
use Rattle.tureenlark.proofs.tureenlark_read_plan.Goals as goal

pub returns-then-plan-lt-LENGTH : goal.returns-then-plan-lt-LENGTH
returns-then-plan-lt-LENGTH c =
    let b = c.args.plan.now in
    let a = read_plan c.args.text.now in
    let e = short 400 b c.if-plan-lt-LENGTH.true in
    record {
      answer = c.refused.ensures ∙ number_short (plan_short b) a.fault 1 e;
      buffer = filled_short (plan_short b) (plan_bytes a.value) b e;
    }

pub returns : goal.returns
returns c =
    let b = c.args.plan.now in
    let a = read_plan c.args.text.now in
    let e = long 400 b c.if-plan-lt-LENGTH.false in
    let said = c.read_plan-read.ensures in
    let room : length (plan_bytes a.value) ≤ length b = rw (plan_bytes_lem a.value) (omega arith) in
    record {
      answer = c.number.ensures ∙ number_read _ ∙ ap (λ (x : Answer Plan). numbered x.fault 1) said ∙ number_long (plan_short b) a.fault 1 e;
      buffer = c.put_plan.ensures ∙ ap (λ (p : Plan). put_at b 0 (plan_bytes p)) (c.plan_of.ensures ∙ ap (λ (x : Answer Plan). x.value) said)
          ∙ put_long (plan_short b) (plan_bytes a.value) b e room;
    }
