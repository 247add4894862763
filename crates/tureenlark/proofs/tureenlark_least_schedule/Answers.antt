-- Short records are refused, and eight zeros put where only the plan is short; else the call is made of the plan that the bytes say. Only the
-- checker need believe this file.
use mathlib.Core.Path.{◌≡◌, ◌∙◌, ap}
use native.Mathlib.Omega.{arith}
use Prim.Native.Nat.{◌≤◌}
use lib.ListN.{length}
use Rattle.network.specs.Mask.{digit}
use Rattle.plan.specs.declared.Plan.{Plan}
use Rattle.plan.specs.Answer.{Answer}
use Rattle.plan.specs.Faults.{put_at}
use Rattle.verdict.specs.Verdict.{least_schedule}
use Rattle.verdict.specs.Answers.{none, Fixed, verdict_answer}
use Rattle.records.specs.Records.{plan_in}
use Rattle.answers.specs.Numbers.{fixed_number}
use Rattle.answers.proofs.NumberLaws.{number_fixed}
use Rattle.tureenlark.specs.Library.{plan_short, short_fault, schedule_short, slots_for}
use Rattle.tureenlark.proofs.LibraryLaws.{short, long, first_short, then_short, number_short, number_long, left_short, left_long, filled_short, put_long}
use borrow.Author.Rules.{rules}
use Rattle.tureenlark.proofs.tureenlark_least_schedule.Goals as goal

pub returns-then-schedule-lt-SCHEDULE : goal.returns-then-schedule-lt-SCHEDULE
returns-then-schedule-lt-SCHEDULE c =
    let b = c.args.plan.now in
    let s = c.args.schedule.now in
    let m = c.args.values in
    let a = least_schedule (plan_in b) m in
    let few = short 8 s c.if-schedule-lt-SCHEDULE.true in
    record {
      answer = c.refused.ensures ∙ number_short (schedule_short b s) a.fault (digit a.value.scheduled) (first_short (short_fault 8 s) (plan_short b) few);
      buffer = filled_short (short_fault 8 s) (slots_for b m) s few;
    }

pub returns-then-plan-lt-LENGTH : goal.returns-then-plan-lt-LENGTH
returns-then-plan-lt-LENGTH c =
    let b = c.args.plan.now in
    let s = c.args.schedule.now in
    let m = c.args.values in
    let a = least_schedule (plan_in b) m in
    let there = long 8 s c.if-schedule-lt-SCHEDULE.false in
    let few = short 400 b c.if-plan-lt-LENGTH.true in
    let zeros : none.slots ≡ slots_for b m = left_short (plan_short b) a.value.slots none.slots few in
    let room : length (slots_for b m) ≤ length s = rw (← zeros) c.if-schedule-lt-SCHEDULE.false in
    record {
      answer = c.refused-then-plan-lt-LENGTH.ensures ∙ number_short (schedule_short b s) a.fault (digit a.value.scheduled) (then_short (short_fault 8 s) (plan_short b) 10 there few);
      buffer = c.put_bytes.ensures ∙ ap (put_at s 0) zeros ∙ put_long (short_fault 8 s) (slots_for b m) s there room;
    }

pub returns : goal.returns
returns c =
    let b = c.args.plan.now in
    let s = c.args.schedule.now in
    let m = c.args.values in
    let a = least_schedule (plan_in b) m in
    let there = long 8 s c.if-schedule-lt-SCHEDULE.false in
    let whole = long 400 b c.if-plan-lt-LENGTH.false in
    let v = c.least_schedule-answer.result in
    let said : verdict_answer v ≡ a =
    c.least_schedule-answer.ensures ∙ ap (λ (p : Plan). least_schedule p m) c.plan_in.ensures in
    let slots : c.slots_of.result ≡ slots_for b m =
    c.slots_of.ensures
    ∙ ap (λ (x : Answer Fixed). x.value.slots) said
    ∙ left_long (plan_short b) a.value.slots none.slots whole in
    let eight : length c.slots_of.result ≡ 8 = search rules in
    let room : length (slots_for b m) ≤ length s = rw (← slots) (omega arith) in
    record {
      answer = c.number.ensures ∙ number_fixed v ∙ ap fixed_number said ∙ number_long (schedule_short b s) a.fault (digit a.value.scheduled) (then_short (short_fault 8 s) (plan_short b) 0 there whole);
      buffer = c.put_bytes-2.ensures ∙ ap (put_at s 0) slots ∙ put_long (short_fault 8 s) (slots_for b m) s there room;
    }
