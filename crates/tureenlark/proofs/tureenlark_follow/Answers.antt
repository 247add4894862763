-- Short records are refused; else the call is made of the plan that the bytes say. Only the checker need believe this file.
use mathlib.Core.Path.{◌≡◌, ◌∙◌, ap}
use native.Mathlib.Omega.{arith}
use Prim.Native.Nat.{◌≤◌}
use lib.ListN.{length}
use lib.Seq.{sets}
use Rattle.plan.specs.Faults.{put_at}
use Rattle.run.specs.declared.History.{History}
use Rattle.following.specs.Following.{followed_record}
use Rattle.records.specs.Records.{history_bytes}
use Rattle.tureenlark.proofs.FollowLaws.{record_count, record_history, record_steps, steps_length_lem}
use Rattle.tureenlark.specs.Library.{plan_short, history_short, short_fault, follow_short, followed, steps_bytes}
use Rattle.tureenlark.proofs.LibraryLaws.{short, long, first_short, then_short, number_refused, number_fine, filled_short, filled_long, put_long}
use borrow.Author.Rules.{rules}
use Rattle.tureenlark.proofs.tureenlark_follow.Goals as goal
use Rattle.tureenlark.proofs.tureenlark_follow.Goals.{After-follow-followed}

pub returns-then-plan-lt-LENGTH : goal.returns-then-plan-lt-LENGTH
returns-then-plan-lt-LENGTH c =
    let b = c.args.plan.now in
    let t = c.args.tree.now in
    let h = c.args.history.now in
    let l = c.args.calls.now in
    let s = c.args.steps.now in
    let r = followed b t h l in
    let f = follow_short b h s in
    let e = first_short (plan_short b) _ (short 400 b c.if-plan-lt-LENGTH.true) in
    record {
      answer = c.refused.ensures ∙ number_refused f (length r.steps) e;
      left = filled_short f (history_bytes r.history) h e;
      followed = filled_short f (steps_bytes r) s e;
    }

pub returns-then-history-lt-LENGTH : goal.returns-then-history-lt-LENGTH
returns-then-history-lt-LENGTH c =
    let b = c.args.plan.now in
    let t = c.args.tree.now in
    let h = c.args.history.now in
    let l = c.args.calls.now in
    let s = c.args.steps.now in
    let r = followed b t h l in
    let f = follow_short b h s in
    let e = then_short (plan_short b) _ 10 (long 400 b c.if-plan-lt-LENGTH.false) (first_short (history_short h) (short_fault 32 s) (short 9 h c.if-history-lt-LENGTH.true)) in
    record {
      answer = c.refused-then-history-lt-LENGTH.ensures ∙ number_refused f (length r.steps) e;
      left = filled_short f (history_bytes r.history) h e;
      followed = filled_short f (steps_bytes r) s e;
    }

pub returns-then-steps-lt-STEPS : goal.returns-then-steps-lt-STEPS
returns-then-steps-lt-STEPS c =
    let b = c.args.plan.now in
    let t = c.args.tree.now in
    let h = c.args.history.now in
    let l = c.args.calls.now in
    let s = c.args.steps.now in
    let r = followed b t h l in
    let f = follow_short b h s in
    let e = then_short (plan_short b) _ 10 (long 400 b c.if-plan-lt-LENGTH.false)
    (then_short (history_short h) (short_fault 32 s) 10 (long 9 h c.if-history-lt-LENGTH.false) (short 32 s c.if-steps-lt-STEPS.true)) in
    record {
      answer = c.refused-then-steps-lt-STEPS.ensures ∙ number_refused f (length r.steps) e;
      left = filled_short f (history_bytes r.history) h e;
      followed = filled_short f (steps_bytes r) s e;
    }

-- a history has eight masks by its type
eight-masks : (c : After-follow-followed) → length c.follow-followed.result.history.masks ≡ 8
eight-masks c = search rules

pub returns : goal.returns
returns c =
    let b = c.args.plan.now in
    let t = c.args.tree.now in
    let h = c.args.history.now in
    let l = c.args.calls.now in
    let s = c.args.steps.now in
    let r = followed b t h l in
    let f = follow_short b h s in
    let e = then_short (plan_short b) _ 0 (long 400 b c.if-plan-lt-LENGTH.false)
    (then_short (history_short h) (short_fault 32 s) 0 (long 9 h c.if-history-lt-LENGTH.false) (long 32 s c.if-steps-lt-STEPS.false)) in
    let v = c.follow-followed.result in
    let is : v ≡ followed_record r = c.follow-followed.ensures ∙ rw (c.plan_in.ensures, c.history_in-given.ensures) in
    let history = record_history v r is in
    let eight = eight-masks (goal.at.returns c).After-follow-followed in
    let room : length (history_bytes r.history) ≤ length h = rw (← history) (omega arith) in
    let steps = steps_length_lem r in
    record {
      answer = record_count v r is ∙ number_fine f (length r.steps) e;
      left = c.put_history.ensures ∙ ap (λ (x : History). put_at h 0 (history_bytes x)) history ∙ put_long f (history_bytes r.history) h e room;
      followed = c.put_steps.ensures ∙ ap (sets s 0) (record_steps v r is) ∙ filled_long f (steps_bytes r) s e (omega arith);
    }
