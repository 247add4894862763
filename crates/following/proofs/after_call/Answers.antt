-- By the laws of the record after a call. Only the checker need believe this file.
use mathlib.Core.Path.{◌≡◌, sym, ap, ◌∙◌}
use Prim.Native.Nat.{◌<◌}
use native.Mathlib.Omega.{arith}
use borrow.Author.Rules.{rules}
use lib.ListN.{length}
use Rattle.plan.specs.Refusal.{judged_number}
use Rattle.plan.proofs.RefusalLaws.{no_refusal}
use Rattle.run.specs.Told.{shown_told, reported_answer}
use Rattle.run.proofs.ToldLaws.{room_for_one}
use Rattle.following.proofs.FollowLaws.{no_step_refused, no_step_untold, one_step, shown_leaves}
use Rattle.following.proofs.FollowLaws.{AtReport, as_before, step_more}
use Rattle.following.proofs.after_call.Goals as goal
use Rattle.following.proofs.after_call.Goals.{After-report-reported, In-Instruct-Ok, Start}

long : (c : Start) → length c.args.progress.history.masks ≡ 8
long c = search rules

-- what was told, and what the report answered
at-report : (c : After-report-reported) →
    let a = c.args in
    AtReport a.plan a.nodes.now a.progress c.in-Report.mask (shown_told c.show-told.result) (reported_answer c.report-reported.result)
at-report c = record { told_is = c.show-told.ensures; answer_is = c.report-reported.ensures }

-- an instruction is told, so one step more has room
room : (c : In-Instruct-Ok) (long_here : length c.args.progress.history.masks ≡ 8) → c.args.progress.count < 8
room c long_here =
    let fit = c.requires in
    let more = room_for_one _ _ _ _ long_here (sym c.show-told.ensures ∙ ap shown_told c.in-Instruct-Ok.is-0) in
    omega arith

-- a showing
pub returns-in_default : goal.returns-in_default
returns-in_default c = rw c.in_default.is (shown_leaves _ _ _)

pub with_step-requires : goal.with_step-requires
with_step-requires c = room c (long (goal.at.with_step-requires c).Start)

-- an accepted report where an instruction is told; a refused one; one where none is told
pub returns-in-Instruct-Ok : goal.returns-in-Instruct-Ok
returns-in-Instruct-Ok c =
    let at = goal.at.returns-in-Instruct-Ok c in
    let one = one_step _ c.in-Instruct-Ok.v _ _ (ap shown_told c.in-Instruct-Ok.is-0) (ap judged_number c.in-Instruct-Ok.is-1) in
    rw (c.in-Report.is, c.with_step.ensures)
    (step_more _ _ _ _ _ _ (at-report at.After-report-reported) c.in-Instruct-Ok.v one (room at.In-Instruct-Ok (long at.Start)))

pub returns-in_default-2 : goal.returns-in_default-2
returns-in_default-2 c =
    let r = c.in_default-2.field-0-1 in
    let at = goal.at.returns-in_default-2 c in
    rw c.in-Report.is
    (as_before _ _ _ _ _ _ (at-report at.After-report-reported)
    (no_step_refused _ _ _ (λ e. no_refusal r (sym (ap judged_number c.in_default-2.is-1) ∙ e))))

pub returns-in_default-2-2 : goal.returns-in_default-2-2
returns-in_default-2-2 c =
    let at = goal.at.returns-in_default-2-2 c in
    rw c.in-Report.is
    (as_before _ _ _ _ _ _ (at-report at.After-report-reported) (no_step_untold _ c.in_default-2.not-Instruct-0 _ _))
