-- The invariant: what is left to read from here says what the whole says. Only the checker need believe this file.
use mathlib.Core.Path.{refl, sym, ap, ◌∙◌}
use borrow.Author.Rules.{rules}
use Rattle.plan.specs.Plan.{zero_plan}
use Rattle.frame.specs.Texts.{at_end}
use Rattle.frame.proofs.RunLaws.{frames_end}
use Rattle.frame.proofs.ReadingLaws.{judged_refused, judged_fine, read_long, frames_on, frames_stop}
use Rattle.plan_text.specs.PlanRead.{plan_read_answer}
use Rattle.plan_text.specs.ReadPlan.{read_constraint}
use Rattle.plan_text.proofs.reading.read_constraints.Invariants.{end}
use Rattle.plan_text.proofs.reading.read_constraints.Goals as goal

pub returns-in_default : goal.returns-in_default
returns-in_default c =
    let l = c.loop-j in
    ap plan_read_answer c.in_default.is
    ∙ frames_stop read_constraint 7 end c.args.plan.constraints l.j l.so_far l.rest.now (search rules) c.in_default.field-0 c.in_default.ensures refl
    ∙ sym l.invariant

pub slice_bounds-rest-count : goal.slice_bounds-rest-count
unfolding read_constraint
slice_bounds-rest-count c =
    read_long _ _ _ 3 7 c.loop-j.rest.now _ _ c.in-Ok.ensures refl

pub slice_bounds-rest-start : goal.slice_bounds-rest-start
slice_bounds-rest-start c = slice_bounds-rest-count c

pub loop-j-preserved : goal.loop-j-preserved
loop-j-preserved c =
    let l = c.loop-j in
    l.invariant
    ∙ frames_on read_constraint 7 end c.args.plan.constraints l.j l.so_far l.rest.now (search rules)
    c.in-Ok.ensures refl

-- behind the last constraint
pub returns-in_err-end_fault : goal.returns-in_err-end_fault
unfolding at_end
returns-in_err-end_fault c =
    let l = c.loop-j in
    let e =
    judged_refused zero_plan l.so_far _ c.in_err-end_fault.ensures
    ∙ sym (l.invariant ∙ frames_end read_constraint 7 end c.args.plan.constraints l.j l.so_far l.rest.now (search rules)) in
    search (rules, e)

pub returns : goal.returns
unfolding at_end
returns c =
    let l = c.loop-j in
    judged_fine zero_plan l.so_far c.in_ok-end_fault.ensures
    ∙ sym (l.invariant ∙ frames_end read_constraint 7 end c.args.plan.constraints l.j l.so_far l.rest.now (search rules))
