-- The head, and what is read behind it. Only the checker need believe this file.
use mathlib.Core.Path.{refl, sym, ap, ◌∙◌}
use Rattle.plan.proofs.SliceLaws.{rest_is}
use Rattle.frame.proofs.ReadingLaws.{read_long, then_on, then_stop}
use Rattle.plan_text.specs.PlanRead.{plan_read_answer}
use Rattle.plan_text.specs.ReadPlan.{read_head, read_plan}
use Rattle.plan_text.proofs.reading.read_plan.Goals as goal

pub returns-in_default : goal.returns-in_default
unfolding read_plan
returns-in_default c =
    ap plan_read_answer c.in_default.is
    ∙ then_stop (read_head c.args.text.now) _ c.in_default.field-0 c.in_default.ensures refl

pub slice_bounds-read_letters-count : goal.slice_bounds-read_letters-count
unfolding read_head
slice_bounds-read_letters-count c =
    read_long _ _ _ 1 5 c.args.text.now _ _ c.in-Ok.ensures refl

pub slice_bounds-read_letters-start : goal.slice_bounds-read_letters-start
slice_bounds-read_letters-start c = slice_bounds-read_letters-count c

pub returns : goal.returns
unfolding read_plan
returns c =
    let s = c.args.text.now in
    rw (rest_is 11 s) at c.read_letters.ensures
    ∙ sym (then_on (read_head s) _ c.in-Ok.ensures refl)
