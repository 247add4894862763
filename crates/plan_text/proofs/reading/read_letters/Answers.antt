-- The invariant: what is left to read from here says what the whole says. Only the checker need believe this file.
use mathlib.Core.Path.{refl, sym, ap, ◌∙◌}
use borrow.Author.Rules.{rules}
use Rattle.frame.proofs.RunLaws.{frames_end}
use Rattle.frame.proofs.ReadingLaws.{read_long, frames_on, frames_stop}
use Rattle.plan_text.specs.PlanRead.{plan_read_answer}
use Rattle.plan_text.specs.ReadPlan.{read_letter, read_constraints}
use Rattle.plan_text.proofs.reading.read_letters.Goals as goal

pub returns-in_default : goal.returns-in_default
returns-in_default c =
    let l = c.loop-i in
    ap plan_read_answer c.in_default.is
    ∙ frames_stop read_letter 4 read_constraints c.args.plan.letters l.i l.so_far l.rest.now (search rules) c.in_default.field-0 c.in_default.ensures refl
    ∙ sym l.invariant

pub slice_bounds-rest-count : goal.slice_bounds-rest-count
unfolding read_letter
slice_bounds-rest-count c =
    read_long _ _ _ 2 4 c.loop-i.rest.now _ _ c.in-Ok.ensures refl

pub slice_bounds-rest-start : goal.slice_bounds-rest-start
slice_bounds-rest-start c = slice_bounds-rest-count c

pub loop-i-preserved : goal.loop-i-preserved
loop-i-preserved c =
    let l = c.loop-i in
    l.invariant
    ∙ frames_on read_letter 4 read_constraints c.args.plan.letters l.i l.so_far l.rest.now (search rules)
    c.in-Ok.ensures refl

pub returns : goal.returns
returns c =
    let l = c.loop-i in
    c.read_constraints.ensures
    ∙ sym (l.invariant ∙ frames_end read_letter 4 read_constraints c.args.plan.letters l.i l.so_far l.rest.now (search rules))
