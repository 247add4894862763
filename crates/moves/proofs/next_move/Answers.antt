-- `next_move`: by the case that the tests leave. Only the checker need believe this file.
use mathlib.Core.Path.{◌≡◌, sym, ap, ◌∙◌}
use Prim.Native.Nat.{ℕ, ◌+◌}
use Rattle.std.specs.Prelude.{Some}
use Rattle.masks.specs.Next.{next_inside}
use Rattle.plan.specs.Settled.{settled_by}
use Rattle.moves.specs.Moves.{ready_at, from_slot}
use Rattle.moves.proofs.StepLaws.{choices_behind, points_behind, more_choices, other_points, later_slot}
use Rattle.moves.proofs.next_move.Goals as goal
use Rattle.moves.proofs.next_move.Goals.{After-next_inside-choices, After-next_inside-points, Else-choices-ne0}

-- the next choices, inside what the points settle
choices-are :
    (c : After-next_inside-choices) → let a = c.args in
    c.next_inside-choices.result ≡ choices_behind a.plan a.v
choices-are c =
    let a = c.args in
    let settled : c.settled.result ≡ settled_by a.plan a.v.points = c.settled.ensures in
    let next : c.next_inside-choices.result ≡ next_inside c.settled.result a.v.choices = c.next_inside-choices.ensures in
    next ∙ ap (λ (s : ℕ). next_inside s a.v.choices) settled

pub returns-then-choices-ne0 : goal.returns-then-choices-ne0
returns-then-choices-ne0 c =
    let a = c.args in
    let choices = choices-are (goal.at.returns-then-choices-ne0 c).After-next_inside-choices in
    let some : ¬ (c.next_inside-choices.result ≡ 0) = c.if-choices-ne0.true in
    ap (λ (x : ℕ). Some (record { slot = a.v.slot; points = a.v.points; choices = x })) choices
    ∙ sym (more_choices a.plan a.at a.soonest a.v (λ e. some (choices ∙ e)))

-- no choices are left
no-choices :
    (c : Else-choices-ne0) (choices-are_here : let a = c.args in
    c.next_inside-choices.result ≡ choices_behind a.plan a.v) → let a = c.args in
    choices_behind a.plan a.v ≡ 0
no-choices c choices-are_here =
    let none : c.next_inside-choices.result ≡ 0 = c.if-choices-ne0.false in
    sym (choices-are_here) ∙ none

-- the next points, inside those ready
points-are :
    (c : After-next_inside-points) → let a = c.args in
    c.next_inside-points.result ≡ points_behind a.at a.soonest a.v
points-are c =
    let a = c.args in
    let are : c.ready.result ≡ ready_at a.at a.soonest a.v.slot = c.ready.ensures in
    let next : c.next_inside-points.result ≡ next_inside c.ready.result a.v.points = c.next_inside-points.ensures in
    next ∙ ap (λ (s : ℕ). next_inside s a.v.points) are

pub returns-then-points-ne0 : goal.returns-then-points-ne0
returns-then-points-ne0 c =
    let a = c.args in
    let points = points-are (goal.at.returns-then-points-ne0 c).After-next_inside-points in
    let some : ¬ (c.next_inside-points.result ≡ 0) = c.if-points-ne0.true in
    ap (λ (x : ℕ). Some (record { slot = a.v.slot; points = x; choices = 0 })) points
    ∙ sym (other_points a.plan a.at a.soonest a.v (no-choices (goal.at.returns-then-points-ne0 c).Else-choices-ne0 (choices-are (goal.at.returns-then-points-ne0 c).After-next_inside-choices)) (λ e. some (points ∙ e)))

pub returns : goal.returns
returns c =
    let a = c.args in
    let none : c.next_inside-points.result ≡ 0 = c.if-points-ne0.false in
    let no-points : points_behind a.at a.soonest a.v ≡ 0 = sym (points-are (goal.at.returns c).After-next_inside-points) ∙ none in
    let said : c.from_slot.result ≡ from_slot a.plan a.at a.soonest (a.v.slot + 1) = c.from_slot.ensures in
    said ∙ sym (later_slot a.plan a.at a.soonest a.v (no-choices (goal.at.returns c).Else-choices-ne0 (choices-are (goal.at.returns c).After-next_inside-choices)) no-points)
