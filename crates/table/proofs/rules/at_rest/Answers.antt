-- `at_rest`: each round of the raise moves slots that are no later than a win to such slots. Only the checker need believe this file.
use mathlib.Core.Path.{sym, subst}
use Rattle.table.specs.Table.{Moves}
use Rattle.table.proofs.TableLaws.{move_on, raise_moves}
use Rattle.table.proofs.rules.at_rest.Goals as goal
use Rattle.table.proofs.rules.at_rest.Goals.{After-raise_in}

-- after one round more
further : (c : After-raise_in) →
    let a = c.args in
    Moves a.v.now a.s.letters a.slots c.raise_in.new.slots
further c =
    let a = c.args in
    let moved = c.loop.moved in
    move_on c.loop.invariant
    (subst (Moves a.v.now a.s.letters moved) (sym c.raise_in.ensures) (raise_moves 255 a.s.letters moved))

pub returns-then-too_late : goal.returns-then-too_late
returns-then-too_late c = further (goal.at.returns-then-too_late c).After-raise_in

pub loop-preserved : goal.loop-preserved
loop-preserved c = further (goal.at.loop-preserved c).After-raise_in
