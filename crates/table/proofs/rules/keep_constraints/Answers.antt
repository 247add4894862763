-- `keep_constraints`: the row is put where it rests, or struck. Only the checker need believe this file.
use Rattle.table.proofs.TableLaws.{follows_strike}
use Rattle.table.proofs.rules.keep_constraints.Goals as goal

pub returns-then-too_late : goal.returns-then-too_late
returns-then-too_late c = follows_strike c.at_rest-rest.ensures
    (c.too_late.ensures c.if-too_late.true _) c.strike.ensures
