-- By computing. Only the checker need believe this file.
use Rattle.network.proofs.Booleans.{eqb_no}
use Rattle.run.proofs.walk.told_here.Goals as goal

pub returns-then-at-ne0 : goal.returns-then-at-ne0
returns-then-at-ne0 c = rw (eqb_no _ _ c.if-at-ne0.true, c.into.ensures, c.node_at.ensures)

pub returns : goal.returns
returns c = rw c.if-at-ne0.false
