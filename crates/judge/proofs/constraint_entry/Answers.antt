-- By cases of the test. Only the checker need believe this file.
use Rattle.judge.proofs.constraint_entry.Goals as goal

pub returns-then-used : goal.returns-then-used
returns-then-used c p few known = rw c.if-used.true (c.constraint_over.ensures p few known)

pub returns : goal.returns
returns c p few known = rw c.if-used.false c.constraint_unused.ensures
