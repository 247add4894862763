-- Each test is what its function ensures. Only the checker need believe this file.
use Rattle.judge.specs.Judge.{constraint_fine}
use Rattle.judge.proofs.constraint_over.Goals as goal

pub returns : goal.returns
unfolding constraint_fine
returns c p few known = rw (few, known) (cc)
