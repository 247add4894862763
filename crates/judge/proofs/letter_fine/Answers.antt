-- Each test is what its function ensures. Only the checker need believe this file.
use Rattle.judge.specs.Judge.{letter_fine}
use Rattle.judge.proofs.letter_fine.Goals as goal

pub returns : goal.returns
unfolding letter_fine
returns c = cc
