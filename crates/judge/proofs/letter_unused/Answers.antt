-- By the derived equality. Only the checker need believe this file.
use borrow.Author.Rules.{rules}
use Rattle.judge.specs.Judge.{letter_unused}
use Rattle.judge.proofs.letter_unused.Goals as goal

pub returns : goal.returns
unfolding letter_unused
returns c = search rules
