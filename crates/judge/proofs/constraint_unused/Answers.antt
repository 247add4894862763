-- By the derived equality. Only the checker need believe this file.
use borrow.Author.Rules.{rules}
use Rattle.judge.specs.Judge.{constraint_unused}
use Rattle.judge.proofs.constraint_unused.Goals as goal

pub returns : goal.returns
unfolding constraint_unused
returns c = search rules
