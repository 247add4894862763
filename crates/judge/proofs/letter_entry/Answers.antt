-- By cases of the test. Only the checker need believe this file.
use borrow.Author.Tests.{lt-ltb, le-ltb}
use Rattle.judge.specs.Judge.{letter_entry}
use Rattle.judge.proofs.letter_entry.Goals as goal

pub returns-then-i-plan : goal.returns-then-i-plan
unfolding letter_entry
returns-then-i-plan c = rw (lt-ltb _ _ c.if-i-plan.true) (cc)

pub returns : goal.returns
unfolding letter_entry
returns c = rw (le-ltb _ _ c.if-i-plan.false) (cc)
