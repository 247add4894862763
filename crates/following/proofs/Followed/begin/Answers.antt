-- By computing. Only the checker need believe this file.
use borrow.Author.Rules.{rules}
use Rattle.following.specs.Following.{followed_record}
use Rattle.following.proofs.Followed.begin.Goals as goal

pub returns : goal.returns
unfolding followed_record
returns c = search rules
