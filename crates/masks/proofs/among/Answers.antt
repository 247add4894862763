-- `among`: a byte is below 2 ^ 8; else by the law of the shift. Only the checker need believe this file.
use mathlib.Core.Path.{sym}
use borrow.Author.Rules.{rules}
use Rattle.masks.proofs.ByteLaws.{among_is, among_all}
use Rattle.masks.proofs.among.Goals as goal

pub returns-then-n-ge8 : goal.returns-then-n-ge8
returns-then-n-ge8 c = sym (among_all _ _ (search rules) c.if-n-ge8.true)

pub returns : goal.returns
returns c = among_is c.args.mask c.args.n
