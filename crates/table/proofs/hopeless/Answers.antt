-- `hopeless`: every win fits the table of zeros. Only the checker need believe this file.
use Rattle.table.proofs.TableLaws.{no_win}
use Rattle.table.proofs.hopeless.Goals as goal

pub returns : goal.returns
returns c = λ e. no_win (c.settle.ensures.1 e)
