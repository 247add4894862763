-- `soonest`: a win fits the table of zeros, and so the last. Only the checker need believe this file.
use Rattle.table.proofs.TableLaws.{zeros_fit}
use Rattle.table.proofs.soonest.Goals as goal

pub returns : goal.returns
returns c = λ w. c.least_slots.ensures.below w (c.settle.ensures.0.fits w (zeros_fit w))
