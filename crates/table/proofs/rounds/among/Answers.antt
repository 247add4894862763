-- `among`: a shift, and the lowest bit. Only the checker need believe this file.
use mathlib.Core.Path.{sym}
use Rattle.network.proofs.MachineLaws.{bit_shift}
use Rattle.table.proofs.rounds.among.Goals as goal

pub returns : goal.returns
returns c = sym (bit_shift c.args.c.letters c.args.set)
