-- `has`: a bit by a shift; a byte has no bit from 8 on. Only the checker need believe this file.
use mathlib.Core.Path.{sym}
use native.Mathlib.Omega.{arith}
use Rattle.network.proofs.MaskLaws.{bit_above}
use Rattle.network.proofs.MachineLaws.{bit_shift}
use Rattle.masks.proofs.has.Goals as goal

pub returns-then-i-ge8 : goal.returns-then-i-ge8
returns-then-i-ge8 c = sym (bit_above 8 c.args.mask c.args.i (omega arith) (omega arith))

pub returns : goal.returns
returns c = sym (bit_shift c.args.i c.args.mask)
