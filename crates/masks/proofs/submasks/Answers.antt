-- `submasks`: a byte has at most 8 members, so the power fits. Only the checker need believe this file.
use native.Mathlib.Omega.{arith}
use Rattle.network.specs.Mask.{bit}
use Rattle.network.proofs.BelowLaws.{count_le}
use Rattle.masks.proofs.ByteLaws.{submasks_fit}
use Rattle.masks.proofs.submasks.Goals as goal

pub overflow_cast-result : goal.overflow_cast-result
overflow_cast-result c = let n = count_le 8 (bit c.args.set) in record { fits = omega arith }

pub overflow_shl-result : goal.overflow_shl-result
overflow_shl-result c = let n = count_le 8 (bit c.args.set) in omega arith

pub returns : goal.returns
returns c = let n = submasks_fit c.args.set in rw c.size.ensures (omega arith)
