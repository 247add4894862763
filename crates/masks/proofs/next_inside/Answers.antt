-- `next_inside`: by the law of the carry. Only the checker need believe this file.
use Prim.Native.Nat.{◌-◌}
use native.Mathlib.Omega.{arith}
use lib.Bits.{or_lt}
use Rattle.masks.proofs.NextLaws.{next_is, none_behind}
use Rattle.masks.proofs.next_inside.Goals as goal

pub returns-then-filled : goal.returns-then-filled
returns-then-filled c = let a = c.args in none_behind a.set a.mask (omega arith) c.if-filled.true

pub overflow_add-result : goal.overflow_add-result
overflow_add-result c = let a = c.args in let l = or_lt 8 a.mask (255 - a.set) (omega arith) (omega arith) in omega arith

pub returns : goal.returns
returns c = let a = c.args in next_is 8 a.set a.mask (omega arith)
