-- `after`: the machine's "and not" and "or" are the sets of the definition. Only the checker need believe this file.
use Prim.Native.Nat.{◌+◌}
use native.Mathlib.Omega.{arith}
use Rattle.network.proofs.MachineLaws.{or_two, or_masks, without}
use Rattle.game.proofs.after.Goals as goal

pub returns : goal.returns
returns c =
    let a = c.args in
    let left = without 8 a.at.left a.v.points (omega arith) (omega arith) in
    let performed = or_two 8 a.at.performed a.v.points (omega arith) (omega arith) in
    let values = or_masks 8 a.at.values a.v.choices a.outcome (omega arith) (omega arith) (omega arith) in
    let slots = c.slots_after.ensures in
    λ i. record { earliest = a.v.slot + 1; left = left i; performed = performed i; values = values i; slots = slots i }
