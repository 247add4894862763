-- `numbered`: each turn takes the lowest member off the set. Only the checker need believe this file.
use mathlib.Core.Path.{◌≡◌}
use Prim.Native.Nat.{◌%◌}
use native.Mathlib.Omega.{arith}
use Rattle.network.proofs.SubmaskLaws.{submask_empty}
use Rattle.masks.proofs.ByteLaws.{LowestByte, lowest_byte}
use Rattle.masks.proofs.numbered.Goals as goal
use Rattle.masks.proofs.numbered.Goals.{After-lowest}

-- the lowest member at a turn
low : (c : After-lowest) → LowestByte c.loop-rest.rest c.loop-rest.digits c.lowest.result
low c =
    let l = c.loop-rest in
    lowest_byte l.rest l.digits c.lowest.result c.lowest.ensures (omega arith) (omega arith)

pub overflow_cast-low : goal.overflow_cast-low
overflow_cast-low c = let l = (low c).small in record { fits = omega arith }

pub overflow_shl-low : goal.overflow_shl-low
overflow_shl-low c = (low c).small

pub overflow_sub-rest : goal.overflow_sub-rest
overflow_sub-rest c = (low c).parted.part

pub overflow_add-out : goal.overflow_add-out
overflow_add-out c = let l = (low (goal.at.overflow_add-out c).After-lowest).parted.part in record { fits = omega arith }

pub loop-rest-smaller-then-digits-eq1 : goal.loop-rest-smaller-then-digits-eq1
loop-rest-smaller-then-digits-eq1 c = let l = (low (goal.at.loop-rest-smaller-then-digits-eq1 c).After-lowest).parted in omega arith

pub loop-rest-preserved-then-digits-eq1 : goal.loop-rest-preserved-then-digits-eq1
loop-rest-preserved-then-digits-eq1 c =
    let l = (low (goal.at.loop-rest-preserved-then-digits-eq1 c).After-lowest).parted in
    let o = rw c.if-digits-eq1.true at l.others in
    (omega arith, omega arith)

pub loop-rest-smaller : goal.loop-rest-smaller
loop-rest-smaller c = let l = (low (goal.at.loop-rest-smaller c).After-lowest).parted in omega arith

pub loop-rest-preserved : goal.loop-rest-preserved
loop-rest-preserved c =
    let l = (low (goal.at.loop-rest-preserved c).After-lowest).parted in
    let d : c.loop-rest.digits % 2 ≡ 0 = omega arith in
    let o = rw d at l.others in
    (omega arith, omega arith)

pub returns : goal.returns
returns c =
    let e = rw (c.loop-rest-test.false, submask_empty) at c.loop-rest.invariant.1 in
    omega arith
