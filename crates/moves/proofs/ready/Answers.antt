-- `ready`: each turn adds one point below. Only the checker need believe this file.
use mathlib.Core.Path.{◌≡◌}
use mathlib.Core.Bool.{Bool, true, false, ◌&&◌}
use Prim.Native.Nat.{ℕ, ◌+◌, ◌-◌, ◌*◌, ◌<◌}
use native.Mathlib.Omega.{arith}
use lib.Dec.{leb}
use Rattle.network.specs.Mask.{bit}
use Rattle.network.specs.Network.{slots_in}
use Rattle.plan.proofs.LetterLaws.{MaskFrom, mask_start, mask_more, mask_end, mask_fits}
use Rattle.moves.proofs.ready.Goals as goal
use Rattle.moves.proofs.ready.Goals.{Then-has-soonest}

-- a point that is ready, or that is not, below the others
more-ready : {f : ℕ → Bool} {i m : ℕ} → MaskFrom 8 f i m → 0 < i → f (i - 1) ≡ true → MaskFrom 8 f (i - 1) (2 * m + 1)
more-ready {f} {i} {m} r p y =
    let n : MaskFrom 8 f (i - 1) (1 + 2 * m) = rw y at (mask_more r p) in
    let e : 2 * m + 1 ≡ 1 + 2 * m = omega arith in
    rw e n

not-ready : {f : ℕ → Bool} {i m : ℕ} → MaskFrom 8 f i m → 0 < i → f (i - 1) ≡ false → MaskFrom 8 f (i - 1) (2 * m)
not-ready {f} {i} {m} r p z =
    let n : MaskFrom 8 f (i - 1) (0 + 2 * m) = rw z at (mask_more r p) in
    let e : 2 * m ≡ 0 + 2 * m = omega arith in
    rw e n

pub loop-x-init : goal.loop-x-init
loop-x-init c = let a = c.args in mask_start 8 (λ i. bit a.at.left i && leb (slots_in a.soonest i) a.slot)

pub overflow_mul-m : goal.overflow_mul-m
overflow_mul-m c = let n = mask_fits (mask_more c.loop-x.invariant (omega arith)) in record { fits = omega arith }

pub bounds-soonest-x : goal.bounds-soonest-x
bounds-soonest-x c = let w = c.loop-x.invariant.within in omega arith

-- the invariant at the end of a turn
with-point :
    (c : Then-has-soonest) → let a = c.args in let l = c.loop-x in
    (MaskFrom 8 (λ i. bit a.at.left i && leb (slots_in a.soonest i) a.slot) (l.x - 1) (2 * l.m + 1))
with-point c =
    let l = c.loop-x in
    more-ready l.invariant (omega arith) (rw c.has.ensures at c.if-has-soonest.true)

pub overflow_add-m : goal.overflow_add-m
overflow_add-m c = let n = mask_fits (with-point c) in record { fits = omega arith }

pub loop-x-preserved-then-has-soonest : goal.loop-x-preserved-then-has-soonest
loop-x-preserved-then-has-soonest c = with-point c

pub loop-x-preserved : goal.loop-x-preserved
loop-x-preserved c =
    let l = c.loop-x in
    not-ready l.invariant (omega arith) (rw c.has.ensures at c.if-has-soonest.false)

pub returns : goal.returns
returns c = mask_end c.loop-x.invariant (omega arith)
