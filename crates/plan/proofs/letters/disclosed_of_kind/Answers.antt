-- `disclosed_of_kind`: each turn adds one letter below; those that are not used have no bit. Only the checker need believe this file.
use mathlib.Core.Path.{refl, ◌∙◌}
use Prim.Native.Nat.{◌-◌}
use native.Mathlib.Omega.{arith}
use Rattle.plan.proofs.LetterLaws.{mask_none, mask_more, mask_fits, letters_only, disclosed_by, disclosed_none, digit_byte}
use Rattle.plan.proofs.letters.disclosed_of_kind.Goals as goal

pub loop-i-init : goal.loop-i-init
loop-i-init c =
    let a = c.args in
    let e = c.min-i.ensures in
    mask_none 6 c.min-i.result (disclosed_by (letters_only a.count a.letters) a.decided a.points) (omega arith)
    (λ k h lt. disclosed_none (letters_only a.count a.letters) a.decided a.points k (omega arith))

-- the invariant at the end of a turn
pub loop-i-preserved : goal.loop-i-preserved
loop-i-preserved c =
    let a = c.args in
    let l = c.loop-i in
    let used = c.min-i.ensures in
    rw (c.from.ensures ∙ digit_byte c.is_disclosed.result, c.is_disclosed.ensures (letters_only a.count a.letters) (l.i - 1) (omega arith) refl)
    (mask_more l.invariant (omega arith))

pub overflow_mul-m : goal.overflow_mul-m
overflow_mul-m c = let n = mask_fits (loop-i-preserved c) in record { fits = omega arith }

pub overflow_add-m : goal.overflow_add-m
overflow_add-m c = let n = mask_fits (loop-i-preserved c) in record { fits = omega arith }
