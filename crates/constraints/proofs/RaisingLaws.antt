-- Laws of what the code of the raise computes: the slot that a bound asks, one slot no earlier, a turn. Only the checker need believe this
-- file.
use mathlib.Core.Path.{◌≡◌, sym, ap, ◌∙◌}
use mathlib.Core.Logic.{by_cases}
use mathlib.Core.Bool.{true, false}
use mathlib.Core.List.{List}
use Prim.Native.Nat.{ℕ, ◌+◌, ◌-◌, ◌%◌, ◌≤◌, ◌<◌, min, max}
use native.Mathlib.Omega.{arith}
use native.Mathlib.Decide.{dec_lt}
use lib.ListN.{length, get_or, set}
use lib.Seq.{set_out, set-get_or}
use Rattle.network.specs.Network.{Scenario, Constraint, holds}
use Rattle.network.specs.Raise.{least_from, asked, turn}
use Rattle.network.proofs.Booleans.{ltb_yes, ltb_no}
use Rattle.plan.specs.Plan.{signed}

-- ---- a bound in two's complement

least_pos : (y b : ℕ) → b < 32768 → least_from y (signed b) ≡ y - b
unfolding least_from signed
least_pos y b h = rw (ltb_yes b 32768 h)

least_neg : (y b : ℕ) → 32768 ≤ b → b < 65536 → least_from y (signed b) ≡ y + 65536 - b
unfolding least_from signed
least_neg y b h k = rw (ltb_no b 32768 (λ lt. omega arith)) (omega arith)

-- half of the range is added on both sides
pub least_is : (y b : ℕ) → b < 65536 → least_from y (signed b) ≡ y + 32768 - (b + 32768) % 65536
least_is y b k =
    by_cases (dec_lt b 32768)
    (λ lt. rw (least_pos y b lt) (omega arith))
    (λ ge. rw (least_neg y b (omega arith) k) (omega arith))

-- ---- a slot no earlier than v

pub later : (slots : List ℕ) (x v : ℕ) → get_or slots x 0 < v → set slots x v ≡ set slots x (max (get_or slots x 0) v)
later slots x v h = ap (set slots x) (omega arith)

pub late_enough : (slots : List ℕ) (x v : ℕ) → v ≤ get_or slots x 0 → slots ≡ set slots x (max (get_or slots x 0) v)
late_enough slots x v h =
    let e : max (get_or slots x 0) v ≡ get_or slots x 0 = omega arith in
    sym (ap (set slots x) e ∙ set-get_or slots x 0)

pub past : (slots : List ℕ) (x v : ℕ) → length slots ≤ x → slots ≡ set slots x v
past slots x v h = sym (set_out slots x v h)

-- ---- a turn

-- where the label fails nothing moves
pub no_turn :
    (cap : ℕ) (s : Scenario) (slots : List ℕ) (c : Constraint) → holds s c.label ≡ false → slots ≡ turn cap s slots c
unfolding turn asked
no_turn cap s slots c fails = rw fails (late_enough slots c.from (min cap 0) (omega arith))

-- where it holds X comes no earlier than the slot asked
pub own_turn :
    (cap : ℕ) (s : Scenario) (slots : List ℕ) (c : Constraint) → holds s c.label ≡ true →
    set slots c.from (max (get_or slots c.from 0) (min cap (least_from (get_or slots c.to 0) c.bound))) ≡ turn cap s slots c
unfolding turn asked
own_turn cap s slots c held = rw held
