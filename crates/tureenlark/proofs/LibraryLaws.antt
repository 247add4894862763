-- Laws of short records, and of what a call leaves behind them. Only the checker need believe this file.
use mathlib.Core.Path.{◌≡◌, ap, ◌∙◌}
use mathlib.Core.Bool.{Bool, cond}
use mathlib.Core.List.{List}
use Prim.Native.Nat.{ℕ, ◌+◌, ◌≤◌, ◌<◌}
use native.Mathlib.Omega.{arith}
use native.Mathlib.Nat.{zero-add}
use borrow.Author.Tests.{le-leb, lt-leb}
use lib.Dec.{eqb}
use lib.ListN.{length}
use lib.Seq.{sets, sets-eq}
use Rattle.plan.specs.Faults.{unless, first, filled, put_at}
use Rattle.run.specs.Told.{Told, instruct, complete, refuse}
use Rattle.answers.specs.Numbers.{fault_number, numbered}
use Rattle.answers.specs.Steps.{told_bytes}
use Rattle.tureenlark.specs.Library.{short_fault, unless_short}

-- a record that is too short, and one that is not
pub short : (n : ℕ) (bs : List ℕ) → length bs < n → short_fault n bs ≡ 10
unfolding unless
short n bs h = rw (lt-leb n (length bs) h)

pub long : (n : ℕ) (bs : List ℕ) → n ≤ length bs → short_fault n bs ≡ 0
unfolding unless
long n bs h = rw (le-leb n (length bs) h)

-- which of two or three is short
pub first_short : (f g : ℕ) → f ≡ 10 → first f g ≡ 10
unfolding first
first_short f g e = rw e

pub then_short : (f g n : ℕ) → f ≡ 0 → g ≡ n → first f g ≡ n
unfolding first
then_short f g n e h = rw (e, h)

-- ---- the answer, and what is left

module _ (f : ℕ) where
  pub number_short : (g v : ℕ) → f ≡ 10 → 32522 ≡ numbered (first f g) v
  unfolding numbered first
  number_short g v e = rw e

  pub number_long : (g v : ℕ) → f ≡ 0 → numbered g v ≡ numbered (first f g) v
  unfolding first
  number_long g v e = rw e

  -- the same where nothing else is judged
  pub number_refused : (v : ℕ) → f ≡ 10 → 32522 ≡ numbered f v
  unfolding numbered
  number_refused v e = rw e

  pub number_fine : (v : ℕ) → f ≡ 0 → v ≡ numbered f v
  unfolding numbered
  number_fine v e = rw e

  pub told_short : (v : ℕ) → f ≡ 10 → 32522 ≡ cond (eqb f 0) v (fault_number f)
  told_short v e = rw e

  pub told_long : (v : ℕ) → f ≡ 0 → v ≡ cond (eqb f 0) v (fault_number f)
  told_long v e = rw e

  pub left_short : (left xs : List ℕ) → f ≡ 10 → xs ≡ unless_short f left xs
  unfolding unless_short
  left_short left xs e = rw e

  pub left_long : (left xs : List ℕ) → f ≡ 0 → left ≡ unless_short f left xs
  unfolding unless_short
  left_long left xs e = rw e

  pub filled_short : (bytes xs : List ℕ) → f ≡ 10 → xs ≡ filled f bytes xs
  unfolding filled
  filled_short bytes xs e = rw e

  pub filled_long : (bytes xs : List ℕ) → f ≡ 0 → length bytes ≤ length xs → sets xs 0 bytes ≡ filled f bytes xs
  unfolding filled
  filled_long bytes xs e h = rw e (rw zero-add at (sets-eq bytes xs 0 (omega arith)))

  pub put_long : (bytes xs : List ℕ) → f ≡ 0 → length bytes ≤ length xs → put_at xs 0 bytes ≡ filled f bytes xs
  put_long bytes xs e h = ap (λ (b : Bool). cond b (sets xs 0 bytes) xs) (le-leb (0 + length bytes) (length xs) (omega arith)) ∙ filled_long bytes xs e h

-- ---- what is told, slots, and rows

pub few_bytes : (told : Told) → length (told_bytes told) ≤ 3
few_bytes (instruct m) = omega arith
few_bytes complete = omega arith
few_bytes (refuse n) = omega arith
