-- Laws of a frame as the code reads and writes it. Only the checker need believe this file.
use mathlib.Core.Path.{◌≡◌, sym}
use mathlib.Core.Bool.{Bool, true, false, and-false}
use mathlib.Core.List.{List, [], ◌∷◌}
use Prim.Native.Nat.{ℕ, ◌+◌, ◌*◌, ◌/◌, ◌%◌, ◌<◌}
use native.Mathlib.Omega.{arith}
use native.Mathlib.Numerals.{add-one, add-two}
use borrow.Author.Tests.{lt-ltb}
use lib.Dec.{ltb, eqb}
use lib.ListN.{length, get_or, set, drop}
use lib.Seq.{sets, drop-cons, drop-length}
use Rattle.std.specs.Prelude.{Option, Some, is_some}
use Rattle.std.specs.Option.{option_eq}
use Rattle.std.proofs.lemmas.Grind.{common_steps}
use Rattle.network.specs.Mask.{all_below}
use Rattle.network.proofs.Booleans.{by_test, eqb_no}
use Rattle.network.proofs.BelowLaws.{all_fails}
use Rattle.frame.specs.Hex.{hex_digit}
use Rattle.frame.specs.Frame.{frame_text}
use Rattle.frame.specs.ReadFrame.{if_below, byte_at, whole}

-- ---- a frame read

-- what the code has of a number is that number, or is missing where it is too high
pub below_some : {n v w : ℕ} → if_below n v ≡ Some w → (v < n) × (v ≡ w)
below_some {n} {v} e = grind (arith, common_steps)

pub below_is : (n v : ℕ) {r : Option ℕ} {b : Bool} → r ≡ if_below n v → is_some r ≡ b → ltb v n ≡ b
below_is n v e f = by_test (ltb v n) (λ t. rw t (rw (e, t) at f)) (λ z. rw z (rw (e, z) at f))

pub below_eq : (n v w : ℕ) → w < n → option_eq eqb (if_below n v) (Some w) ≡ eqb v w
below_eq n v w h = by_test (ltb v n) (λ t. rw t) (λ f. rw f (sym (eqb_no v w (λ e. let k = lt-ltb w n h in cc))))

module _ (kind n : ℕ) (s : List ℕ) where
  pub other_kind : eqb (byte_at s 0) kind ≡ false → whole kind n s ≡ false
  unfolding whole
  other_kind z = rw z

  pub no_byte : (k : ℕ) → k < n → ltb (byte_at s k) 256 ≡ false → whole kind n s ≡ false
  unfolding whole
  no_byte k h z = simp (all_fails (λ k. ltb (byte_at s k) 256) n k h z, and-false)

  pub up_to_feed :
      eqb (byte_at s 0) kind ≡ true → all_below n (λ k. ltb (byte_at s k) 256) ≡ true → eqb (get_or s (2 * n) 0) 10 ≡ whole kind n s
  unfolding whole
  up_to_feed y all = rw (y, all)

-- ---- a frame written

-- the code takes the remainder of every digit
pub high_digit : (b : ℕ) → b < 256 → hex_digit (b / 16 % 16) ≡ hex_digit (b / 16)
high_digit b h = let e : b / 16 % 16 ≡ b / 16 = omega arith in rw e

-- the two digits of a byte, as lib.Seq stores a list: the next place is `suc i` there and `i + 1` in the code
pub put_two : (xs : List ℕ) (i : ℕ) {h l h' l' : ℕ} → h ≡ h' → l ≡ l' → set (set xs i h) (i + 1) l ≡ sets xs i (h' ∷ l' ∷ [])
put_two xs i e f = rw (e, f, add-one)

-- the frame's bytes from k on, stored from the place of byte k on
module _ (bytes xs : List ℕ) (at k : ℕ) where
  pub put_next :
      k < length bytes →
      sets xs (at + 2 * k) (frame_text (drop k bytes))
      ≡ sets (sets xs (at + 2 * k) (hex_digit (get_or bytes k 0 / 16) ∷ hex_digit (get_or bytes k 0 % 16) ∷ [])) (at + 2 * (k + 1))
      (frame_text (drop (k + 1) bytes))
  put_next h = let e : at + 2 * (k + 1) ≡ at + 2 * k + 2 = omega arith in rw (e, drop-cons bytes k 0 h, add-two, add-one)

  pub put_feed : k ≡ length bytes → sets xs (at + 2 * k) (frame_text (drop k bytes)) ≡ set xs (at + 2 * k) 10
  put_feed e = rw (e, drop-length)
