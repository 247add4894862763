-- Laws of texts that are written into a lent buffer: frame after frame, and what is answered and left there. The texts of plans and of
-- trees are written alike. Only the checker need believe this file.
use mathlib.Core.Path.{◌≡◌}
use mathlib.Core.List.{List, [], ◌∷◌, ◌++◌}
use Prim.Native.Nat.{ℕ, suc, ◌+◌, ◌*◌, ◌≤◌, ◌<◌}
use native.Mathlib.Omega.{arith}
use native.Mathlib.Nat.{zero-add, add-zero, suc-add, add-suc}
use native.Mathlib.Numerals.{add-one}
use borrow.Author.Tests.{le-leb, lt-leb}
use lib.ListN.{length, set}
use lib.Seq.{sets, sets-eq}
use Rattle.network.specs.Mask.{join_below}
use Rattle.network.proofs.JoinLaws.{join_length}
use Rattle.plan.specs.declared.Refusal.{Refusal}
use Rattle.plan.specs.declared.Refusal.TheVariants as refusal
use Rattle.plan.specs.Refusal.{refusal_number}
use Rattle.plan.specs.Answer.{Answer}
use Rattle.plan.specs.Faults.{unless, first, answered, filled}
use Rattle.plan.proofs.RefusalLaws.{some_number}
use Rattle.std.specs.Prelude.{Result, Ok, Err}
use Rattle.frame.specs.Texts.{room_fault}
use Rattle.frame.specs.Written.{written_answer}

-- ---- stores, one run after another

pub sets_append : (xs : List ℕ) (i : ℕ) (a b : List ℕ) → sets xs i (a ++ b) ≡ sets (sets xs i a) (i + length a) b
sets_append xs i [] b = rw add-zero
sets_append xs i (x ∷ a) b = rw (sets_append (set xs i x) (suc i) a b, suc-add, add-suc)

-- lists that all have the length m
module _ (f : ℕ → List ℕ) (m : ℕ) (each : (i : ℕ) → length (f i) ≡ m) where
  -- as a loop stores them
  pub join_next :
      {ys : List ℕ} (xs : List ℕ) (from at i : ℕ) → at ≡ from + m * i → ys ≡ sets (sets xs from (join_below i f)) at (f i) →
      ys ≡ sets xs from (join_below (i + 1) f)
  unfolding join_below
  join_next xs from at i e y = rw (add-one, sets_append, join_length i m f (λ k lt. each k), ← e) y

-- ---- what is answered, and what is left in the buffer

-- where `fault` is judged before the room
abbrev pub writes : ℕ → List ℕ → List ℕ → Answer ℕ
writes fault text xs = answered 0 (first fault (room_fault text xs)) (length text)

-- the answer r was given and ys left in the buffer that was xs
abbrev pub Wrote : ℕ → List ℕ → List ℕ → Result ℕ Refusal → List ℕ → Type 0
Wrote fault text xs r ys = (written_answer r ≡ writes fault text xs) × (ys ≡ filled (writes fault text xs).fault text xs)

module _ (fault : ℕ) (text xs : List ℕ) where
  pub write_refused : (r : Refusal) → refusal_number r ≡ fault → Wrote fault text xs (Err r) xs
  unfolding first answered filled
  write_refused r e = (rw (← e) (simp (some_number r)), rw (← e) (simp (some_number r)))

  pub write_short : 0 ≡ fault → length xs < length text → Wrote fault text xs (Err refusal.Buffer) xs
  unfolding unless first answered filled
  write_short e h = let no_room = lt-leb (length text) (length xs) h in (rw (← e, no_room), rw (← e, no_room))

  pub write_done : 0 ≡ fault → length text ≤ length xs → Wrote fault text xs (Ok (length text)) (sets xs 0 text)
  unfolding unless first answered filled
  write_done e h =
      let room = le-leb (length text) (length xs) h in
      (rw (← e, room), rw (← e, room) (rw zero-add at (sets-eq text xs 0 (omega arith))))
