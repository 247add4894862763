-- Laws of the writer of plan texts: its three parts put one behind the other, what is answered and what is left in the buffer. Only the
-- checker need believe this file.
use mathlib.Core.Path.{◌≡◌, refl, sym}
use mathlib.Core.List.{List}
use Prim.Native.Nat.{ℕ, ◌+◌, ◌*◌, ◌≤◌, ◌<◌}
use lib.ListN.{length}
use lib.Seq.{sets}
use Rattle.network.proofs.JoinLaws.{join_length}
use Rattle.std.specs.Prelude.{Result, Ok, Err}
use Rattle.plan.specs.declared.Plan.{Plan}
use Rattle.plan.specs.declared.Refusal.{Refusal}
use Rattle.plan.specs.declared.Refusal.TheVariants as refusal
use Rattle.plan.specs.Refusal.{refusal_number}
use Rattle.plan.specs.Plan.{letter_at, constraint_at}
use Rattle.judge.specs.Judge.{plan_fault}
use Rattle.frame.specs.Written.{written_answer}
use Rattle.frame.proofs.WritingLaws.{sets_append, write_refused, write_short, write_done}
use Rattle.plan_text.specs.PlanText.{head_text, letter_text, constraint_text, plan_text}
use Rattle.plan_text.specs.WritePlan.{letters_text, constraints_text}
use Rattle.plan_text.specs.WritePlan.{write_plan, write_plan_leaves}
use Rattle.plan_text.proofs.LengthLaws.{plan_length_lem}

module _ (p : Plan) where
  abbrev pub letter_text_lem : ℕ → List ℕ
  letter_text_lem i = letter_text i (letter_at p i)

  abbrev pub constraint_text_lem : ℕ → List ℕ
  constraint_text_lem j = constraint_text (constraint_at p j)

  letters_length : length (letters_text p) ≡ 9 * p.letters
  letters_length = join_length p.letters 9 letter_text_lem (λ i lt. refl)

  -- ---- what is answered, and what is left in the buffer

  abbrev size : ℕ
  size = 11 + 9 * p.letters + 15 * p.constraints

  module _ (xs : List ℕ) where
    -- the three parts stored one after the other
    abbrev put : List ℕ
    put = sets (sets (sets xs 0 (head_text p)) 11 (letters_text p)) (11 + 9 * p.letters) (constraints_text p)

    plan_put : put ≡ sets xs 0 (plan_text p)
    unfolding plan_text
    plan_put = sym (rw letters_length at (sets_append (sets xs 0 (head_text p)) 11 (letters_text p) (constraints_text p)))

    abbrev Answers : Result ℕ Refusal → List ℕ → Type 0
    Answers r ys = (written_answer r ≡ write_plan p xs) × (ys ≡ write_plan_leaves p xs)

    pub plan_refused : (r : Refusal) → refusal_number r ≡ plan_fault p → written_answer (Err r) ≡ write_plan p xs
    unfolding write_plan
    plan_refused r e = (write_refused (plan_fault p) (plan_text p) xs r e).0

    pub plan_short_lem : 0 ≡ plan_fault p → length xs < size → Answers (Err refusal.Buffer) xs
    unfolding write_plan
    plan_short_lem e h = write_short (plan_fault p) (plan_text p) xs e (rw (plan_length_lem p) h)

    pub plan_written_lem : 0 ≡ plan_fault p → size ≤ length xs → Answers (Ok size) put
    unfolding write_plan
    plan_written_lem e h = rw (plan_put, ← plan_length_lem p) (write_done (plan_fault p) (plan_text p) xs e (rw (plan_length_lem p) h))
