-- Definitions: the plan that a text says, or the number of its first faulty frame. Computed: pinned by `read_exactly` of
-- plan_text/proofs/PlanTextTheorems.antt.
use Rattle.std.specs.Prelude.{◌&&◌, List, ℕ, ◌+◌, ◌*◌, eqb, set, drop}
use Rattle.plan.specs.declared.Letter.{Letter}
use Rattle.plan.specs.declared.Constraint.{Constraint}
use Rattle.plan.specs.declared.Plan.{Plan}
use Rattle.plan.specs.declared.Refusal.TheVariants as refusal
use Rattle.plan.specs.Answer.{Answer}
use Rattle.plan.specs.Faults.{answered, and_then}
use Rattle.plan.specs.Plan.{zero_plan}
use Rattle.judge.specs.Judge.{head_fine, letter_fine, constraint_fine}
use Rattle.frame.specs.ReadFrame.{frame_length, value_at, whole}
use Rattle.frame.specs.Texts.{frame_fault, frames_from, at_end}

-- ---- the head

-- the plan with the head that stands at the front of s, and nothing else
abbrev pub head_in : List ℕ → Plan
head_in s =
    record {
      horizon = value_at s 1;
      points = value_at s 2;
      letters = value_at s 3;
      constraints = value_at s 4;
      letter = zero_plan.letter;
      constraint = zero_plan.constraint;
    }

abbrev pub head_fault : List ℕ → ℕ
head_fault s =
    frame_fault refusal.PlanText (whole 1 5 s) refusal.Head (head_fine (value_at s 1) (value_at s 2) (value_at s 3) (value_at s 4))

unfoldable pub read_head : List ℕ → Answer Plan
read_head s = answered zero_plan (head_fault s) (head_in s)

-- ---- a letter

abbrev pub letter_in : List ℕ → Letter
letter_in s = record { point = value_at s 2; kind = value_at s 3 }

abbrev pub with_letter : Plan → ℕ → Letter → Plan
with_letter p i l =
    record {
      horizon = p.horizon;
      points = p.points;
      letters = p.letters;
      constraints = p.constraints;
      letter = set p.letter i l;
      constraint = p.constraint;
    }

abbrev pub letter_fault : Plan → ℕ → List ℕ → ℕ
letter_fault p i s =
    frame_fault refusal.PlanText (whole 2 4 s) refusal.Letters (eqb (value_at s 1) i && letter_fine p i (letter_in s))

-- letter i into the plan that was read so far
unfoldable pub read_letter : Plan → ℕ → List ℕ → Answer Plan
read_letter p i s = answered zero_plan (letter_fault p i s) (with_letter p i (letter_in s))

-- ---- a constraint

abbrev pub constraint_in : List ℕ → Constraint
constraint_in s =
    record {
      from = value_at s 1;
      to = value_at s 2;
      bound = 256 * value_at s 3 + value_at s 4;
      need = value_at s 5;
      truth = value_at s 6;
    }

abbrev pub with_constraint : Plan → ℕ → Constraint → Plan
with_constraint p j c =
    record {
      horizon = p.horizon;
      points = p.points;
      letters = p.letters;
      constraints = p.constraints;
      letter = p.letter;
      constraint = set p.constraint j c;
    }

abbrev pub constraint_fault : Plan → List ℕ → ℕ
constraint_fault p s = frame_fault refusal.PlanText (whole 3 7 s) refusal.Constraints (constraint_fine p (constraint_in s))

-- constraint j into the plan that was read so far
unfoldable pub read_constraint : Plan → ℕ → List ℕ → Answer Plan
read_constraint p j s = answered zero_plan (constraint_fault p s) (with_constraint p j (constraint_in s))

-- ---- the plan: one head, its letters, its constraints, and nothing more; the first faulty frame decides

abbrev pub read_constraints : Plan → List ℕ → Answer Plan
read_constraints p s = frames_from read_constraint 7 (at_end zero_plan refusal.PlanText) p.constraints 0 p s

abbrev pub read_letters : Plan → List ℕ → Answer Plan
read_letters p s = frames_from read_letter 4 read_constraints p.letters 0 p s

unfoldable pub read_plan : List ℕ → Answer Plan
read_plan s = and_then (read_head s) (λ p. read_letters p (drop (frame_length 5) s))
