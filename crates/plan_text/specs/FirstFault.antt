-- Definitions: the first faulty frame of a plan text, and its number. They go by what is written, and not by how a text is read. That a text
-- is refused with a number exactly by it is `refused_exactly` of proofs/PlanTextTheorems.antt. To be believed, for demand 1.
use Rattle.std.specs.Prelude.{◌≡◌, List, [], ◌∷◌, ◌++◌, ℕ, ◌/◌, ◌%◌, ◌≤◌, ◌<◌}
use Rattle.plan.specs.declared.Letter.{Letter}
use Rattle.plan.specs.declared.Constraint.{Constraint}
use Rattle.plan.specs.declared.Plan.{Plan}
use Rattle.plan.specs.declared.Refusal.TheVariants as refusal
use Rattle.plan.specs.Refusal.{refusal_number}
use Rattle.plan.specs.Plan.{letter_at, constraint_at}
use Rattle.plan.specs.WellFormed.{FineHead, FineConstraint}
use Rattle.frame.specs.Frame.{Bytes, Begins}
use Rattle.plan_text.specs.PlanText.{head_text, letter_text, constraint_text, front_text}

-- ---- the frames before it

-- letter i of a plan can be l: it has a point of the plan, which no earlier letter has, and is a condition or a decision
pub record FineLetter (p : Plan) (i : ℕ) (l : Letter) : Type 0 where
  pub disclosing : l.point < p.points
  pub own_point : (k : ℕ) → k < i → ¬ ((letter_at p k).point ≡ l.point)
  pub kind : l.kind ≤ 1

-- the head, the first i letters and the first j constraints of p are fine, whatever its other entries are
pub record FineFront (p : Plan) (i j : ℕ) : Type 0 where
  pub head : FineHead p
  pub letter : (k : ℕ) → k < i → FineLetter p k (letter_at p k)
  pub constraint : (k : ℕ) → k < j → FineConstraint p (constraint_at p k)

-- ---- the first faulty frame

-- what a frame says are bytes
abbrev pub HeadBytes : Plan → Type 0
HeadBytes p = Bytes (p.horizon ∷ p.points ∷ p.letters ∷ p.constraints ∷ [])

abbrev pub LetterBytes : ℕ → Letter → Type 0
LetterBytes k l = Bytes (k ∷ l.point ∷ l.kind ∷ [])

abbrev pub ConstraintBytes : Constraint → Type 0
ConstraintBytes c = Bytes (c.from ∷ c.to ∷ c.bound / 256 ∷ c.bound % 256 ∷ c.need ∷ c.truth ∷ [])

-- The first faulty frame of a text, and its number: 1 where no whole frame of the kind and length stands in its place, and only else the number
-- of its values. Before it stand fine frames of a plan p; whatever follows is in `rest`, of which nothing more is asked.
pub data FirstFault : List ℕ → ℕ → Type 0 where
  -- 1: the text does not begin with a head
  in_head_frame : (rest : List ℕ) → ¬ Begins 1 4 rest → FirstFault rest (refusal_number refusal.PlanText)
  -- 2: it does, with a value outside its range
  in_head_values :
      (p : Plan) (rest : List ℕ) → HeadBytes p → ¬ FineHead p → FirstFault (head_text p ++ rest) (refusal_number refusal.Head)
  -- 1: behind i letters of more stands none
  in_letter_frame :
      (p : Plan) (i : ℕ) (rest : List ℕ) → FineFront p i 0 → i < p.letters → ¬ Begins 2 3 rest →
      FirstFault (front_text p i 0 ++ rest) (refusal_number refusal.PlanText)
  -- 3: one does, number k, which is out of order or not fine
  in_letter_values :
      (p : Plan) (i k : ℕ) (l : Letter) (rest : List ℕ) → FineFront p i 0 → i < p.letters → LetterBytes k l →
      ¬ ((k ≡ i) × FineLetter p i l) → FirstFault (front_text p i 0 ++ letter_text k l ++ rest) (refusal_number refusal.Letters)
  -- 1: behind all letters and j constraints of more stands none
  in_constraint_frame :
      (p : Plan) (j : ℕ) (rest : List ℕ) → FineFront p p.letters j → j < p.constraints → ¬ Begins 3 6 rest →
      FirstFault (front_text p p.letters j ++ rest) (refusal_number refusal.PlanText)
  -- 4: one does, which is not fine
  in_constraint_values :
      (p : Plan) (j : ℕ) (c : Constraint) (rest : List ℕ) → FineFront p p.letters j → j < p.constraints → ConstraintBytes c →
      ¬ FineConstraint p c → FirstFault (front_text p p.letters j ++ constraint_text c ++ rest) (refusal_number refusal.Constraints)
  -- 1: something stands behind the last constraint
  extra :
      (p : Plan) (c : ℕ) (rest : List ℕ) → FineFront p p.letters p.constraints →
      FirstFault (front_text p p.letters p.constraints ++ c ∷ rest) (refusal_number refusal.PlanText)
