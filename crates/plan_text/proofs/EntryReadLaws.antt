-- Laws of reading one frame of a plan text: fine, or which fault. Only the checker need believe this file.
use mathlib.Core.Path.{◌≡◌, ◌∙◌}
use mathlib.Core.Logic.{◌↔◌}
use mathlib.Core.Bool.{true, false, ◌&&◌}
use mathlib.Core.List.{List, [], ◌∷◌, ◌++◌}
use Prim.Native.Nat.{ℕ, ◌+◌, ◌*◌, ◌/◌, ◌%◌, ◌<◌}
use native.Mathlib.Omega.{arith}
use lib.Dec.{eqb, lit<}
use lib.ListN.{get_or, drop, replicate}
use Rattle.network.proofs.Booleans.{says_eq, ◌also◌, false_exactly}
use Rattle.plan.specs.declared.Letter.{Letter}
use Rattle.plan.specs.declared.Constraint.{Constraint}
use Rattle.plan.specs.declared.Plan.{Plan}
use Rattle.plan.specs.declared.Refusal.TheVariants as refusal
use Rattle.plan.specs.Refusal.{refusal_number}
use Rattle.plan.specs.Answer.{fine}
use Rattle.plan.specs.Plan.{zero_letter, zero_constraint, zero_plan, listed}
use Rattle.plan.specs.WellFormed.{FineHead, FineConstraint}
use Rattle.plan.proofs.AnswerLaws.{answered_fault}
use Rattle.judge.specs.Judge.{letter_fine, constraint_fine}
use Rattle.judge.proofs.JudgeLaws.{head_of}
use Rattle.judge.proofs.WellFormedLaws.{head_exactly, says_constraint}
use Rattle.frame.specs.ReadFrame.{frame_length, value_at, whole}
use Rattle.frame.proofs.FrameLaws.{bytes, bytes_more, value_back, whole_back, whole_said}
use Rattle.frame.proofs.RunLaws.{frame_broken, frame_bad, frame_read}
use Rattle.plan_text.specs.PlanText.{head_text, letter_text, constraint_text}
use Rattle.plan_text.specs.ReadPlan.{head_in, head_fault, read_head, letter_in, with_letter, letter_fault, read_letter, constraint_in, with_constraint, constraint_fault, read_constraint}
use Rattle.plan_text.specs.FirstFault.{FineLetter, HeadBytes, LetterBytes, ConstraintBytes}
use Rattle.plan_text.proofs.EntryLaws.{blank, letter_exactly}

-- ---- the frame at the front of s

module _ (s : List ℕ) where
  pub head_broken : whole 1 5 s ≡ false → (read_head s).fault ≡ refusal_number refusal.PlanText
  unfolding read_head
  head_broken z = answered_fault zero_plan (head_fault s) (head_in s) ∙ frame_broken refusal.PlanText refusal.Head (head_of (head_in s)) z

  pub head_bad : whole 1 5 s ≡ true → ¬ FineHead (head_in s) → (read_head s).fault ≡ refusal_number refusal.Head
  unfolding read_head
  head_bad w n =
      answered_fault zero_plan (head_fault s) (head_in s)
      ∙ frame_bad refusal.PlanText refusal.Head w ((false_exactly (head_exactly (head_in s))).1 n)

  pub head_read : whole 1 5 s ≡ true → FineHead (head_in s) → read_head s ≡ fine (head_in s)
  unfolding read_head
  head_read w f = frame_read zero_plan refusal.PlanText refusal.Head (head_in s) w ((head_exactly (head_in s)).1 f)

  -- a whole frame is the text of what it says
  pub head_said : whole 1 5 s ≡ true → s ≡ head_text (head_in s) ++ drop (frame_length 5) s
  unfolding listed
  head_said w = whole_said 1 4 s (lit< tt) w

  pub letter_said : whole 2 4 s ≡ true → s ≡ letter_text (value_at s 1) (letter_in s) ++ drop (frame_length 4) s
  unfolding listed
  letter_said w = whole_said 2 3 s (lit< tt) w

  pub constraint_said : whole 3 7 s ≡ true → s ≡ constraint_text (constraint_in s) ++ drop (frame_length 7) s
  unfolding listed
  constraint_said w =
      let high : (256 * value_at s 3 + value_at s 4) / 256 ≡ value_at s 3 = omega arith in
      let low : (256 * value_at s 3 + value_at s 4) % 256 ≡ value_at s 4 = omega arith in
      rw (high, low) (whole_said 3 6 s (lit< tt) w)

  -- and what it says are bytes
  pub head_in_bytes : HeadBytes (head_in s)
  head_in_bytes = bytes (value_at s 1 ∷ value_at s 2 ∷ value_at s 3 ∷ value_at s 4 ∷ []) (omega arith)

  pub letter_in_bytes : LetterBytes (value_at s 1) (letter_in s)
  letter_in_bytes = bytes (value_at s 1 ∷ value_at s 2 ∷ value_at s 3 ∷ []) (omega arith)

  pub constraint_in_bytes : ConstraintBytes (constraint_in s)
  constraint_in_bytes =
      let bound = 256 * value_at s 3 + value_at s 4 in
      bytes (value_at s 1 ∷ value_at s 2 ∷ bound / 256 ∷ bound % 256 ∷ value_at s 5 ∷ value_at s 6 ∷ []) (omega arith)

  -- letter i of p
  module _ (p : Plan) (i : ℕ) where
    -- it says that it is letter i, and a fine one
    abbrev pub GoodLetter : Type 0
    GoodLetter = (value_at s 1 ≡ i) × FineLetter p i (letter_in s)

    letter_good : ((eqb (value_at s 1) i && letter_fine p i (letter_in s)) ≡ true) ↔ GoodLetter
    letter_good = says_eq (value_at s 1) i also letter_exactly p i (letter_in s)

    pub letter_broken : whole 2 4 s ≡ false → (read_letter p i s).fault ≡ refusal_number refusal.PlanText
    unfolding read_letter
    letter_broken z =
        answered_fault zero_plan (letter_fault p i s) (with_letter p i (letter_in s))
        ∙ frame_broken refusal.PlanText refusal.Letters (eqb (value_at s 1) i && letter_fine p i (letter_in s)) z

    pub letter_bad : whole 2 4 s ≡ true → ¬ GoodLetter → (read_letter p i s).fault ≡ refusal_number refusal.Letters
    unfolding read_letter
    letter_bad w n =
        answered_fault zero_plan (letter_fault p i s) (with_letter p i (letter_in s))
        ∙ frame_bad refusal.PlanText refusal.Letters w ((false_exactly letter_good).1 n)

    pub letter_read : whole 2 4 s ≡ true → GoodLetter → read_letter p i s ≡ fine (with_letter p i (letter_in s))
    unfolding read_letter
    letter_read w g = frame_read zero_plan refusal.PlanText refusal.Letters (with_letter p i (letter_in s)) w (letter_good.1 g)

    pub constraint_broken : whole 3 7 s ≡ false → (read_constraint p i s).fault ≡ refusal_number refusal.PlanText
    unfolding read_constraint
    constraint_broken z =
        answered_fault zero_plan (constraint_fault p s) (with_constraint p i (constraint_in s))
        ∙ frame_broken refusal.PlanText refusal.Constraints (constraint_fine p (constraint_in s)) z

    pub constraint_bad : whole 3 7 s ≡ true → ¬ FineConstraint p (constraint_in s) → (read_constraint p i s).fault ≡ refusal_number refusal.Constraints
    unfolding read_constraint
    constraint_bad w n =
        answered_fault zero_plan (constraint_fault p s) (with_constraint p i (constraint_in s))
        ∙ frame_bad refusal.PlanText refusal.Constraints w ((false_exactly (says_constraint p (constraint_in s))).1 n)

    pub constraint_read :
        whole 3 7 s ≡ true → FineConstraint p (constraint_in s) → read_constraint p i s ≡ fine (with_constraint p i (constraint_in s))
    unfolding read_constraint
    constraint_read w f =
        frame_read zero_plan refusal.PlanText refusal.Constraints (with_constraint p i (constraint_in s)) w
        ((says_constraint p (constraint_in s)).1 f)

-- ---- a frame that was written, behind which r stands: it is whole, and says what was written

pub head_back :
    (p : Plan) (r : List ℕ) → HeadBytes p → (whole 1 5 (head_text p ++ r) ≡ true) × (head_in (head_text p ++ r) ≡ blank p)
head_back p r h =
    let bs : List ℕ = p.horizon ∷ p.points ∷ p.letters ∷ p.constraints ∷ [] in
    let s = head_text p ++ r in
    let b = bytes_more 1 bs (lit< tt) h in
    let v : (k : ℕ) → k < 5 → value_at s k ≡ get_or (1 ∷ bs) k 0 = value_back (1 ∷ bs) r b in (
      whole_back 1 bs r b,
      λ i. record {
        horizon = v 1 (lit< tt) i;
        points = v 2 (lit< tt) i;
        letters = v 3 (lit< tt) i;
        constraints = v 4 (lit< tt) i;
        letter = replicate 6 zero_letter;
        constraint = replicate 64 zero_constraint;
      },
    )

pub letter_back :
    (k : ℕ) (l : Letter) (r : List ℕ) → LetterBytes k l →
    let s = letter_text k l ++ r in
    (whole 2 4 s ≡ true) × (value_at s 1 ≡ k) × (letter_in s ≡ l)
letter_back n l r h =
    let bs : List ℕ = n ∷ l.point ∷ l.kind ∷ [] in
    let s = letter_text n l ++ r in
    let b = bytes_more 2 bs (lit< tt) h in
    let v : (k : ℕ) → k < 4 → value_at s k ≡ get_or (2 ∷ bs) k 0 = value_back (2 ∷ bs) r b in
    (whole_back 2 bs r b, v 1 (lit< tt), λ i. record { point = v 2 (lit< tt) i; kind = v 3 (lit< tt) i })

pub constraint_back :
    (c : Constraint) (r : List ℕ) → ConstraintBytes c →
    let s = constraint_text c ++ r in
    (whole 3 7 s ≡ true) × (constraint_in s ≡ c)
constraint_back c r h =
    let bs : List ℕ = c.from ∷ c.to ∷ c.bound / 256 ∷ c.bound % 256 ∷ c.need ∷ c.truth ∷ [] in
    let s = constraint_text c ++ r in
    let b = bytes_more 3 bs (lit< tt) h in
    let v : (k : ℕ) → k < 7 → value_at s k ≡ get_or (3 ∷ bs) k 0 = value_back (3 ∷ bs) r b in
    let bound : 256 * value_at s 3 + value_at s 4 ≡ c.bound = rw (v 3 (lit< tt), v 4 (lit< tt)) (omega arith) in (
      whole_back 3 bs r b,
      λ i. record { from = v 1 (lit< tt) i; to = v 2 (lit< tt) i; bound = bound i; need = v 5 (lit< tt) i; truth = v 6 (lit< tt) i },
    )
