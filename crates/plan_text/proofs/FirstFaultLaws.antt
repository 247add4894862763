-- Laws of the first faulty frame: its number is the fault of the text. Only the checker need believe this file.
use mathlib.Core.Path.{◌≡◌, refl, sym, ap, ◌∙◌}
use mathlib.Core.List.{List, ◌∷◌, ◌++◌, append_assoc}
use Prim.Native.Nat.{ℕ, ◌<◌}
use native.Mathlib.Omega.{arith}
use lib.ListN.{drop}
use Rattle.network.proofs.Booleans.{false_exactly}
use Rattle.plan.specs.declared.Letter.{Letter}
use Rattle.plan.specs.declared.Constraint.{Constraint}
use Rattle.plan.specs.declared.Plan.{Plan}
use Rattle.plan.specs.declared.Refusal.{Refusal}
use Rattle.plan.specs.declared.Refusal.TheVariants as refusal
use Rattle.plan.specs.Refusal.{refusal_number}
use Rattle.plan.specs.Answer.{Answer}
use Rattle.plan.specs.Plan.{zero_letter, zero_plan}
use Rattle.plan.specs.WellFormed.{FineHead, FineConstraint}
use Rattle.plan.proofs.RefusalLaws.{no_refusal}
use Rattle.frame.specs.ReadFrame.{frame_length}
use Rattle.frame.specs.Texts.{at_end}
use Rattle.frame.proofs.FrameLaws.{whole_exactly}
use Rattle.frame.proofs.RunLaws.{then_refused, frames_refused, frames_end, at_end_extra}
use Rattle.plan_text.specs.PlanText.{head_text, letter_text, constraint_text}
use Rattle.plan_text.specs.ReadPlan.{read_head, read_letter, read_constraint, read_constraints, read_letters, read_plan}
use Rattle.plan_text.specs.FirstFault.{FineLetter, FineFront, HeadBytes, LetterBytes, ConstraintBytes, FirstFault, in_head_frame, in_head_values, in_letter_frame, in_letter_values, in_constraint_frame, in_constraint_values, extra}
use Rattle.plan_text.specs.PlanText.{front_text}
use Rattle.plan_text.proofs.FilledLaws.{front_same}
use Rattle.plan_text.proofs.EntryLaws.{blank, head_alike, letter_earlier, constraint_over}
use Rattle.plan_text.proofs.EntryReadLaws.{head_broken, head_bad, letter_broken, letter_bad, constraint_broken, constraint_bad, head_back, letter_back, constraint_back}
use Rattle.plan_text.proofs.ReadBackLaws.{letters_read, constraints_read, letters_reached, constraints_reached}

-- ---- the head

head_refused : (t : List ℕ) (k : Refusal) → (read_head t).fault ≡ refusal_number k → (read_plan t).fault ≡ refusal_number k
unfolding read_plan
head_refused t k e = then_refused k (read_head t) (λ p. read_letters p (drop (frame_length 5) t)) e

head_values : (p : Plan) (r : List ℕ) → HeadBytes p → ¬ FineHead p → (read_head (head_text p ++ r)).fault ≡ refusal_number refusal.Head
head_values p r b n =
    let (w, is) = head_back p r b in
    head_bad (head_text p ++ r) w (λ f. n (head_alike (blank p) p.letter p.constraint (rw is at f)))

-- ---- a letter

module _ (p : Plan) (i : ℕ) (f : FineFront p i 0) (lt : i < p.letters) where
  letter_refused :
      (k : Refusal) (r : List ℕ) → (read_letter (letters_read p i) i r).fault ≡ refusal_number k →
      (read_plan (front_text p i 0 ++ r)).fault ≡ refusal_number k
  letter_refused k r e =
      ap (λ (a : Answer Plan). a.fault) (letters_reached p i r f (omega arith))
      ∙ frames_refused read_letter 4 read_constraints k p.letters i (letters_read p i) r lt e

  letter_values :
      (k : ℕ) (l : Letter) (r : List ℕ) → LetterBytes k l → ¬ ((k ≡ i) × FineLetter p i l) →
      (read_letter (letters_read p i) i (letter_text k l ++ r)).fault ≡ refusal_number refusal.Letters
  letter_values k l r b n =
      let few = f.head.letters in
      let (w, number, is) = letter_back k l r b in
      letter_bad (letter_text k l ++ r) (letters_read p i) i w (λ g. n (
        sym number ∙ g.0,
        letter_earlier (letters_read p i) p i l refl (front_same zero_letter 6 p.letter i (omega arith)) (rw is at g.1),
      ))

-- ---- a constraint

module _ (p : Plan) (j : ℕ) (f : FineFront p p.letters j) (lt : j < p.constraints) where
  constraint_refused :
      (k : Refusal) (r : List ℕ) → (read_constraint (constraints_read p j) j r).fault ≡ refusal_number k →
      (read_plan (front_text p p.letters j ++ r)).fault ≡ refusal_number k
  constraint_refused k r e =
      ap (λ (a : Answer Plan). a.fault) (constraints_reached p j r f (omega arith))
      ∙ frames_refused read_constraint 7 (at_end zero_plan refusal.PlanText) k p.constraints j (constraints_read p j) r lt e

  constraint_values :
      (c : Constraint) (r : List ℕ) → ConstraintBytes c → ¬ FineConstraint p c →
      (read_constraint (constraints_read p j) j (constraint_text c ++ r)).fault ≡ refusal_number refusal.Constraints
  constraint_values c r b n =
      let (w, is) = constraint_back c r b in
      constraint_bad (constraint_text c ++ r) (constraints_read p j) j w
      (λ g. n (constraint_over (constraints_read p j) p c refl refl (rw is at g)))

-- ---- behind the last

something_left :
    (p : Plan) (c : ℕ) (r : List ℕ) → FineFront p p.letters p.constraints →
    (read_plan (front_text p p.letters p.constraints ++ c ∷ r)).fault ≡ refusal_number refusal.PlanText
something_left p c r f =
    let n = p.constraints in
    let end = at_end zero_plan refusal.PlanText in
    ap (λ (a : Answer Plan). a.fault)
    (constraints_reached p n (c ∷ r) f (omega arith) ∙ frames_end read_constraint 7 end n n (constraints_read p n) (c ∷ r) (omega arith))
    ∙ at_end_extra zero_plan refusal.PlanText (constraints_read p n) c r

-- ---- each number

pub never_none : (t : List ℕ) (n : ℕ) → FirstFault t n → n ≡ 0 → ⊥
never_none t n (in_head_frame rest z) e = no_refusal refusal.PlanText e
never_none t n (in_head_values p rest b bad) e = no_refusal refusal.Head e
never_none t n (in_letter_frame p i rest f lt z) e = no_refusal refusal.PlanText e
never_none t n (in_letter_values p i k l rest f lt b bad) e = no_refusal refusal.Letters e
never_none t n (in_constraint_frame p j rest f lt z) e = no_refusal refusal.PlanText e
never_none t n (in_constraint_values p j c rest f lt b bad) e = no_refusal refusal.Constraints e
never_none t n (extra p c rest f) e = no_refusal refusal.PlanText e

pub fault_is : (t : List ℕ) (n : ℕ) → FirstFault t n → (read_plan t).fault ≡ n
fault_is t n (in_head_frame rest z) = head_refused rest refusal.PlanText (head_broken rest ((false_exactly (whole_exactly 1 4 rest (omega arith))).1 z))
fault_is t n (in_head_values p rest b bad) = head_refused (head_text p ++ rest) refusal.Head (head_values p rest b bad)
fault_is t n (in_letter_frame p i rest f lt z) =
    letter_refused p i f lt refusal.PlanText rest (letter_broken rest (letters_read p i) i ((false_exactly (whole_exactly 2 3 rest (omega arith))).1 z))
fault_is t n (in_letter_values p i k l rest f lt b bad) =
    ap (λ (s : List ℕ). (read_plan s).fault) (append_assoc (front_text p i 0) (letter_text k l) rest)
    ∙ letter_refused p i f lt refusal.Letters (letter_text k l ++ rest) (letter_values p i f lt k l rest b bad)
fault_is t n (in_constraint_frame p j rest f lt z) =
    constraint_refused p j f lt refusal.PlanText rest (constraint_broken rest (constraints_read p j) j ((false_exactly (whole_exactly 3 6 rest (omega arith))).1 z))
fault_is t n (in_constraint_values p j c rest f lt b bad) =
    ap (λ (s : List ℕ). (read_plan s).fault) (append_assoc (front_text p p.letters j) (constraint_text c) rest)
    ∙ constraint_refused p j f lt refusal.Constraints (constraint_text c ++ rest) (constraint_values p j f lt c rest b bad)
fault_is t n (extra p c rest f) = something_left p c rest f
