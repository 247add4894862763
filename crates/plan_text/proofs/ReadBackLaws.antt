-- Laws of reading back: fine frames are read, whatever follows them, and the text of a well-formed plan says that plan. Only the checker need
-- believe this file.
use mathlib.Core.Path.{◌≡◌, refl, sym, ap, ◌∙◌}
use mathlib.Core.List.{List, [], ◌∷◌, ◌++◌, append_assoc, append-nil}
use Prim.Native.Nat.{ℕ, ◌-◌, ◌/◌, ◌%◌, ◌^◌, ◌≤◌, ◌<◌}
use native.Mathlib.Omega.{arith}
use lib.Pow.{pow_mono}
use lib.ListN.{length, replicate}
use Rattle.network.specs.Mask.{join_below}
use Rattle.network.proofs.MaskLaws.{bits_lt}
use Rattle.plan.specs.declared.Letter.{Letter}
use Rattle.plan.specs.declared.Constraint.{Constraint}
use Rattle.plan.specs.declared.Plan.{Plan}
use Rattle.plan.specs.declared.Refusal.TheVariants as refusal
use Rattle.plan.specs.Answer.{Answer, fine}
use Rattle.plan.specs.Faults.{and_then}
use Rattle.plan.specs.Plan.{zero_letter, zero_constraint, zero_plan, letter_at, constraint_at}
use Rattle.plan.specs.WellFormed.{FineHead, FineConstraint, WellFormed}
use Rattle.frame.specs.Texts.{frames_from, at_end}
use Rattle.frame.proofs.FrameLaws.{bytes}
use Rattle.frame.proofs.RunLaws.{frames_end, at_end_lem}
use Rattle.plan_text.specs.PlanText.{head_text, letter_text, constraint_text, plan_text}
use Rattle.plan_text.specs.ReadPlan.{head_in, with_letter, read_letter, with_constraint, read_constraint, read_constraints, read_letters, read_plan}
use Rattle.plan_text.specs.FirstFault.{FineLetter, FineFront, HeadBytes, LetterBytes, ConstraintBytes}
use Rattle.plan_text.specs.PlanText.{front_text}
use Rattle.plan_text.proofs.FilledLaws.{front, front_all, fill_front}
use Rattle.plan_text.proofs.EntryLaws.{with_letters, with_constraints, blank, head_alike, letter_earlier, constraint_over, unused_past, letters_only_lem, front_of}
use Rattle.plan_text.proofs.EntryReadLaws.{head_read, letter_read, constraint_read, head_back, letter_back, constraint_back}

-- ---- what is fine are bytes

module _ (p : Plan) (head : FineHead p) where
  pub head_bytes : HeadBytes p
  head_bytes = bytes (p.horizon ∷ p.points ∷ p.letters ∷ p.constraints ∷ []) (omega (arith, head.horizon, head.points, head.letters, head.constraints))

  letter_bytes_lem : (i : ℕ) (l : Letter) → i < p.letters → FineLetter p i l → LetterBytes i l
  letter_bytes_lem i l lt f = bytes (i ∷ l.point ∷ l.kind ∷ []) (omega (arith, head.points, head.letters, f.disclosing, f.kind))

  constraint_bytes_lem : (c : Constraint) → FineConstraint p c → ConstraintBytes c
  constraint_bytes_lem c f =
      let masks : 2 ^ p.letters ≤ 2 ^ 6 = pow_mono {j = 6} head.letters in
      let need = bits_lt p.letters c.need f.need_letters in
      let truth = bits_lt p.letters c.truth (λ l y. f.need_letters l (f.truth_needed l y)) in
      bytes (c.from ∷ c.to ∷ c.bound / 256 ∷ c.bound % 256 ∷ c.need ∷ c.truth ∷ []) (omega (arith, head.points, f.from_point, f.to_point, f.two_bytes))

-- ---- one fine frame

head_goes : (p : Plan) (r : List ℕ) → FineHead p → read_plan (head_text p ++ r) ≡ read_letters (blank p) r
unfolding read_plan and_then
head_goes p r head =
    let (w, is) = head_back p r (head_bytes p head) in
    let same : FineHead (head_in (head_text p ++ r)) = rw is (head_alike p (replicate 6 zero_letter) (replicate 64 zero_constraint) head) in
    ap (λ (a : Answer Plan). and_then a (λ q. read_letters q r)) (head_read (head_text p ++ r) w same ∙ ap fine is)

letter_goes :
    (p : Plan) (i : ℕ) (l : Letter) (r : List ℕ) → LetterBytes i l → FineLetter p i l →
    read_letter p i (letter_text i l ++ r) ≡ fine (with_letter p i l)
letter_goes p i l r b f =
    let (w, number, is) = letter_back i l r b in
    letter_read (letter_text i l ++ r) p i w (number, rw is f) ∙ ap (λ (m : Letter). fine (with_letter p i m)) is

constraint_goes :
    (p : Plan) (j : ℕ) (c : Constraint) (r : List ℕ) → ConstraintBytes c → FineConstraint p c →
    read_constraint p j (constraint_text c ++ r) ≡ fine (with_constraint p j c)
constraint_goes p j c r b f =
    let (w, is) = constraint_back c r b in
    constraint_read (constraint_text c ++ r) p j w (rw is f) ∙ ap (λ (d : Constraint). fine (with_constraint p j d)) is

-- ---- fine frames

module _ (p : Plan) where
  -- what was read so far: the head and the first i letters; the head, all letters and the first j constraints
  abbrev pub letters_read : ℕ → Plan
  letters_read i = with_letters (with_constraints p (replicate 64 zero_constraint)) (front zero_letter 6 p.letter i)

  abbrev pub constraints_read : ℕ → Plan
  constraints_read j =
      with_constraints (with_letters p (front zero_letter 6 p.letter p.letters)) (front zero_constraint 64 p.constraint j)

  pub letters_reached :
      (i : ℕ) (r : List ℕ) → FineFront p i 0 → i ≤ p.letters →
      read_plan (front_text p i 0 ++ r) ≡ frames_from read_letter 4 read_constraints (p.letters - i) i (letters_read i) r
  unfolding join_below
  letters_reached i r f le =
      let head = f.head in
      let few = head.letters in
      let ls = join_below i (λ k. letter_text k (letter_at p k)) in
      let h = with_constraints p (replicate 64 zero_constraint) in
      ap (λ (s : List ℕ). read_plan (s ++ r)) (append-nil (head_text p ++ ls))
      ∙ ap read_plan (append_assoc (head_text p) ls r)
      ∙ head_goes p (ls ++ r) head
      ∙ fill_front read_letter 4 read_constraints (with_letters h) zero_letter 6 letter_text p.letter p.letters i r le (omega arith)
      (λ k lt ms same u. letter_goes (with_letters h ms) k (letter_at p k) u (letter_bytes_lem p head k (letter_at p k) (omega arith) (f.letter k lt))
      (letter_earlier p (with_letters h ms) k (letter_at p k) refl (λ n l. sym (same n l)) (f.letter k lt)))
      (λ k. refl)

  pub constraints_reached :
      (j : ℕ) (r : List ℕ) → FineFront p p.letters j → j ≤ p.constraints →
      read_plan (front_text p p.letters j ++ r)
      ≡ frames_from read_constraint 7 (at_end zero_plan refusal.PlanText) (p.constraints - j) j (constraints_read j) r
  unfolding join_below
  constraints_reached j r f le =
      let head = f.head in
      let some = head.constraints in
      let ls = join_below p.letters (λ k. letter_text k (letter_at p k)) in
      let cs = join_below j (λ k. constraint_text (constraint_at p k)) in
      let q = with_letters p (front zero_letter 6 p.letter p.letters) in
      ap read_plan (append_assoc (head_text p ++ ls) cs r)
      ∙ ap (λ (s : List ℕ). read_plan (s ++ (cs ++ r))) (sym (append-nil (head_text p ++ ls)))
      ∙ letters_reached p.letters (cs ++ r) (letters_only_lem p f) (omega arith)
      ∙ frames_end read_letter 4 read_constraints p.letters p.letters (letters_read p.letters) (cs ++ r) (omega arith)
      ∙ fill_front read_constraint 7 (at_end zero_plan refusal.PlanText) (with_constraints q) zero_constraint 64 (λ k. constraint_text)
      p.constraint p.constraints j r le (omega arith)
      (λ k lt ds same u. let c = constraint_at p k in
      constraint_goes (with_constraints q ds) k c u (constraint_bytes_lem p head c (f.constraint k lt))
      (constraint_over p (with_constraints q ds) c refl refl (f.constraint k lt)))
      (λ k. refl)

pub read_back : (p : Plan) → WellFormed p → length p.letter ≡ 6 → length p.constraint ≡ 64 → read_plan (plan_text p) ≡ fine p
unfolding plan_text
read_back p wf six sixty-four =
    let n = p.letters in
    let m = p.constraints in
    let letters = front_all zero_letter 6 p.letter n six wf.head.letters
    (unused_past zero_letter n 6 p.letter six wf.letters.unused_letter) in
    let constraints = front_all zero_constraint 64 p.constraint m sixty-four wf.head.constraints
    (unused_past zero_constraint m 64 p.constraint sixty-four wf.constraints.unused_constraint) in
    let all : constraints_read p m ≡ p = λ i. with_constraints (with_letters p (letters i)) (constraints i) in
    ap read_plan (sym (append-nil (plan_text p)))
    ∙ constraints_reached p m [] (front_of p wf) (omega arith)
    ∙ frames_end read_constraint 7 (at_end zero_plan refusal.PlanText) m m (constraints_read p m) [] (omega arith)
    ∙ at_end_lem zero_plan refusal.PlanText (constraints_read p m)
    ∙ ap fine all
