-- Laws of one text: every text has a first faulty frame, or is the text of a well-formed plan and reads as that plan. Only the checker need
-- believe this file.
use mathlib.Core.Path.{◌≡◌, refl, sym, ap, ◌∙◌, subst}
use mathlib.Core.Logic.{◌⊎◌, inl, inr, ⊎_elim}
use mathlib.Core.Bool.{true, ◌&&◌}
use mathlib.Core.List.{List, [], ◌∷◌, ◌++◌, append_assoc, append-nil}
use Prim.Native.Nat.{ℕ, ◌<◌}
use native.Mathlib.Nat.{not-suc-le-zero}
use native.Mathlib.Omega.{arith}
use lib.Dec.{eqb}
use lib.ListN.{length, drop, replicate}
use Rattle.network.specs.Mask.{join_below}
use Rattle.network.proofs.Booleans.{by_test, and_left, and_right, eqb_is, false_exactly}
use Rattle.plan.specs.declared.Letter.{Letter}
use Rattle.plan.specs.declared.Constraint.{Constraint}
use Rattle.plan.specs.declared.Plan.{Plan}
use Rattle.plan.specs.declared.Refusal.TheVariants as refusal
use Rattle.plan.specs.Answer.{Answer, fine}
use Rattle.plan.specs.Faults.{and_then}
use Rattle.plan.specs.Plan.{zero_letter, zero_constraint, zero_plan, letter_at, constraint_at}
use Rattle.plan.specs.WellFormed.{FineHead, FineConstraint, WellFormed}
use Rattle.judge.specs.Judge.{letter_fine, constraint_fine}
use Rattle.judge.proofs.JudgeLaws.{head_of}
use Rattle.judge.proofs.WellFormedLaws.{head_exactly, says_constraint}
use Rattle.frame.specs.ReadFrame.{frame_length, value_at, whole}
use Rattle.frame.specs.Texts.{at_end}
use Rattle.frame.proofs.FrameLaws.{whole_exactly}
use Rattle.frame.proofs.RunLaws.{frame_read_is, at_end_lem}
use Rattle.plan_text.specs.PlanText.{head_text, letter_text, constraint_text, plan_text}
use Rattle.plan_text.specs.WritePlan.{letters_text}
use Rattle.plan_text.specs.ReadPlan.{head_in, letter_in, with_letter, read_letter, constraint_in, with_constraint, read_constraint, read_constraints, read_letters, read_plan}
use Rattle.plan_text.specs.FirstFault.{FineLetter, FineFront, FirstFault, in_head_frame, in_head_values, in_letter_frame, in_letter_values, in_constraint_frame, in_constraint_values, extra}
use Rattle.plan_text.specs.PlanText.{front_text}
use Rattle.plan_text.proofs.FilledLaws.{UnusedFrom, Filled, fill_stops}
use Rattle.plan_text.proofs.EntryLaws.{with_letters, with_constraints, blank, head_alike, letter_exactly, letter_earlier, constraint_over, well_formed_of}
use Rattle.plan_text.proofs.EntryReadLaws.{head_read, head_said, head_in_bytes, letter_read, letter_said, letter_in_bytes, constraint_read, constraint_said, constraint_in_bytes}
use Rattle.plan_text.proofs.FirstFaultLaws.{never_none, fault_is}

-- ---- frames

-- a frame that is read without a fault: its values are fine, it is their text, and they are what the answer has
letter_is :
    (p : Plan) (i : ℕ) (s : List ℕ) → (read_letter p i s).fault ≡ 0 →
    (l : Letter) × FineLetter p i l × (s ≡ letter_text i l ++ drop (frame_length 4) s) × ((read_letter p i s).value ≡ with_letter p i l)
unfolding read_letter
letter_is p i s e =
    let l = letter_in s in
    let number_ok = eqb (value_at s 1) i in
    let (w, good, is) =
    frame_read_is zero_plan refusal.PlanText refusal.Letters (whole 2 4 s) (number_ok && letter_fine p i l) (with_letter p i l) e in
    let number : value_at s 1 ≡ i = eqb_is (value_at s 1) i (and_left number_ok (letter_fine p i l) good) in (
      l,
      (letter_exactly p i l).0 (and_right number_ok (letter_fine p i l) good),
      letter_said s w ∙ ap (λ (k : ℕ). letter_text k l ++ drop (frame_length 4) s) number,
      ap (λ (a : Answer Plan). a.value) is,
    )

constraint_is :
    (p : Plan) (j : ℕ) (s : List ℕ) → (read_constraint p j s).fault ≡ 0 →
    (c : Constraint) × FineConstraint p c × (s ≡ constraint_text c ++ drop (frame_length 7) s)
    × ((read_constraint p j s).value ≡ with_constraint p j c)
unfolding read_constraint
constraint_is p j s e =
    let c = constraint_in s in
    let (w, good, is) =
    frame_read_is zero_plan refusal.PlanText refusal.Constraints (whole 3 7 s) (constraint_fine p c) (with_constraint p j c) e in
    (c, (says_constraint p c).0 good, constraint_said s w, ap (λ (a : Answer Plan). a.value) is)

-- ---- a text that is refused, or read

abbrev Faulty : List ℕ → Type 0
Faulty t = (n : ℕ) × FirstFault t n

-- what a text that reads as p is
abbrev pub Says : List ℕ → Plan → Type 0
Says t p = (t ≡ plan_text p) × WellFormed p × (length p.letter ≡ 6) × (length p.constraint ≡ 64)

abbrev Judged : List ℕ → Type 0
Judged t = Faulty t ⊎ ((p : Plan) × Says t p × (read_plan t ≡ fine p))

faulty : {t u : List ℕ} {n : ℕ} → t ≡ u → FirstFault u n → Faulty t
faulty {n = n} e f = (n, subst (λ (s : List ℕ). FirstFault s n) (sym e) f)

-- ---- the constraints

-- a text that says the head and the letters of p, and then s
module _
    (p : Plan) (t s : List ℕ) (fine-front : FineFront p p.letters 0) (no-letter : UnusedFrom zero_letter p.letters p.letter)
    (six : length p.letter ≡ 6) (said : t ≡ head_text p ++ letters_text p ++ s)
    (goes : read_plan t ≡ read_constraints (with_constraints p (replicate 64 zero_constraint)) s) where
  -- s says the first j constraints, and then r
  abbrev ConstraintsSaid : ℕ → List Constraint → List ℕ → Type 0
  ConstraintsSaid j cs r = Filled zero_constraint 64 (λ ds k c. FineConstraint p c) (λ k. constraint_text) s j cs r

  module _ (j : ℕ) (cs : List Constraint) (r : List ℕ) (f : ConstraintsSaid j cs r) where
    -- p with these constraints
    abbrev q : Plan
    q = with_constraints p cs

    q_front : FineFront q p.letters j
    q_front =
        record {
          head = head_alike p p.letter cs fine-front.head;
          letter = λ k lt. letter_earlier p q k (letter_at p k) refl (λ _ _. refl) (fine-front.letter k lt);
          constraint = λ k lt. constraint_over p q (constraint_at q k) refl refl (f.good k lt);
        }

    q_said : t ≡ front_text q p.letters j ++ r
    q_said =
        said ∙ ap (λ (u : List ℕ). head_text p ++ letters_text p ++ u) f.said
        ∙ sym (append_assoc (head_text p ++ letters_text p) (join_below j (λ k. constraint_text (constraint_at q k))) r)

    constraint_faulty : j < p.constraints → ¬ ((read_constraint q j r).fault ≡ 0) → Faulty t
    constraint_faulty lt bad =
        by_test (whole 3 7 r)
        (λ w. let c = constraint_in r in
        faulty
        (q_said ∙ ap (λ (u : List ℕ). front_text q p.letters j ++ u) (constraint_said r w)
        ∙ sym (append_assoc (front_text q p.letters j) (constraint_text c) (drop (frame_length 7) r)))
        (in_constraint_values q j c (drop (frame_length 7) r) q_front lt (constraint_in_bytes r)
        (λ g. bad (ap (λ (a : Answer Plan). a.fault) (constraint_read r q j w g)))))
        (λ z. faulty q_said (in_constraint_frame q j r q_front lt ((false_exactly (whole_exactly 3 6 r (omega arith))).0 z)))

  ends :
      (cs : List Constraint) (r : List ℕ) → ConstraintsSaid p.constraints cs r →
      read_plan t ≡ at_end zero_plan refusal.PlanText (with_constraints p cs) r → Judged t
  unfolding plan_text
  ends cs [] f e =
      let n = p.constraints in
      let q = with_constraints p cs in
      inr (
        q,
        (
          q_said n cs [] f ∙ append-nil (front_text q p.letters n),
          well_formed_of q (q_front n cs [] f) (λ i ge lt. no-letter i ge) (λ j ge lt. f.unused j ge),
          six,
          f.long,
        ),
        e ∙ at_end_lem zero_plan refusal.PlanText q,
      )
  ends cs (c ∷ r) f e =
      let n = p.constraints in
      inl (faulty (q_said n cs (c ∷ r) f) (extra (with_constraints p cs) c r (q_front n cs (c ∷ r) f)))

  constraints_judged : Judged t
  constraints_judged =
      fill_stops read_constraint 7 (at_end zero_plan refusal.PlanText) (with_constraints p) zero_constraint 64 (λ k. constraint_text)
      (λ ds k c. FineConstraint p c) (λ cs ds j c same h. h)
      (λ cs j u z. let (c, good, says, gives) = constraint_is (with_constraints p cs) j u z in
      (c, constraint_over (with_constraints p cs) p c refl refl good, says, gives))
      p.constraints fine-front.head.constraints s
      (λ j cs r lt f bad e. inl (constraint_faulty j cs r f lt bad))
      (λ cs r f e. ends cs r f (goes ∙ e))

-- ---- the letters

-- a text that says the head of p, and then s
module _ (p : Plan) (t s : List ℕ) (head : FineHead p) (said : t ≡ head_text p ++ s) (goes : read_plan t ≡ read_letters (blank p) s) where
  -- p without constraints, its letters not yet read
  abbrev h : Plan
  h = with_constraints p (replicate 64 zero_constraint)

  -- s says the first i letters, and then r
  abbrev LettersSaid : ℕ → List Letter → List ℕ → Type 0
  LettersSaid i ls r = Filled zero_letter 6 (λ ms k l. FineLetter (with_letters h ms) k l) letter_text s i ls r

  module _ (i : ℕ) (ls : List Letter) (r : List ℕ) (f : LettersSaid i ls r) where
    -- p with these letters
    abbrev g : Plan
    g = with_letters h ls

    g_front : FineFront g i 0
    g_front =
        record {
          head = head_alike p ls (replicate 64 zero_constraint) head;
          letter = f.good;
          constraint = λ k lt. absurd (not-suc-le-zero lt);
        }

    g_said : t ≡ head_text p ++ join_below i (λ k. letter_text k (letter_at g k)) ++ r
    g_said = said ∙ ap (λ (u : List ℕ). head_text p ++ u) f.said
        ∙ sym (append_assoc (head_text p) (join_below i (λ k. letter_text k (letter_at g k))) r)

    g_front_said : t ≡ front_text g i 0 ++ r
    unfolding join_below
    g_front_said = g_said
        ∙ ap (λ (u : List ℕ). u ++ r) (sym (append-nil (head_text p ++ join_below i (λ k. letter_text k (letter_at g k)))))

    letter_faulty : i < p.letters → ¬ ((read_letter g i r).fault ≡ 0) → Faulty t
    letter_faulty lt bad =
        by_test (whole 2 4 r)
        (λ w. let l = letter_in r in
        let k = value_at r 1 in
        faulty
        (g_front_said ∙ ap (λ (u : List ℕ). front_text g i 0 ++ u) (letter_said r w)
        ∙ sym (append_assoc (front_text g i 0) (letter_text k l) (drop (frame_length 4) r)))
        (in_letter_values g i k l (drop (frame_length 4) r) g_front lt (letter_in_bytes r)
        (λ y. bad (ap (λ (a : Answer Plan). a.fault) (letter_read r g i w y)))))
        (λ z. faulty g_front_said (in_letter_frame g i r g_front lt ((false_exactly (whole_exactly 2 3 r (omega arith))).0 z)))

  letters_judged : Judged t
  letters_judged =
      let n = p.letters in
      fill_stops read_letter 4 read_constraints (with_letters h) zero_letter 6 letter_text (λ ms i l. FineLetter (with_letters h ms) i l)
      (λ ls ms i l. letter_earlier (with_letters h ls) (with_letters h ms) i l refl)
      (λ ls. letter_is (with_letters h ls)) n head.letters s
      (λ i ls r lt f bad e. inl (letter_faulty i ls r f lt bad))
      (λ ls r f e. constraints_judged (with_letters h ls) t r (g_front n ls r f) f.unused f.long (g_said n ls r f) (goes ∙ e))

-- ---- the head

head_goes : (t : List ℕ) → whole 1 5 t ≡ true → FineHead (head_in t) → read_plan t ≡ read_letters (blank (head_in t)) (drop (frame_length 5) t)
unfolding read_plan and_then
head_goes t w f = ap (λ (a : Answer Plan). and_then a (λ p. read_letters p (drop (frame_length 5) t))) (head_read t w f)

text_judged : (t : List ℕ) → Judged t
text_judged t =
    let p = head_in t in
    let s = drop (frame_length 5) t in
    by_test (whole 1 5 t)
    (λ w. by_test (head_of p)
    (λ y. let f = (head_exactly p).0 y in letters_judged p t s f (head_said t w) (head_goes t w f))
    (λ z. inl (faulty (head_said t w) (in_head_values p s (head_in_bytes t) ((false_exactly (head_exactly p)).0 z)))))
    (λ z. inl (faulty refl (in_head_frame t ((false_exactly (whole_exactly 1 4 t (omega arith))).0 z))))

-- ---- what a text is

pub one_text : (t : List ℕ) (p : Plan) → read_plan t ≡ fine p → Says t p
one_text t p e =
    ⊎_elim
    (λ x. absurd (never_none t x.0 x.1 (sym (fault_is t x.0 x.1) ∙ ap (λ (a : Answer Plan). a.fault) e)))
    (λ x. subst (Says t) (ap (λ (a : Answer Plan). a.value) (sym x.2 ∙ e)) x.1)
    (text_judged t)

-- a text that is refused has a first faulty frame, and its number
pub first_fault : (t : List ℕ) (n : ℕ) → ¬ (n ≡ 0) → (read_plan t).fault ≡ n → FirstFault t n
first_fault t n ne e =
    ⊎_elim
    (λ x. subst (FirstFault t) (sym (fault_is t x.0 x.1) ∙ e) x.1)
    (λ x. absurd (ne (sym e ∙ ap (λ (a : Answer Plan). a.fault) x.2)))
    (text_judged t)
