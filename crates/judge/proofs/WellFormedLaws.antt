-- Laws of the judgement: which fault comes first, by the parts of a well-formed plan. Only the checker need believe this file.
use mathlib.Core.Path.{◌≡◌, refl, sym}
use mathlib.Core.Logic.{◌↔◌, by_cases, inl, inr, ⊎_elim}
use mathlib.Core.Bool.{Bool, true, false, not, cond}
use Prim.Native.Nat.{ℕ, ◌≤◌, ◌<◌}
use native.Mathlib.Omega.{arith}
use native.Mathlib.Decide.{dec_lt}
use lib.Dec.{ltb}
use Rattle.network.proofs.Booleans.{by_test, clash, ltb_yes, ltb_no, eqb_yes, eqb_is, says_le, says_lt, says_eq, not_true, says_or, ◌also◌, false_exactly}
use Rattle.network.proofs.BelowLaws.{all_at, all_make, any_at, any_make}
use Rattle.network.proofs.MachineLaws.{subset_is}
use Rattle.masks.proofs.ByteLaws.{says_among}
use Rattle.plan.specs.declared.Letter.{Letter}
use Rattle.plan.specs.declared.Constraint.{Constraint}
use Rattle.plan.specs.declared.Plan.{Plan}
use Rattle.plan.specs.declared.Refusal.TheVariants as refusal
use Rattle.plan.specs.Refusal.{refusal_number}
use Rattle.plan.specs.Plan.{zero_letter, zero_constraint, letter_at, constraint_at, signed}
use Rattle.plan.specs.WellFormed.{InBounds, FineConstraint, FineHead, FineLetters, FineConstraints, WellFormed}
use Rattle.judge.specs.Judge.{head_fine, taken_before, letter_fine, letter_unused, letter_entry, letters_fine, bound_fine, constraint_fine, constraint_unused, constraint_entry, constraints_fine, plan_fault}
use Rattle.judge.proofs.JudgeLaws.{head_of, head_fault_lem, letters_fault, constraints_fault, no_fault}

-- ---- an entry

-- entry i where n are used: X of one that is used, Y of one that is not
abbrev Entry : ℕ → ℕ → Type 0 → Type 0 → Type 0
Entry i n X Y = (i < n → X) × (n ≤ i → Y)

says_entry :
    {x y : Bool} {X Y : Type 0} (i n : ℕ) → ((x ≡ true) ↔ X) → ((y ≡ true) ↔ Y) → (cond (ltb i n) x y ≡ true) ↔ Entry i n X Y
says_entry i n f g =
    by_cases (dec_lt i n)
    (λ lt. rw (ltb_yes i n lt) (λ t. (λ _. f.0 t, λ ge. absurd (omega arith)), λ h. f.1 (h.0 lt)))
    (λ ge. rw (ltb_no i n ge) (λ t. (λ lt. absurd (ge lt), λ _. g.0 t), λ h. g.1 (h.1 (omega arith))))

-- ---- the head

pub says_head : (h n l c : ℕ) → (head_fine h n l c ≡ true) ↔ ((((((h ≤ 63) × (1 ≤ n)) × (n ≤ 8)) × (l ≤ 6)) × (l ≤ n)) × (c ≤ 64))
unfolding head_fine
says_head h n l c = says_le h 63 also says_le 1 n also says_le n 8 also says_le l 6 also says_le l n also says_le c 64

-- ---- a letter

-- no earlier letter has the point
abbrev pub NotTaken : Plan → ℕ → ℕ → Type 0
NotTaken p i point = (k : ℕ) → k < i → ¬ ((letter_at p k).point ≡ point)

says_not_taken : (p : Plan) (i point : ℕ) → (not (taken_before p i point) ≡ true) ↔ NotTaken p i point
unfolding taken_before
says_not_taken p i point = (
  λ t k lt e. clash (any_make i _ k lt (eqb_yes _ _ e)) (not_true (taken_before p i point) t),
  λ n. by_test (taken_before p i point) (λ y. let r = any_at i _ y in absurd (n r.0 r.1 (eqb_is _ _ r.2))) (λ z. rw z),
)

abbrev pub GoodLetter : Plan → ℕ → Letter → Type 0
GoodLetter p i l = ((l.point < p.points) × (l.kind ≤ 1)) × NotTaken p i l.point

pub says_letter : (p : Plan) (i : ℕ) (l : Letter) → (letter_fine p i l ≡ true) ↔ GoodLetter p i l
unfolding letter_fine
says_letter p i l = says_lt l.point p.points also says_le l.kind 1 also says_not_taken p i l.point

says_no_letter : (l : Letter) → (letter_unused l ≡ true) ↔ (l ≡ zero_letter)
unfolding letter_unused
says_no_letter l =
    let f = says_eq l.point 0 also says_eq l.kind 0 in
    (λ t. let e = f.0 t in λ i. record { point = e.0 i; kind = e.1 i }, λ e. rw e refl)

abbrev LetterThere : Plan → ℕ → Type 0
LetterThere p i = Entry i p.letters (GoodLetter p i (letter_at p i)) (letter_at p i ≡ zero_letter)

says_letter_entry : (p : Plan) (i : ℕ) → (letter_entry p i ≡ true) ↔ LetterThere p i
unfolding letter_entry
says_letter_entry p i = says_entry i p.letters (says_letter p i (letter_at p i)) (says_no_letter (letter_at p i))

-- ---- a constraint

says_bound : (b : ℕ) → (bound_fine b ≡ true) ↔ ((b < 65536) × InBounds (signed b))
unfolding bound_fine signed
says_bound b =
    let f = says_or (says_lt b 1000) (says_le 64537 b also says_lt b 65536) in
    by_cases (dec_lt b 32768)
    (λ lt. rw (ltb_yes b 32768 lt) (
      λ t. ⊎_elim (λ h. (omega arith, omega arith)) (λ h. absurd (omega arith)) (f.0 t),
      λ h. f.1 (inl (omega arith)),
    ))
    (λ ge. rw (ltb_no b 32768 ge) (
      λ t. ⊎_elim (λ h. absurd (omega arith)) (λ h. (omega arith, omega arith)) (f.0 t),
      λ h. f.1 (inr (omega arith, omega arith)),
    ))

pub says_constraint : (p : Plan) (c : Constraint) → (constraint_fine p c ≡ true) ↔ FineConstraint p c
unfolding constraint_fine
says_constraint p c =
    let f =
    says_lt c.from p.points also says_lt c.to p.points also says_bound c.bound also says_among c.need p.letters
    also subset_is c.truth c.need in (
      λ t. let h = f.0 t in
          record {
            from_point = h.0.0.0.0;
            to_point = h.0.0.0.1;
            two_bytes = h.0.0.1.0;
            in_bounds = h.0.0.1.1;
            need_letters = h.0.1;
            truth_needed = h.1;
          },
      λ h. f.1 ((((h.from_point, h.to_point), (h.two_bytes, h.in_bounds)), h.need_letters), h.truth_needed),
    )

says_no_constraint : (c : Constraint) → (constraint_unused c ≡ true) ↔ (c ≡ zero_constraint)
unfolding constraint_unused
says_no_constraint c =
    let f = says_eq c.from 0 also says_eq c.to 0 also says_eq c.bound 0 also says_eq c.need 0 also says_eq c.truth 0 in (
      λ t. let e = f.0 t in
          λ i. record { from = e.0.0.0.0 i; to = e.0.0.0.1 i; bound = e.0.0.1 i; need = e.0.1 i; truth = e.1 i },
      λ e. rw e refl,
    )

abbrev ConstraintThere : Plan → ℕ → Type 0
ConstraintThere p j = Entry j p.constraints (FineConstraint p (constraint_at p j)) (constraint_at p j ≡ zero_constraint)

says_constraint_entry : (p : Plan) (j : ℕ) → (constraint_entry p j ≡ true) ↔ ConstraintThere p j
unfolding constraint_entry
says_constraint_entry p j =
    says_entry j p.constraints (says_constraint p (constraint_at p j)) (says_no_constraint (constraint_at p j))

-- ---- the first fault

module _ (p : Plan) where
  -- what was found: a bad head, bad letters, bad constraints, or nothing
  by_fault :
      {C : Type 0} → (head_of p ≡ false → C) → (head_of p ≡ true → letters_fine p ≡ false → C) →
      (head_of p ≡ true → letters_fine p ≡ true → constraints_fine p ≡ false → C) →
      (head_of p ≡ true → letters_fine p ≡ true → constraints_fine p ≡ true → C) → C
  by_fault f2 f3 f4 f0 =
      by_test (head_of p) (λ h. by_test (letters_fine p) (λ l. by_test (constraints_fine p) (f0 h l) (f4 h l)) (f3 h)) f2

  pub no_fault_is : plan_fault p ≡ 0 → (head_of p ≡ true) × (letters_fine p ≡ true) × (constraints_fine p ≡ true)
  no_fault_is e =
      by_fault
      (λ h. absurd (omega (arith, head_fault_lem p h)))
      (λ h l. absurd (omega (arith, letters_fault p h l)))
      (λ h l c. absurd (omega (arith, constraints_fault p h l c)))
      (λ h l c. (h, l, c))

  -- ---- the parts of a well-formed plan, and the judge's tests of them

  pub head_exactly : (head_of p ≡ true) ↔ FineHead p
  head_exactly =
      let says = says_head p.horizon p.points p.letters p.constraints in (
        λ t. let h = says.0 t in
            record {
              horizon = h.0.0.0.0.0;
              some_point = h.0.0.0.0.1;
              points = h.0.0.0.1;
              letters = h.0.0.1;
              letters_points = h.0.1;
              constraints = h.1;
            },
        λ h. says.1 (((((h.horizon, h.some_point), h.points), h.letters), h.letters_points), h.constraints),
      )

  pub letters_exactly : FineHead p → (letters_fine p ≡ true) ↔ FineLetters p
  unfolding letters_fine
  letters_exactly head =
      let few = head.letters in (
        λ t. let letter : (i : ℕ) → i < 6 → LetterThere p i = λ i lt. (says_letter_entry p i).0 (all_at 6 (letter_entry p) t i lt) in
            let free : (i : ℕ) → i < p.letters → NotTaken p i (letter_at p i).point = λ i lt. ((letter i (omega arith)).0 lt).1 in
            record {
              disclosing = λ i lt. ((letter i (omega arith)).0 lt).0.0;
              own_point = λ i j li lj e. by_cases (dec_lt i j)
                  (λ lt. absurd (free j lj i lt e))
                  (λ ge. by_cases (dec_lt j i) (λ lt. absurd (free i li j lt (sym e))) (λ ge'. omega arith));
              kind = λ i lt. ((letter i (omega arith)).0 lt).0.1;
              unused_letter = λ i ge lt. (letter i lt).1 ge;
            },
        λ h. all_make 6 (letter_entry p) (λ i lt. (says_letter_entry p i).1 (
          λ used. ((h.disclosing i used, h.kind i used), λ k lt e. let s = h.own_point k i (omega arith) used e in omega arith),
          λ past. h.unused_letter i past lt,
        )),
      )

  pub constraints_exactly : FineHead p → (constraints_fine p ≡ true) ↔ FineConstraints p
  unfolding constraints_fine
  constraints_exactly head =
      let few = head.constraints in (
        λ t. let entry : (j : ℕ) → j < 64 → ConstraintThere p j = λ j lt. (says_constraint_entry p j).0 (all_at 64 (constraint_entry p) t j lt) in
            record { constraint = λ j lt. (entry j (omega arith)).0 lt; unused_constraint = λ j ge lt. (entry j lt).1 ge },
        λ h. all_make 64 (constraint_entry p) (λ j lt. (says_constraint_entry p j).1 (h.constraint j, λ past. h.unused_constraint j past lt)),
      )

  -- what was found, in the words of the definition: each part is judged only behind those before it
  by_part :
      {C : Type 0} → (¬ FineHead p → C) → (FineHead p → ¬ FineLetters p → C) → (FineHead p → FineLetters p → ¬ FineConstraints p → C) →
      (WellFormed p → C) → C
  by_part f2 f3 f4 f0 =
      by_fault
      (λ h. f2 ((false_exactly head_exactly).0 h))
      (λ h l. let head = head_exactly.0 h in f3 head ((false_exactly (letters_exactly head)).0 l))
      (λ h l c. let head = head_exactly.0 h in
      f4 head ((letters_exactly head).0 l) ((false_exactly (constraints_exactly head)).0 c))
      (λ h l c. let head = head_exactly.0 h in
      f0 (record { head = head; letters = (letters_exactly head).0 l; constraints = (constraints_exactly head).0 c }))

  -- ---- and its fault

  no_head : ¬ FineHead p → plan_fault p ≡ refusal_number refusal.Head
  no_head n = head_fault_lem p ((false_exactly head_exactly).1 n)

  no_letters : FineHead p → ¬ FineLetters p → plan_fault p ≡ refusal_number refusal.Letters
  no_letters h n = letters_fault p (head_exactly.1 h) ((false_exactly (letters_exactly h)).1 n)

  no_constraints : FineHead p → FineLetters p → ¬ FineConstraints p → plan_fault p ≡ refusal_number refusal.Constraints
  no_constraints h l n =
      constraints_fault p (head_exactly.1 h) ((letters_exactly h).1 l) ((false_exactly (constraints_exactly h)).1 n)

  none : WellFormed p → plan_fault p ≡ 0
  none wf =
      let h = wf.head in
      no_fault p (head_exactly.1 h) ((letters_exactly h).1 wf.letters) ((constraints_exactly h).1 wf.constraints)

  pub head_refused_exactly : (plan_fault p ≡ refusal_number refusal.Head) ↔ (¬ FineHead p)
  head_refused_exactly = (
    λ e. by_part
        (λ n. n)
        (λ h n. absurd (omega (arith, no_letters h n)))
        (λ h l n. absurd (omega (arith, no_constraints h l n)))
        (λ wf. absurd (omega (arith, none wf))),
    no_head,
  )

  pub letters_refused_exactly : (plan_fault p ≡ refusal_number refusal.Letters) ↔ (FineHead p × ¬ FineLetters p)
  letters_refused_exactly = (
    λ e. by_part
        (λ n. absurd (omega (arith, no_head n)))
        (λ h n. (h, n))
        (λ h l n. absurd (omega (arith, no_constraints h l n)))
        (λ wf. absurd (omega (arith, none wf))),
    λ f. no_letters f.0 f.1,
  )

  pub constraints_refused_exactly :
      (plan_fault p ≡ refusal_number refusal.Constraints) ↔ (FineHead p × FineLetters p × ¬ FineConstraints p)
  constraints_refused_exactly = (
    λ e. by_part
        (λ n. absurd (omega (arith, no_head n)))
        (λ h n. absurd (omega (arith, no_letters h n)))
        (λ h l n. (h, l, n))
        (λ wf. absurd (omega (arith, none wf))),
    λ f. no_constraints f.0 f.1 f.2,
  )

  pub fine_exactly : (plan_fault p ≡ 0) ↔ WellFormed p
  fine_exactly = (
    λ e. by_part
        (λ n. absurd (omega (arith, no_head n)))
        (λ h n. absurd (omega (arith, no_letters h n)))
        (λ h l n. absurd (omega (arith, no_constraints h l n)))
        (λ wf. wf),
    none,
  )

  -- every other plan has a fault of the head, the letters or the constraints
  pub two_to_four : ¬ WellFormed p → (2 ≤ plan_fault p) × (plan_fault p ≤ 4)
  two_to_four n =
      by_part
      (λ f. let e = no_head f in (omega arith, omega arith))
      (λ h f. let e = no_letters h f in (omega arith, omega arith))
      (λ h l f. let e = no_constraints h l f in (omega arith, omega arith))
      (λ wf. absurd (n wf))
