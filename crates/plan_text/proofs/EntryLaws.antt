-- Laws of the entries of a plan: when the judge's tests hold of a letter and of a constraint, and when a plan is well formed by its entries.
-- Only the checker need believe this file.
use mathlib.Core.Path.{◌≡◌, sym, ap, ◌∙◌}
use mathlib.Core.Logic.{◌↔◌, by_cases}
use mathlib.Core.Bool.{true}
use mathlib.Core.List.{List}
use Prim.Native.Nat.{ℕ, ◌≤◌, ◌<◌}
use native.Mathlib.Omega.{arith}
use native.Mathlib.Nat.{not-suc-le-zero}
use native.Mathlib.Decide.{dec_lt}
use lib.ListN.{length, get_or, replicate, get_or-eq_default}
use Rattle.plan.specs.declared.Letter.{Letter}
use Rattle.plan.specs.declared.Constraint.{Constraint}
use Rattle.plan.specs.declared.Plan.{Plan}
use Rattle.plan.specs.Plan.{zero_letter, zero_constraint, letter_at, constraint_at}
use Rattle.plan.specs.WellFormed.{FineHead, FineConstraint, WellFormed}
use Rattle.judge.specs.Judge.{letter_fine}
use Rattle.judge.proofs.WellFormedLaws.{says_letter}
use Rattle.plan_text.specs.FirstFault.{FineLetter, FineFront}
use Rattle.plan_text.proofs.FilledLaws.{SameBelow, UnusedFrom}

-- ---- a plan with other entries

abbrev pub with_letters : Plan → List Letter → Plan
with_letters p ls =
    record {
      horizon = p.horizon;
      points = p.points;
      letters = p.letters;
      constraints = p.constraints;
      letter = ls;
      constraint = p.constraint;
    }

abbrev pub with_constraints : Plan → List Constraint → Plan
with_constraints p cs =
    record {
      horizon = p.horizon;
      points = p.points;
      letters = p.letters;
      constraints = p.constraints;
      letter = p.letter;
      constraint = cs;
    }

-- the head of p, and no entries
abbrev pub blank : Plan → Plan
blank p = with_constraints (with_letters p (replicate 6 zero_letter)) (replicate 64 zero_constraint)

-- a head is fine whatever the entries are
pub head_alike : (p : Plan) (ls : List Letter) (cs : List Constraint) → FineHead p → FineHead (with_constraints (with_letters p ls) cs)
head_alike p ls cs f =
    record {
      horizon = f.horizon;
      some_point = f.some_point;
      points = f.points;
      letters = f.letters;
      letters_points = f.letters_points;
      constraints = f.constraints;
    }

-- ---- an entry

pub letter_exactly : (p : Plan) (i : ℕ) (l : Letter) → (letter_fine p i l ≡ true) ↔ FineLetter p i l
letter_exactly p i l =
    let f = says_letter p i l in (
      λ t. let h = f.0 t in record { disclosing = h.0.0; own_point = h.1; kind = h.0.1 },
      λ h. f.1 ((h.disclosing, h.kind), h.own_point),
    )

-- a letter is fine by the points of the earlier ones
pub letter_earlier :
    (p q : Plan) (i : ℕ) (l : Letter) → p.points ≡ q.points → SameBelow zero_letter i p.letter q.letter →
    FineLetter p i l → FineLetter q i l
letter_earlier p q i l e same f =
    record {
      disclosing = rw (← e) f.disclosing;
      own_point = λ k lt s. f.own_point k lt (ap (λ (m : Letter). m.point) (same k lt) ∙ s);
      kind = f.kind;
    }

-- a constraint is fine by how many points and letters there are
pub constraint_over :
    (p q : Plan) (c : Constraint) → p.points ≡ q.points → p.letters ≡ q.letters → FineConstraint p c → FineConstraint q c
constraint_over p q c e g f =
    record {
      from_point = rw (← e) f.from_point;
      to_point = rw (← e) f.to_point;
      two_bytes = f.two_bytes;
      in_bounds = f.in_bounds;
      need_letters = λ l y. rw (← g) (f.need_letters l y);
      truth_needed = f.truth_needed;
    }

-- ---- well-formed by its entries

pub unused_past :
    {E : Type 0} (d : E) (k n : ℕ) (xs : List E) → length xs ≡ n → ((i : ℕ) → k ≤ i → i < n → get_or xs i d ≡ d) → UnusedFrom d k xs
unused_past d k n xs long h i le =
    by_cases (dec_lt i n) (h i le) (λ ge. get_or-eq_default xs d (rw long (omega arith)))

module _ (p : Plan) where
  pub letters_only_lem : {i j : ℕ} → FineFront p i j → FineFront p i 0
  letters_only_lem f = record { head = f.head; letter = f.letter; constraint = λ k lt. absurd (not-suc-le-zero lt) }

  pub front_of : WellFormed p → FineFront p p.letters p.constraints
  front_of wf =
      let f = wf.letters in
      record {
        head = wf.head;
        letter = λ i lt. record {
          disclosing = f.disclosing i lt;
          own_point = λ k l e. let s = f.own_point k i (omega arith) lt e in omega arith;
          kind = f.kind i lt;
        };
        constraint = wf.constraints.constraint;
      }

  pub well_formed_of :
      FineFront p p.letters p.constraints → ((i : ℕ) → p.letters ≤ i → i < 6 → letter_at p i ≡ zero_letter) →
      ((j : ℕ) → p.constraints ≤ j → j < 64 → constraint_at p j ≡ zero_constraint) → WellFormed p
  well_formed_of f no-letter no-constraint =
      record {
        head = f.head;
        letters = record {
          disclosing = λ i lt. (f.letter i lt).disclosing;
          own_point = λ i j li lj e. by_cases (dec_lt i j)
              (λ lt. absurd ((f.letter j lj).own_point i lt e))
              (λ ge. by_cases (dec_lt j i) (λ lt. absurd ((f.letter i li).own_point j lt (sym e))) (λ ge'. omega arith));
          kind = λ i lt. (f.letter i lt).kind;
          unused_letter = no-letter;
        };
        constraints = record { constraint = f.constraint; unused_constraint = no-constraint };
      }
