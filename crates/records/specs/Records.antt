-- Definitions: the fixed layouts of a plan and of a history as bytes. That every record has one list of bytes, and every list of 400 (of
-- nine) bytes one record, is in proofs/RecordsTheorems.antt. To be believed, for the library only.
use Rattle.std.specs.Prelude.{List, [], ◌∷◌, ◌++◌, ℕ, ◌+◌, ◌*◌, ◌/◌, ◌%◌, get_or}
use Rattle.network.specs.Mask.{join_below}
use Rattle.plan.specs.declared.Letter.{Letter}
use Rattle.plan.specs.declared.Constraint.{Constraint}
use Rattle.plan.specs.declared.Plan.{Plan}
use Rattle.plan.specs.Plan.{letter_at, constraint_at, listed}
use Rattle.run.specs.declared.History.{History}

-- ---- The plan: horizon, points, letters, constraints; then six letters, two bytes each; then 64 constraints, six bytes each.

abbrev pub plan_length : ℕ
plan_length = 400

-- a letter: its point, its kind
abbrev pub letter_bytes : Letter → List ℕ
letter_bytes l = l.point ∷ l.kind ∷ []

-- a constraint: X, Y, d (high byte first, two's complement), need, true
abbrev pub constraint_bytes : Constraint → List ℕ
constraint_bytes c = c.from ∷ c.to ∷ c.bound / 256 ∷ c.bound % 256 ∷ c.need ∷ c.truth ∷ []

abbrev pub head_bytes : Plan → List ℕ
head_bytes p = p.horizon ∷ p.points ∷ p.letters ∷ p.constraints ∷ []

abbrev pub letters_bytes : Plan → List ℕ
letters_bytes p = join_below 6 (λ i. letter_bytes (letter_at p i))

abbrev pub constraints_bytes : Plan → List ℕ
constraints_bytes p = join_below 64 (λ j. constraint_bytes (constraint_at p j))

unfoldable pub plan_bytes : Plan → List ℕ
plan_bytes p = head_bytes p ++ letters_bytes p ++ constraints_bytes p

-- the same, read: the entry that stands at a place; bytes that are missing are zero
abbrev pub letter_from : List ℕ → ℕ → Letter
letter_from bs at = record { point = get_or bs at 0; kind = get_or bs (at + 1) 0 }

abbrev pub constraint_from : List ℕ → ℕ → Constraint
constraint_from bs at =
    record {
      from = get_or bs at 0;
      to = get_or bs (at + 1) 0;
      bound = 256 * get_or bs (at + 2) 0 + get_or bs (at + 3) 0;
      need = get_or bs (at + 4) 0;
      truth = get_or bs (at + 5) 0;
    }

unfoldable pub plan_in : List ℕ → Plan
plan_in bs =
    record {
      horizon = get_or bs 0 0;
      points = get_or bs 1 0;
      letters = get_or bs 2 0;
      constraints = get_or bs 3 0;
      letter = listed 6 (λ i. letter_from bs (4 + 2 * i));
      constraint = listed 64 (λ j. constraint_from bs (16 + 6 * j));
    }

-- ---- The history: its count, then its eight masks.

abbrev pub history_length : ℕ
history_length = 9

abbrev pub history_bytes : History → List ℕ
history_bytes h = h.count ∷ h.masks

abbrev pub history_in : List ℕ → History
history_in bs = record { count = get_or bs 0 0; masks = listed 8 (λ i. get_or bs (1 + i) 0) }
