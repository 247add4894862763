-- Definitions: a well-formed plan, in document 01's words ("The plan"). To be believed, for demand 1, 2, 3.
use Rattle.std.specs.Prelude.{◌≡◌, true, ℕ, suc, ◌≤◌, ◌<◌, ℤ, pos, negsuc}
use Rattle.network.specs.Mask.{bit}
use Rattle.plan.specs.declared.Constraint.{Constraint}
use Rattle.plan.specs.declared.Plan.{Plan}
use Rattle.plan.specs.Plan.{letter_at, constraint_at, zero_letter, zero_constraint, signed}

-- a bound from -999 to 999
abbrev pub InBounds : ℤ → Type 0
InBounds (pos d) = d ≤ 999
InBounds (negsuc d) = suc d ≤ 999

-- a constraint over the plan's points and letters: "need" inside the letters, "true" inside "need"
pub record FineConstraint (p : Plan) (c : Constraint) : Type 0 where
  pub from_point : c.from < p.points
  pub to_point : c.to < p.points
  pub two_bytes : c.bound < 65536
  pub in_bounds : InBounds (signed c.bound)
  pub need_letters : (l : ℕ) → bit c.need l ≡ true → l < p.letters
  pub truth_needed : (l : ℕ) → bit c.truth l ≡ true → bit c.need l ≡ true

-- 2 where not: the head's values, horizon 0 to 63, 1 to 8 points, 0 to 6 letters, at most as many as points, 0 to 64 constraints
pub record FineHead (p : Plan) : Type 0 where
  pub horizon : p.horizon ≤ 63
  pub some_point : 1 ≤ p.points
  pub points : p.points ≤ 8
  pub letters : p.letters ≤ 6
  pub letters_points : p.letters ≤ p.points
  pub constraints : p.constraints ≤ 64

-- 3 where not: each letter has its own disclosing point and is a condition or a decision; unused entries are zero
pub record FineLetters (p : Plan) : Type 0 where
  pub disclosing : (i : ℕ) → i < p.letters → (letter_at p i).point < p.points
  pub own_point : (i j : ℕ) → i < p.letters → j < p.letters → (letter_at p i).point ≡ (letter_at p j).point → i ≡ j
  pub kind : (i : ℕ) → i < p.letters → (letter_at p i).kind ≤ 1
  pub unused_letter : (i : ℕ) → p.letters ≤ i → i < 6 → letter_at p i ≡ zero_letter

-- 4 where not: each constraint is over the plan's points and letters, its bound in range; unused entries are zero
pub record FineConstraints (p : Plan) : Type 0 where
  pub constraint : (j : ℕ) → j < p.constraints → FineConstraint p (constraint_at p j)
  pub unused_constraint : (j : ℕ) → p.constraints ≤ j → j < 64 → constraint_at p j ≡ zero_constraint

-- a plan with none of the three faults
pub record WellFormed (p : Plan) : Type 0 where
  pub head : FineHead p
  pub letters : FineLetters p
  pub constraints : FineConstraints p
