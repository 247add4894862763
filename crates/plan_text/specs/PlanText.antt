-- Definitions: the text of a plan. To be believed, for demand 1, 2.
use Rattle.std.specs.Prelude.{List, [], ◌∷◌, ◌++◌, ℕ, ◌/◌, ◌%◌}
use Rattle.network.specs.Mask.{join_below}
use Rattle.plan.specs.declared.Letter.{Letter}
use Rattle.plan.specs.declared.Constraint.{Constraint}
use Rattle.plan.specs.declared.Plan.{Plan}
use Rattle.plan.specs.Plan.{letter_at, constraint_at}
use Rattle.frame.specs.Frame.{frame_text}

-- 01 head: horizon, points, letters, constraints
abbrev pub head_text : Plan → List ℕ
head_text p = frame_text (1 ∷ p.horizon ∷ p.points ∷ p.letters ∷ p.constraints ∷ [])

-- 02 letter: its number, its point, 00 condition or 01 decision
abbrev pub letter_text : ℕ → Letter → List ℕ
letter_text i l = frame_text (2 ∷ i ∷ l.point ∷ l.kind ∷ [])

-- 03 constraint: X, Y, d (two bytes, high first), need, true
abbrev pub constraint_text : Constraint → List ℕ
constraint_text c = frame_text (3 ∷ c.from ∷ c.to ∷ c.bound / 256 ∷ c.bound % 256 ∷ c.need ∷ c.truth ∷ [])

-- the head, the first i letters, the first j constraints
abbrev pub front_text : Plan → ℕ → ℕ → List ℕ
front_text p i j =
    head_text p ++ join_below i (λ k. letter_text k (letter_at p k)) ++ join_below j (λ k. constraint_text (constraint_at p k))

-- one 01, then its 02s, then its 03s
unfoldable pub plan_text : Plan → List ℕ
plan_text p = front_text p p.letters p.constraints
