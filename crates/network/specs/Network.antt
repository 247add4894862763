-- Definitions 1 to 5 of the paper (document 000): label, network, scenario, projection, schedule. To be believed, for demand 1, 2, 3.
use Rattle.std.specs.Prelude.{Bool, true, not, cond, ◌&&◌, ◌||◌, List, [], ◌∷◌, ℕ, suc, ◌+◌, ℤ, pos, negsuc, leb, ltb, get_or}
use Rattle.std.specs.Bool.{beq}
use Rattle.network.specs.Mask.{bit, all_below}

-- Definition 1. A label is a conjunction of literals: the letters of the mask `need`, each with the value that the mask `truth` shows.
-- The empty `need` is the empty label.
pub record Label : Type 0 where
  pub need : ℕ
  pub truth : ℕ

-- (Y − X ≤ bound, label), where X is `from` and Y is `to`
pub record Constraint : Type 0 where
  pub from : ℕ
  pub to : ℕ
  pub bound : ℤ
  pub label : Label

-- Definition 2. T is the numbers below `points`, P the numbers below `letters`. Times are the slots 0 to `horizon` (document 01).
pub record Network : Type 0 where
  pub horizon : ℕ
  pub points : ℕ
  pub letters : ℕ
  -- O, the disclosing point of a letter
  pub disclosing : ℕ → ℕ
  -- whether a letter is a decision; the others are conditions
  pub is_decision : ℕ → Bool
  pub constraints : List Constraint

-- the letters of CP, set by the world, and those of DP, set by the agent
abbrev pub condition : Network → ℕ → Bool
condition net l = ltb l net.letters && not (net.is_decision l)

abbrev pub decision : Network → ℕ → Bool
decision net l = ltb l net.letters && net.is_decision l

-- those of them that a set of points discloses
abbrev pub condition_at : Network → ℕ → ℕ → Bool
condition_at net points l = condition net l && bit points (net.disclosing l)

abbrev pub decision_at : Network → ℕ → ℕ → Bool
decision_at net points l = decision net l && bit points (net.disclosing l)

-- Definition 3. A scenario gives each letter a value. Condition scenarios cs and decision scenarios ds are masks; this is cs ∪ ds.
abbrev pub Scenario : Type 0
Scenario = ℕ → Bool

abbrev pub combined : Network → ℕ → ℕ → Scenario
combined net cs ds l = cond (net.is_decision l) (bit ds l) (bit cs l)

-- s ⊨ label: each letter that is needed has the value shown. (A mask is a byte.)
unfoldable pub holds : Scenario → Label → Bool
holds s label = all_below 8 (λ l. not (bit label.need l) || beq (s l) (bit label.truth l))

-- Definition 4. The projection over a scenario has the constraints whose labels hold in it.
unfoldable pub projected : Scenario → List Constraint → List Constraint
projected s [] = []
projected s (c ∷ cs) = cond (holds s c.label) (c ∷ projected s cs) (projected s cs)

abbrev pub projection : Network → Scenario → List Constraint
projection net s = projected s net.constraints

-- Definition 5. A schedule gives each point a slot.
abbrev pub Schedule : Type 0
Schedule = ℕ → ℕ

-- the schedule that a list of slots gives; 0 past its end
abbrev pub slots_in : List ℕ → Schedule
slots_in slots x = get_or slots x 0

-- y − x ≤ d, where `pos d` is d and `negsuc d` is −(d + 1)
unfoldable pub at_most : ℕ → ℕ → ℤ → Bool
at_most x y (pos d) = leb y (x + d)
at_most x y (negsuc d) = leb (y + suc d) x

-- the schedule keeps one constraint, whatever its label
abbrev pub satisfies : Schedule → Constraint → Bool
satisfies ψ c = at_most (ψ c.from) (ψ c.to) c.bound

-- it is feasible for a list of constraints
unfoldable pub feasible : Schedule → List Constraint → Bool
feasible ψ [] = true
feasible ψ (c ∷ cs) = satisfies ψ c && feasible ψ cs

-- The schedule is feasible for the projection. Document 01 says that it keeps every relevant constraint: each one whose label holds.
-- What a constraint is, is known to this definition, to the raise (Raise.antt), to what is kept so far (SoFar.antt) and to the limits of
-- differences (Limits.antt); theorems tie those to this one, and everything else goes through them.
unfoldable pub keeps : Network → Schedule → Scenario → Bool
keeps net ψ s = feasible ψ (projection net s)
