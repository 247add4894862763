-- Definitions: limits of differences. A table of limits has a row for each X: at column Y a number that Y − X may not exceed, plus `bias`,
-- so that none is negative. Like `keeps`, the raise and SoFar.antt it knows what a constraint is.
-- Computed: pinned by `says` of differences/proofs/DifferencesTheorems.antt.
use Rattle.std.specs.Prelude.{cond, List, [], ◌∷◌, ℕ, suc, ◌+◌, ◌-◌, min, ℤ, pos, negsuc, get_or, set}
use Rattle.network.specs.Network.{Constraint, Scenario, holds}

-- 2 to the 24
abbrev pub bias : ℕ
bias = 16777216

unfoldable pub biased : ℤ → ℕ
biased (pos d) = bias + d
biased (negsuc d) = bias - suc d

abbrev pub limit_at : List (List ℕ) → ℕ → ℕ → ℕ
limit_at t x y = get_or (get_or t x []) y 0

-- the limit at row x, column y is at most v; past the table nothing changes
unfoldable pub lowered : List (List ℕ) → ℕ → ℕ → ℕ → List (List ℕ)
lowered t x y v = set t x (set (get_or t x []) y (min (limit_at t x y) v))

-- what one constraint asks, where its label holds
unfoldable pub limited : Scenario → List (List ℕ) → Constraint → List (List ℕ)
limited s t c = cond (holds s c.label) (lowered t c.from c.to (biased c.bound)) t

-- what each of them asks
unfoldable pub all_limited : Scenario → List (List ℕ) → List Constraint → List (List ℕ)
all_limited s t [] = t
all_limited s t (c ∷ cs) = all_limited s (limited s t c) cs
