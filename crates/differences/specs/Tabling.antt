-- Definitions: what the call answers. Computed: pinned by `says` of differences/proofs/DifferencesTheorems.antt.
use Rattle.std.specs.Prelude.{Bool, true, cond, ◌&&◌, List, ℕ, zero, suc, ◌+◌, ◌-◌, ◌%◌, ◌^◌, min, leb, ltb, set, replicate}
use Rattle.network.specs.Mask.{bit, all_below}
use Rattle.network.specs.Network.{Network, Scenario}
use Rattle.network.specs.Limits.{bias, limit_at, all_limited}
use Rattle.plan.specs.declared.Plan.{Plan}
use Rattle.plan.specs.declared.Refusal.TheVariants as refusal
use Rattle.plan.specs.Answer.{Answer}
use Rattle.plan.specs.Faults.{unless, first, answered}
use Rattle.plan.specs.Plan.{listed, network_of}
use Rattle.judge.specs.Judge.{plan_fault}
use Rattle.differences.specs.declared.Row.{Row}
use Rattle.differences.specs.Answers.{Differences, no_table}

-- ---- limits of differences, tightened

-- the limits that the horizon alone sets: 0 for a point and itself, the horizon for two
unfoldable pub unconstrained : ℕ → List (List ℕ)
unconstrained horizon = listed 8 (λ x. set (replicate 8 (bias + horizon)) x bias)

-- the pass over point k: each limit of Y − X lowered to the sum of those of k − X and Y − k, where that is less
unfoldable pub passed : ℕ → List (List ℕ) → List (List ℕ)
passed k t = listed 8 (λ x. listed 8 (λ y. min (limit_at t x y) (limit_at t x k + limit_at t k y - bias)))

-- the passes over the points below n
unfoldable pub passes : ℕ → List (List ℕ) → List (List ℕ)
passes zero t = t
passes (suc k) t = passed k (passes k t)

unfoldable pub closed : Network → Scenario → List (List ℕ)
closed net s = passes net.points (all_limited s (unconstrained net.horizon) net.constraints)

-- no limit of a point and itself is negative, of n points
unfoldable pub no_negative_cycle : ℕ → List (List ℕ) → Bool
no_negative_cycle n t = all_below n (λ x. leb bias (limit_at t x x))

-- ---- the table

-- without the bias, which is a multiple of 65,536; zero where a point is unused
unfoldable pub shown : ℕ → List (List ℕ) → List Row
shown n t = listed 8 (λ x. record { to = listed 8 (λ y. cond (ltb x n && ltb y n) (limit_at t x y % 65536) 0) })

unfoldable pub table_from : ℕ → List (List ℕ) → Differences
table_from n t = cond (no_negative_cycle n t) (record { scheduled = true; rows = shown n t }) no_table

unfoldable pub table_of : Network → Scenario → Differences
table_of net s = table_from net.points (closed net s)

-- 2, 3, 4, 8 (a letter that the plan lacks)
unfoldable pub table_fault : Plan → ℕ → ℕ
table_fault p values = first (plan_fault p) (unless (ltb values (2 ^ p.letters)) refusal.Mask)

unfoldable pub difference_table : Plan → ℕ → Answer Differences
difference_table p values = answered no_table (table_fault p values) (table_of (network_of p) (bit values))
