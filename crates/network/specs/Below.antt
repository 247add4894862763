-- Definitions: tests and sums of all numbers below a bound, and the number of a mask, as computed definitions need them. Computed: pinned
-- by `rank_submask` of network/proofs/SubmaskLaws.antt.
use Rattle.std.specs.Prelude.{Bool, false, cond, ◌||◌, ℕ, zero, suc, ◌+◌, ◌*◌, ◌/◌, ◌%◌}

-- whether some number below n has f
unfoldable pub any_below : ℕ → (ℕ → Bool) → Bool
any_below zero f = false
any_below (suc n) f = let last = f n in any_below n f || last

-- f 0 + f 1 + .. + f (n - 1)
unfoldable pub sum_below : ℕ → (ℕ → ℕ) → ℕ
sum_below zero f = 0
sum_below (suc n) f = sum_below n f + f n

-- the number of a mask among those inside the set { i < n | f i }, which `submask` numbers: its digits at the members of the set
unfoldable pub rank : ℕ → (ℕ → Bool) → ℕ → ℕ
rank zero f m = 0
rank (suc n) f m = cond (f zero) (m % 2 + 2 * rank n (λ i. f (suc i)) (m / 2)) (rank n (λ i. f (suc i)) (m / 2))
