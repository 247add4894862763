-- Definitions: masks, and tests of all numbers below a bound. To be believed, for demand 1, 2, 3.
use Rattle.std.specs.Prelude.{ℕ, zero, suc, ◌+◌, ◌*◌, ◌/◌, ◌%◌, Bool, true, false, cond, ◌&&◌, List, [], ◌++◌, eqb}

-- bit i of the number m, whose value is 2 to the power i
unfoldable pub bit : ℕ → ℕ → Bool
bit m zero = eqb (m % 2) 1
bit m (suc i) = bit (m / 2) i

abbrev pub digit : Bool → ℕ
digit true = 1
digit false = 0

-- the mask (document 01's term) of the numbers i below n that have f
unfoldable pub mask : ℕ → (ℕ → Bool) → ℕ
mask zero f = 0
mask (suc n) f = digit (f zero) + 2 * mask n (λ i. f (suc i))

-- how many numbers below n have f
unfoldable pub count : ℕ → (ℕ → Bool) → ℕ
count zero f = 0
count (suc n) f = digit (f zero) + count n (λ i. f (suc i))

-- whether all numbers below n have f. (What a `let` binds is computed only where it is needed.)
unfoldable pub all_below : ℕ → (ℕ → Bool) → Bool
all_below zero f = true
all_below (suc n) f = let last = f n in all_below n f && last

-- the first number below n that has f; n where none has it
unfoldable pub first_below : ℕ → (ℕ → Bool) → ℕ
first_below zero f = zero
first_below (suc n) f =
    let later = first_below n (λ i. f (suc i)) in
    let next = suc later in
    cond (f zero) zero next

-- the lists f 0, f 1, .. f (n - 1) one after the other
unfoldable pub join_below : {A : Type 0} → ℕ → (ℕ → List A) → List A
join_below zero f = []
join_below (suc n) f = join_below n f ++ f n

-- Of the masks inside the set { i < n | f i }, number k: the members of the set are the binary digits of k, the lowest member least.
-- Numbers from 0 to 2 ^ count n f - 1 give each mask once, in rising order.
unfoldable pub submask : ℕ → (ℕ → Bool) → ℕ → ℕ
submask zero f k = 0
submask (suc n) f k = cond (f zero) (k % 2 + 2 * submask n (λ i. f (suc i)) (k / 2)) (2 * submask n (λ i. f (suc i)) k)
