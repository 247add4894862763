-- Definitions: the faults of a plan record, in document 01's order 2, 3, 4. Computed: pinned by `fine_exactly` of
-- judge/proofs/JudgeTheorems.antt.
use Rattle.std.specs.Prelude.{Bool, not, cond, ◌&&◌, ◌||◌, ℕ, ◌^◌, leb, ltb, eqb}
use Rattle.network.specs.Mask.{all_below}
use Rattle.network.specs.Below.{any_below}
use Rattle.masks.specs.Masks.{inside}
use Rattle.plan.specs.declared.Letter.{Letter}
use Rattle.plan.specs.declared.Constraint.{Constraint}
use Rattle.plan.specs.declared.Plan.{Plan}
use Rattle.plan.specs.declared.Refusal.TheVariants as refusal
use Rattle.plan.specs.Faults.{unless, first}
use Rattle.plan.specs.Plan.{letter_at, constraint_at}

-- 2: a head value outside its range
unfoldable pub head_fine : ℕ → ℕ → ℕ → ℕ → Bool
head_fine horizon points letters constraints =
    leb horizon 63 && leb 1 points && leb points 8 && leb letters 6 && leb letters points && leb constraints 64

-- 3: a letter with a bad point, a bad kind, a point already taken; an unused entry that is not zero
unfoldable pub taken_before : Plan → ℕ → ℕ → Bool
taken_before p i point = any_below i (λ k. eqb (letter_at p k).point point)

unfoldable pub letter_fine : Plan → ℕ → Letter → Bool
letter_fine p i l = ltb l.point p.points && leb l.kind 1 && not (taken_before p i l.point)

unfoldable pub letter_unused : Letter → Bool
letter_unused l = eqb l.point 0 && eqb l.kind 0

unfoldable pub letter_entry : Plan → ℕ → Bool
letter_entry p i = cond (ltb i p.letters) (letter_fine p i (letter_at p i)) (letter_unused (letter_at p i))

unfoldable pub letters_fine : Plan → Bool
letters_fine p = all_below 6 (letter_entry p)

-- 4: the same for a constraint: points, bound, masks, unused entry
unfoldable pub bound_fine : ℕ → Bool
bound_fine b = ltb b 1000 || (leb 64537 b && ltb b 65536)

unfoldable pub constraint_fine : Plan → Constraint → Bool
constraint_fine p c =
    ltb c.from p.points && ltb c.to p.points && bound_fine c.bound && ltb c.need (2 ^ p.letters)
    && inside c.truth c.need

unfoldable pub constraint_unused : Constraint → Bool
constraint_unused c = eqb c.from 0 && eqb c.to 0 && eqb c.bound 0 && eqb c.need 0 && eqb c.truth 0

unfoldable pub constraint_entry : Plan → ℕ → Bool
constraint_entry p j = cond (ltb j p.constraints) (constraint_fine p (constraint_at p j)) (constraint_unused (constraint_at p j))

unfoldable pub constraints_fine : Plan → Bool
constraints_fine p = all_below 64 (constraint_entry p)

-- the number of the first fault; 0 where there is none
unfoldable pub plan_fault : Plan → ℕ
plan_fault p =
    first (unless (head_fine p.horizon p.points p.letters p.constraints) refusal.Head)
    (first (unless (letters_fine p) refusal.Letters) (unless (constraints_fine p) refusal.Constraints))
