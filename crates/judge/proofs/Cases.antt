-- Cases: plan records at the edges of document 01's ranges, judged. Only the checker need believe this file; a reader may like to.
use mathlib.Core.Path.{◌≡◌, refl}
use mathlib.Core.List.{[], ◌∷◌, ◌++◌}
use lib.ListN.{replicate}
use Rattle.network.specs.Mask.{bit, all_below}
use Rattle.network.specs.Below.{any_below}
use Rattle.plan.specs.declared.Refusal.TheVariants as refusal
use Rattle.plan.specs.Refusal.{refusal_number}
use Rattle.plan.specs.Faults.{unless, first}
use Rattle.plan.specs.Plan.{zero_letter, zero_constraint}
use Rattle.plan.proofs.Cases.{letter, constraint, record_of, plan, k4}
use Rattle.judge.specs.Judge.{head_fine, taken_before, letter_fine, letter_unused, letter_entry, letters_fine, bound_fine, constraint_fine, constraint_unused, constraint_entry, constraints_fine, plan_fault}

-- ---- fine: both ends of each range

pub fine :
    (plan_fault k4 ≡ 0) × (plan_fault (plan 0 1 [] []) ≡ 0) × (plan_fault (plan 63 8 [] []) ≡ 0)
    × (plan_fault (plan 0 1 (letter 0 0 ∷ []) []) ≡ 0)
    × (plan_fault (plan 0 6 (letter 5 0 ∷ (letter 4 1 ∷ (letter 3 0 ∷ (letter 2 1 ∷ (letter 1 0 ∷ (letter 0 1 ∷ [])))))) []) ≡ 0)
    × (plan_fault (plan 0 1 [] (replicate 64 (constraint 0 0 999 0 0))) ≡ 0)
    × (plan_fault (plan 0 1 [] (constraint 0 0 64537 0 0 ∷ [])) ≡ 0)
    × (plan_fault (plan 0 2 (letter 0 0 ∷ (letter 1 0 ∷ [])) (constraint 1 1 0 3 3 ∷ [])) ≡ 0)
unfolding bit all_below any_below head_fine taken_before letter_fine letter_unused letter_entry letters_fine bound_fine constraint_fine constraint_unused constraint_entry constraints_fine plan_fault first unless
fine = (refl, refl, refl, refl, refl, refl, refl, refl)

-- ---- the head: just outside each range; before any fault of an entry

pub heads :
    (plan_fault (plan 64 1 [] []) ≡ refusal_number refusal.Head) × (plan_fault (plan 0 0 [] []) ≡ refusal_number refusal.Head)
    × (plan_fault (plan 0 9 [] []) ≡ refusal_number refusal.Head)
    × (plan_fault (record_of 0 8 7 0 [] []) ≡ refusal_number refusal.Head)
    × (plan_fault (plan 0 1 (letter 0 0 ∷ (letter 0 0 ∷ [])) []) ≡ refusal_number refusal.Head)
    × (plan_fault (record_of 0 1 0 65 [] []) ≡ refusal_number refusal.Head)
    × (plan_fault (plan 64 1 (letter 9 9 ∷ []) (constraint 9 9 1000 0 0 ∷ [])) ≡ refusal_number refusal.Head)
unfolding head_fine plan_fault first unless
heads = (refl, refl, refl, refl, refl, refl, refl)

-- ---- the letters: point, kind, a point taken, an unused entry; before any fault of a constraint

pub letters :
    (plan_fault (plan 0 1 (letter 1 0 ∷ []) []) ≡ refusal_number refusal.Letters)
    × (plan_fault (plan 0 1 (letter 0 2 ∷ []) []) ≡ refusal_number refusal.Letters)
    × (plan_fault (plan 0 3 (letter 2 0 ∷ (letter 1 0 ∷ (letter 2 1 ∷ []))) []) ≡ refusal_number refusal.Letters)
    × (plan_fault (record_of 0 2 0 0 (letter 1 0 ∷ []) []) ≡ refusal_number refusal.Letters)
    × (plan_fault (record_of 0 1 0 0 (replicate 5 zero_letter ++ (letter 0 1 ∷ [])) []) ≡ refusal_number refusal.Letters)
    × (plan_fault (plan 0 1 (letter 0 2 ∷ []) (constraint 9 9 1000 0 0 ∷ [])) ≡ refusal_number refusal.Letters)
unfolding all_below any_below head_fine taken_before letter_fine letter_unused letter_entry letters_fine plan_fault first unless
letters = (refl, refl, refl, refl, refl, refl)

-- ---- the constraints: points, bound, masks, an unused entry

pub constraints :
    (plan_fault (plan 0 1 [] (constraint 1 0 0 0 0 ∷ [])) ≡ refusal_number refusal.Constraints)
    × (plan_fault (plan 0 1 [] (constraint 0 1 0 0 0 ∷ [])) ≡ refusal_number refusal.Constraints)
    × (plan_fault (plan 0 1 [] (constraint 0 0 1000 0 0 ∷ [])) ≡ refusal_number refusal.Constraints)
    × (plan_fault (plan 0 1 [] (constraint 0 0 64536 0 0 ∷ [])) ≡ refusal_number refusal.Constraints)
    × (plan_fault (plan 0 1 (letter 0 0 ∷ []) (constraint 0 0 0 2 0 ∷ [])) ≡ refusal_number refusal.Constraints)
    × (plan_fault (plan 0 2 (letter 0 0 ∷ (letter 1 0 ∷ [])) (constraint 0 0 0 1 2 ∷ [])) ≡ refusal_number refusal.Constraints)
    × (plan_fault (record_of 0 2 0 0 [] (constraint 0 1 0 0 0 ∷ [])) ≡ refusal_number refusal.Constraints)
    × (plan_fault (record_of 0 1 0 63 [] (replicate 63 zero_constraint ++ (constraint 0 0 1 0 0 ∷ []))) ≡ refusal_number refusal.Constraints)
unfolding bit all_below any_below head_fine taken_before letter_fine letter_unused letter_entry letters_fine bound_fine constraint_fine constraint_unused constraint_entry constraints_fine plan_fault first unless
constraints = (refl, refl, refl, refl, refl, refl, refl, refl)
