-- Cases: verdicts and screens of document 01's plans and at the edges of its ranges, computed. Only the checker need believe this file; a
-- reader may like to.
use mathlib.Core.Path.{◌≡◌, refl}
use mathlib.Core.List.{List, [], ◌∷◌, ◌++◌}
use mathlib.Core.Bool.{Bool, true, false}
use Prim.Native.Nat.{ℕ, ◌-◌}
use lib.ListN.{length, replicate}
use Rattle.network.specs.Mask.{bit, all_below}
use Rattle.network.specs.Below.{any_below}
use Rattle.network.specs.Network.{holds}
use Rattle.network.specs.Raise.{least_from, asked, turn, turns}
use Rattle.plan.specs.declared.Plan.{Plan}
use Rattle.plan.specs.declared.Constraint.{Constraint}
use Rattle.plan.specs.Answer.{Answer, fine}
use Rattle.plan.specs.Faults.{unless, first, answered}
use Rattle.plan.specs.Plan.{signed, listed}
use Rattle.judge.specs.Judge.{head_fine, taken_before, letter_fine, letter_unused, letter_entry, letters_fine, bound_fine, constraint_fine, constraint_unused, constraint_entry, constraints_fine, plan_fault}
use Rattle.plan.proofs.Cases.{letter, constraint, plan, one_point, k4, k5, k6, k7, k8}
use Rattle.verdict.specs.Verdict.{climbed, least_slots, within_horizon, fixed, verdict_of, verdict_fault, least_schedule, passes, screened}
use Rattle.verdict.specs.Answers.{Fixed, none}

-- the least schedule: the slots of the first points; the other entries are zero
abbrev schedule : List ℕ → Answer Fixed
schedule slots = fine (record { scheduled = true; slots = slots ++ replicate (8 - length slots) 0 })

abbrev no_schedule : Answer Fixed
no_schedule = fine none

abbrev refuses : ℕ → Answer Fixed
refuses n = record { fault = n; value = none }

-- ---- document 01's plans

-- K1, K2, K3: one point; before itself; not before itself. K4 and K5 where letter 0 is true: point 1 at most 1 after point 0; where it is
-- false: at least 2 after it
pub k1_to_k5 :
    (least_schedule (one_point []) 0 ≡ schedule (0 ∷ [])) × (least_schedule (one_point (constraint 0 0 65535 0 0 ∷ [])) 0 ≡ no_schedule)
    × (least_schedule (one_point (constraint 0 0 0 0 0 ∷ [])) 0 ≡ schedule (0 ∷ []))
    × (least_schedule k4 1 ≡ schedule (0 ∷ 0 ∷ [])) × (least_schedule k4 0 ≡ schedule (0 ∷ 2 ∷ []))
    × (least_schedule k5 1 ≡ schedule (0 ∷ 0 ∷ [])) × (least_schedule k5 0 ≡ no_schedule)
unfolding bit all_below any_below holds least_from asked turn turns climbed least_slots within_horizon fixed verdict_of verdict_fault least_schedule unless first answered signed listed head_fine taken_before letter_fine letter_unused letter_entry letters_fine bound_fine constraint_fine constraint_unused constraint_entry constraints_fine plan_fault
k1_to_k5 = (refl, refl, refl, refl, refl, refl, refl)

-- K6 is well formed and passes the screen, hopeless as it is; the decision of K7 and K8 may go either way, and at horizon 1 one way fails
pub screens :
    (plan_fault k6 ≡ 0) × (screened k6 ≡ fine true) × (screened k4 ≡ fine true) × (screened k5 ≡ fine false) × (screened k7 ≡ fine true)
    × (screened k8 ≡ fine false)
unfolding bit all_below any_below holds least_from asked turn turns climbed least_slots within_horizon fixed verdict_of passes screened unless first answered signed listed head_fine taken_before letter_fine letter_unused letter_entry letters_fine bound_fine constraint_fine constraint_unused constraint_entry constraints_fine plan_fault
screens = (refl, refl, refl, refl, refl, refl)

-- ---- the climb

-- each of eight points after the one before it; the last of them is looked at first, so that seven rounds move a point
abbrev chain : ℕ → Plan
chain horizon =
    plan horizon 8 []
    (constraint 7 6 65535 0 0 ∷ (constraint 6 5 65535 0 0 ∷ (constraint 5 4 65535 0 0 ∷ (constraint 4 3 65535 0 0 ∷ (constraint 3 2 65535 0 0
    ∷ (constraint 2 1 65535 0 0 ∷ (constraint 1 0 65535 0 0 ∷ [])))))))

-- point 1 at least 1 after point 0 and at most d after it
abbrev cycle : ℕ → Plan
cycle d = plan 63 2 [] (constraint 1 0 65535 0 0 ∷ (constraint 0 1 d 0 0 ∷ []))

-- slot 1, asked of point 0 and handed on from point to point, with horizon 1: more rounds than slots
abbrev handed_on : Plan
handed_on =
    plan 1 8 []
    (constraint 6 5 0 0 0 ∷ (constraint 5 4 0 0 0 ∷ (constraint 4 3 0 0 0 ∷ (constraint 3 2 0 0 0 ∷ (constraint 2 1 0 0 0
    ∷ (constraint 1 0 0 0 0 ∷ (constraint 0 7 65535 0 0 ∷ [])))))))

-- The chain ends at the horizon, or one slot past it. A cycle of -1 and 1 has a schedule, one of -1 and 0 climbs past slot 63. A point that
-- an earlier constraint looked at is raised by a later one, and the earlier one asks again.
pub climbs :
    (least_schedule (chain 7) 0 ≡ schedule (0 ∷ 1 ∷ 2 ∷ 3 ∷ 4 ∷ 5 ∷ 6 ∷ 7 ∷ [])) × (least_schedule (chain 6) 0 ≡ no_schedule)
    × (least_schedule (cycle 1) 0 ≡ schedule (0 ∷ 1 ∷ [])) × (least_schedule (cycle 0) 0 ≡ no_schedule)
    × (least_schedule handed_on 0 ≡ schedule (1 ∷ 1 ∷ 1 ∷ 1 ∷ 1 ∷ 1 ∷ 1 ∷ 0 ∷ []))
    × (least_schedule (plan 9 3 [] (constraint 0 1 1 0 0 ∷ (constraint 1 2 65532 0 0 ∷ []))) 0 ≡ schedule (3 ∷ 4 ∷ 0 ∷ []))
unfolding bit all_below any_below holds least_from asked turn turns climbed least_slots within_horizon fixed verdict_of verdict_fault least_schedule unless first answered signed listed head_fine taken_before letter_fine letter_unused letter_entry letters_fine bound_fine constraint_fine constraint_unused constraint_entry constraints_fine plan_fault
climbs = (refl, refl, refl, refl, refl, refl)

-- ---- bounds

-- point 0 at least 20 after point 2, point 1 at most d before it
abbrev before : ℕ → Plan
before d = plan 20 3 [] (constraint 0 2 65516 0 0 ∷ (constraint 1 0 d 0 0 ∷ []))

-- 999, 20, 19 and 0 slots before slot 20, the last, and -1: past it. A point 999, 63 and 64 after another where slot 63 is the last.
pub bounds :
    (least_schedule (before 999) 0 ≡ schedule (20 ∷ 0 ∷ 0 ∷ [])) × (least_schedule (before 20) 0 ≡ schedule (20 ∷ 0 ∷ 0 ∷ []))
    × (least_schedule (before 19) 0 ≡ schedule (20 ∷ 1 ∷ 0 ∷ [])) × (least_schedule (before 0) 0 ≡ schedule (20 ∷ 20 ∷ 0 ∷ []))
    × (least_schedule (before 65535) 0 ≡ no_schedule)
    × (least_schedule (plan 63 2 [] (constraint 1 0 64537 0 0 ∷ [])) 0 ≡ no_schedule)
    × (least_schedule (plan 63 2 [] (constraint 1 0 65473 0 0 ∷ [])) 0 ≡ schedule (0 ∷ 63 ∷ []))
    × (least_schedule (plan 63 2 [] (constraint 1 0 65472 0 0 ∷ [])) 0 ≡ no_schedule)
unfolding bit all_below any_below holds least_from asked turn turns climbed least_slots within_horizon fixed verdict_of verdict_fault least_schedule unless first answered signed listed head_fine taken_before letter_fine letter_unused letter_entry letters_fine bound_fine constraint_fine constraint_unused constraint_entry constraints_fine plan_fault
bounds = (refl, refl, refl, refl, refl, refl, refl, refl)

-- ---- labels: letters 0 and 1 at points 0 and 1

abbrev two_letters : ℕ → List Constraint → Plan
two_letters horizon cs = plan horizon 3 (letter 0 0 ∷ (letter 1 1 ∷ [])) cs

-- point 2 at least 1, 2, 3, 4 after point 0 where the letters are 00, 01, 10, 11, the lower letter last
abbrev four_ways : Plan
four_ways =
    two_letters 4
    (constraint 2 0 65535 3 0 ∷ (constraint 2 0 65534 3 1 ∷ (constraint 2 0 65533 3 2 ∷ (constraint 2 0 65532 3 3 ∷ []))))

-- point 2 at least 1 after point 0 where letter 1 is false, point 1 at least 2 after it where letter 0 is true
abbrev one_each : Plan
one_each = two_letters 4 (constraint 2 0 65535 2 0 ∷ (constraint 1 0 65534 1 1 ∷ []))

pub labels :
    (least_schedule four_ways 0 ≡ schedule (0 ∷ 0 ∷ 1 ∷ [])) × (least_schedule four_ways 1 ≡ schedule (0 ∷ 0 ∷ 2 ∷ []))
    × (least_schedule four_ways 2 ≡ schedule (0 ∷ 0 ∷ 3 ∷ [])) × (least_schedule four_ways 3 ≡ schedule (0 ∷ 0 ∷ 4 ∷ []))
    × (least_schedule one_each 0 ≡ schedule (0 ∷ 0 ∷ 1 ∷ [])) × (least_schedule one_each 1 ≡ schedule (0 ∷ 2 ∷ 1 ∷ []))
    × (least_schedule one_each 2 ≡ schedule (0 ∷ 0 ∷ 0 ∷ [])) × (least_schedule one_each 3 ≡ schedule (0 ∷ 2 ∷ 0 ∷ []))
unfolding bit all_below any_below holds least_from asked turn turns climbed least_slots within_horizon fixed verdict_of verdict_fault least_schedule unless first answered signed listed head_fine taken_before letter_fine letter_unused letter_entry letters_fine bound_fine constraint_fine constraint_unused constraint_entry constraints_fine plan_fault
labels = (refl, refl, refl, refl, refl, refl, refl, refl)

-- ---- entries: eight zeros with no constraint, and beside "none"; zeros behind the points

pub entries :
    (least_schedule (plan 63 8 [] []) 0 ≡ fine (record { scheduled = true; slots = 0 ∷ 0 ∷ 0 ∷ 0 ∷ 0 ∷ 0 ∷ 0 ∷ 0 ∷ [] }))
    × (least_schedule k4 0 ≡ fine (record { scheduled = true; slots = 0 ∷ 2 ∷ 0 ∷ 0 ∷ 0 ∷ 0 ∷ 0 ∷ 0 ∷ [] }))
    × (least_schedule k5 0 ≡ fine (record { scheduled = false; slots = 0 ∷ 0 ∷ 0 ∷ 0 ∷ 0 ∷ 0 ∷ 0 ∷ 0 ∷ [] }))
unfolding bit all_below any_below holds least_from asked turn turns climbed least_slots within_horizon fixed verdict_of verdict_fault least_schedule unless first answered signed listed head_fine taken_before letter_fine letter_unused letter_entry letters_fine bound_fine constraint_fine constraint_unused constraint_entry constraints_fine plan_fault
entries = (refl, refl, refl)

-- ---- refusals

-- a fault of the head, of a letter, of a constraint, each with the later ones beside it
abbrev bad_head : Plan
bad_head = plan 64 2 (letter 2 0 ∷ []) (constraint 2 0 0 0 0 ∷ [])

abbrev bad_letter : Plan
bad_letter = plan 2 2 (letter 2 0 ∷ []) (constraint 2 0 0 0 0 ∷ [])

abbrev bad_constraint : Plan
bad_constraint = plan 2 2 (letter 0 0 ∷ []) (constraint 2 0 0 0 0 ∷ [])

abbrev six_letters : List Constraint → Plan
six_letters = plan 0 6 (letter 0 0 ∷ (letter 1 1 ∷ (letter 2 0 ∷ (letter 3 1 ∷ (letter 4 0 ∷ (letter 5 1 ∷ []))))))

-- the plan's fault before the mask's
pub plan_before_mask :
    (least_schedule bad_head 2 ≡ refuses 2) × (least_schedule bad_head 0 ≡ refuses 2) × (least_schedule bad_letter 255 ≡ refuses 3)
    × (least_schedule bad_constraint 128 ≡ refuses 4) × (least_schedule bad_constraint 1 ≡ refuses 4)
    × (least_schedule (plan 2 2 [] (constraint 1 0 1000 0 0 ∷ [])) 1 ≡ refuses 4)
unfolding bit all_below any_below holds least_from asked turn turns climbed least_slots within_horizon fixed verdict_of verdict_fault least_schedule unless first answered signed listed head_fine taken_before letter_fine letter_unused letter_entry letters_fine bound_fine constraint_fine constraint_unused constraint_entry constraints_fine plan_fault
plan_before_mask = (refl, refl, refl, refl, refl, refl)

-- a letter that the plan lacks; each letter that it has
pub masks :
    (least_schedule (one_point []) 1 ≡ refuses 8) × (least_schedule (one_point []) 128 ≡ refuses 8) × (least_schedule k4 2 ≡ refuses 8)
    × (least_schedule k4 3 ≡ refuses 8) × (least_schedule (six_letters []) 63 ≡ schedule (0 ∷ 0 ∷ 0 ∷ 0 ∷ 0 ∷ 0 ∷ []))
    × (least_schedule (six_letters []) 64 ≡ refuses 8) × (least_schedule (six_letters []) 128 ≡ refuses 8)
    × (least_schedule (six_letters []) 255 ≡ refuses 8)
unfolding bit all_below any_below holds least_from asked turn turns climbed least_slots within_horizon fixed verdict_of verdict_fault least_schedule unless first answered signed listed head_fine taken_before letter_fine letter_unused letter_entry letters_fine bound_fine constraint_fine constraint_unused constraint_entry constraints_fine plan_fault
masks = (refl, refl, refl, refl, refl, refl, refl, refl)

-- ---- the screen

abbrev screen_refuses : ℕ → Answer Bool
screen_refuses n = record { fault = n; value = false }

pub screen_faults :
    (screened bad_head ≡ screen_refuses 2) × (screened bad_letter ≡ screen_refuses 3) × (screened bad_constraint ≡ screen_refuses 4)
unfolding bit all_below any_below holds least_from asked turn turns climbed least_slots within_horizon fixed verdict_of passes screened unless first answered signed listed head_fine taken_before letter_fine letter_unused letter_entry letters_fine bound_fine constraint_fine constraint_unused constraint_entry constraints_fine plan_fault
screen_faults = (refl, refl, refl)

-- a constraint that no slot keeps, where the letters that are needed are these
abbrev never : ℕ → ℕ → List Constraint
never n t = constraint 0 0 65535 n t ∷ []

-- one setting fails: the first, one in the middle, the last; of two letters and of six
pub one_setting_fails :
    (screened (two_letters 1 []) ≡ fine true) × (screened (two_letters 1 (never 3 0)) ≡ fine false)
    × (screened (two_letters 1 (never 3 1)) ≡ fine false) × (screened (two_letters 1 (never 3 2)) ≡ fine false)
    × (screened (two_letters 1 (never 3 3)) ≡ fine false) × (screened (six_letters []) ≡ fine true)
    × (screened (six_letters (never 63 42)) ≡ fine false) × (screened (six_letters (never 63 63)) ≡ fine false)
unfolding bit all_below any_below holds least_from asked turn turns climbed least_slots within_horizon fixed verdict_of passes screened unless first answered signed listed head_fine taken_before letter_fine letter_unused letter_entry letters_fine bound_fine constraint_fine constraint_unused constraint_entry constraints_fine plan_fault
one_setting_fails = (refl, refl, refl, refl, refl, refl, refl, refl)

-- .. and the others have a schedule
pub the_others_do :
    (least_schedule (two_letters 1 (never 3 2)) 0 ≡ schedule (0 ∷ 0 ∷ 0 ∷ []))
    × (least_schedule (two_letters 1 (never 3 2)) 1 ≡ schedule (0 ∷ 0 ∷ 0 ∷ [])) × (least_schedule (two_letters 1 (never 3 2)) 2 ≡ no_schedule)
    × (least_schedule (two_letters 1 (never 3 2)) 3 ≡ schedule (0 ∷ 0 ∷ 0 ∷ []))
    × (least_schedule (six_letters (never 63 63)) 62 ≡ schedule (0 ∷ 0 ∷ 0 ∷ 0 ∷ 0 ∷ 0 ∷ []))
    × (least_schedule (six_letters (never 63 63)) 63 ≡ no_schedule)
unfolding bit all_below any_below holds least_from asked turn turns climbed least_slots within_horizon fixed verdict_of verdict_fault least_schedule unless first answered signed listed head_fine taken_before letter_fine letter_unused letter_entry letters_fine bound_fine constraint_fine constraint_unused constraint_entry constraints_fine plan_fault
the_others_do = (refl, refl, refl, refl, refl, refl)
