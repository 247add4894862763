-- Cases: document 01's plans K1 to K5 and K7 to K10, searched by computing (K6 takes seconds, and stands in cases/proofs/SearchCases.antt);
-- moves in their order; each refusal. Only the checker need believe this file; a reader may like to.
use mathlib.Core.Path.{◌≡◌, refl}
use mathlib.Core.List.{List, [], ◌∷◌, ◌++◌}
use mathlib.Core.Bool.{true}
use Prim.Native.Nat.{ℕ}
use lib.ListN.{replicate}
use Rattle.network.specs.Mask.{bit, mask, count, all_below, first_below, join_below, submask}
use Rattle.network.specs.Below.{any_below, sum_below}
use Rattle.network.specs.Network.{holds, projected, at_most, feasible, keeps}
use Rattle.network.specs.Game.{start, after}
use Rattle.network.specs.Tree.{preorder}
use Rattle.network.specs.Sizes.{nodes}
use Rattle.network.specs.Search.{over, wins_by, wins_with, wins_in, winnable, first_move, first_tree_from, hopeless}
use Rattle.plan.specs.declared.Plan.{Plan}
use Rattle.plan.specs.declared.Constraint.{Constraint}
use Rattle.plan.specs.Answer.{Answer, fine}
use Rattle.plan.specs.Faults.{unless, first, answered}
use Rattle.plan.specs.Plan.{signed, listed, network_of}
use Rattle.plan.proofs.Cases.{letter, constraint, record_of, plan, one_point, k4, k5, k7, k8}
use Rattle.judge.specs.Judge.{head_fine, taken_before, letter_fine, letter_unused, letter_entry, letters_fine}
use Rattle.judge.specs.Judge.{bound_fine, constraint_fine, constraint_unused, constraint_entry, constraints_fine, plan_fault}
use Rattle.tree.specs.Trees.{moves_bytes}
use Rattle.checker.proofs.Cases.{k4_tree, never, four_ways}
use Rattle.search.specs.Search.{search_fault, search_answer, search_leaves}

-- ---- What is computed here. To unfold a name of this section is to unfold all that its line names.

masks_and_networks : Unit {0}
unfolding bit mask count all_below any_below first_below sum_below join_below submask holds projected at_most feasible keeps
masks_and_networks = tt

the_game : Unit {0}
unfolding start after preorder nodes over wins_by wins_with wins_in winnable first_move first_tree_from
the_game = tt

head_and_letters : Unit {0}
unfolding head_fine taken_before letter_fine letter_unused letter_entry letters_fine
head_and_letters = tt

the_plan : Unit {0}
unfolding signed listed head_and_letters bound_fine constraint_fine constraint_unused constraint_entry constraints_fine plan_fault
the_plan = tt

the_answer : Unit {0}
unfolding unless first answered moves_bytes search_fault search_leaves
the_answer = tt

unfoldable pub computing : Unit {0}
unfolding masks_and_networks the_game the_plan the_answer
computing = tt

-- ---- What is lent, and what is to be found in it.

-- 575 bytes are lent, none of them 0
abbrev pub lent : List ℕ
lent = replicate 573 255 ++ (7 ∷ 8 ∷ [])

-- a tree, so many zeros behind it, and the last two bytes as they were
abbrev pub holding : List ℕ → ℕ → List ℕ
holding tree n = tree ++ (replicate n 0 ++ (7 ∷ 8 ∷ []))

abbrev pub refuses : ℕ → Answer ℕ
refuses n = record { fault = n; value = 0 }

-- given xs, the search answers a and leaves ys
abbrev Gives : Plan → List ℕ → Answer ℕ → List ℕ → Type 0
Gives p xs a ys = (search_answer p xs ≡ a) × (search_leaves p xs ≡ ys)

-- ---- document 01's plans

abbrev before_itself : Constraint
before_itself = constraint 0 0 65535 0 0

-- one point; before itself; not before itself
pub k1_to_k3 :
    Gives (one_point []) lent (fine 1) (holding (0 ∷ 1 ∷ 0 ∷ []) 570)
    × Gives (one_point (before_itself ∷ [])) lent (refuses 11) (holding [] 573)
    × Gives (one_point (constraint 0 0 0 0 0 ∷ [])) lent (fine 1) (holding (0 ∷ 1 ∷ 0 ∷ []) 570)
unfolding computing
k1_to_k3 = ((refl, refl), (refl, refl), (refl, refl))

-- K4 is the program's example, K5 the same at horizon 1
pub k4_and_k5 : Gives k4 lent (fine 3) (holding k4_tree 564) × Gives k5 lent (refuses 11) (holding [] 573)
unfolding computing
k4_and_k5 = ((refl, refl), (refl, refl))

-- K6 with a decision for the condition, at horizon 2 and at horizon 1
pub k7_and_k8 :
    Gives k7 lent (fine 2) (holding (0 ∷ 1 ∷ 0 ∷ 2 ∷ 2 ∷ 0 ∷ []) 567) × Gives k8 lent (fine 2) (holding (0 ∷ 2 ∷ 0 ∷ 1 ∷ 1 ∷ 1 ∷ []) 567)
unfolding computing
k7_and_k8 = ((refl, refl), (refl, refl))

-- K9, K10: condition 0 at point 0, decision 1 at point 1, point 1 at most d after point 0, self-loops where the letters differ
abbrev copied : ℕ → Plan
copied d =
    plan 1 2 (letter 0 0 ∷ (letter 1 1 ∷ [])) (constraint 0 1 d 0 0 ∷ (constraint 0 0 65535 3 1 ∷ (constraint 0 0 65535 3 2 ∷ [])))

pub k9_and_k10 :
    Gives (copied 1) lent (fine 3) (holding (0 ∷ 1 ∷ 0 ∷ 1 ∷ 2 ∷ 0 ∷ 1 ∷ 2 ∷ 2 ∷ []) 564)
    × Gives (copied 0) lent (refuses 11) (holding [] 573)
unfolding computing
k9_and_k10 = ((refl, refl), (refl, refl))

-- ---- moves and outcomes in their order

-- the slot first, then the points: one of two free points, then the other; both where there is one slot only
pub slots_and_points :
    Gives (plan 1 2 [] []) lent (fine 2) (holding (0 ∷ 1 ∷ 0 ∷ 1 ∷ 2 ∷ 0 ∷ []) 567)
    × Gives (plan 0 2 [] []) lent (fine 1) (holding (0 ∷ 3 ∷ 0 ∷ []) 570)
unfolding computing
slots_and_points = ((refl, refl), (refl, refl))

-- Then the choices: false first, and true where no slot keeps the constraint that false makes relevant. Where the letter is a condition,
-- neither value may come to that, behind the last node either.
pub choices_and_outcomes :
    Gives (plan 3 1 (letter 0 1 ∷ []) []) lent (fine 1) (holding (0 ∷ 1 ∷ 0 ∷ []) 570)
    × Gives (plan 3 1 (letter 0 1 ∷ []) (never 0 ∷ [])) lent (fine 1) (holding (0 ∷ 1 ∷ 1 ∷ []) 570)
    × Gives (plan 3 1 (letter 0 0 ∷ []) (never 0 ∷ [])) lent (refuses 11) (holding [] 573)
    × Gives (plan 3 1 (letter 0 0 ∷ []) (never 1 ∷ [])) lent (refuses 11) (holding [] 573)
unfolding computing
choices_and_outcomes = ((refl, refl), (refl, refl), (refl, refl), (refl, refl))

-- two conditions heard in one move: point 2 exactly 1, 2, 3, 4 after point 0 where they are 00, 01, 10, 11, the lower letter last
pub outcomes_in_order : Gives four_ways lent (fine 5) (holding (0 ∷ 3 ∷ 0 ∷ 1 ∷ 4 ∷ 0 ∷ 2 ∷ 4 ∷ 0 ∷ 3 ∷ 4 ∷ 0 ∷ 4 ∷ 4 ∷ 0 ∷ []) 558)
unfolding computing
outcomes_in_order = (refl, refl)

-- ---- refusals

-- 10 for 572 bytes and for none, whatever the plan; 573 are enough
pub short : (p : Plan) → Gives p (replicate 572 255) (refuses 10) (replicate 572 255) × Gives p [] (refuses 10) []
unfolding the_answer
short p = ((refl, refl), (refl, refl))

pub just_enough : Gives k4 (replicate 573 255) (fine 3) (k4_tree ++ replicate 564 0)
unfolding computing
just_enough = (refl, refl)

-- K2 with horizon 64; with an unused letter that is not zero; with a constraint on a point that it lacks
abbrev bad_head : Plan
bad_head = plan 64 1 [] (before_itself ∷ [])

abbrev bad_letter : Plan
bad_letter = record_of 3 1 0 1 (letter 0 1 ∷ []) (before_itself ∷ [])

abbrev bad_constraint : Plan
bad_constraint = one_point (before_itself ∷ (constraint 1 0 0 0 0 ∷ []))

-- they are hopeless all the same, and yet they get 2, 3 and 4, and every byte stays
pub plan_before_hopeless :
    ((hopeless (network_of bad_head) ≡ true) × Gives bad_head lent (refuses 2) lent)
    × ((hopeless (network_of bad_letter) ≡ true) × Gives bad_letter lent (refuses 3) lent)
    × ((hopeless (network_of bad_constraint) ≡ true) × Gives bad_constraint lent (refuses 4) lent)
unfolding computing
plan_before_hopeless = ((refl, (refl, refl)), (refl, (refl, refl)), (refl, (refl, refl)))
