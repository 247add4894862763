-- Cases: trees, checked by computing: document 01's K4 and K11 to K13, and a tree for each rule that can be broken. Only the checker need
-- believe this file; a reader may like to.
use mathlib.Core.Path.{◌≡◌, refl}
use mathlib.Core.List.{List, [], ◌∷◌, ◌++◌}
use Prim.Native.Nat.{ℕ}
use lib.ListN.{replicate}
use Rattle.network.specs.Mask.{bit, mask, count, all_below, submask}
use Rattle.network.specs.Below.{any_below}
use Rattle.network.specs.Network.{holds, projected, at_most, feasible, keeps}
use Rattle.network.specs.TestLabel.{disagrees, all_known, label_test}
use Rattle.network.specs.Game.{start, after}
use Rattle.network.specs.SoFar.{all_kept_so_far, keeps_so_far}
use Rattle.network.specs.Search.{over}
use Rattle.plan.specs.declared.Plan.{Plan}
use Rattle.plan.specs.declared.Constraint.{Constraint}
use Rattle.plan.specs.Faults.{unless, first}
use Rattle.plan.specs.Plan.{signed, listed}
use Rattle.plan.proofs.Cases.{letter, constraint, plan, record_of, k4, k5}
use Rattle.judge.specs.Judge.{head_fine, taken_before, letter_fine, letter_unused, letter_entry, letters_fine, bound_fine, constraint_fine, constraint_unused, constraint_entry, constraints_fine, plan_fault}
use Rattle.tree.specs.Nodes.{legal_length}
use Rattle.game.specs.Position.{is_legal}
use Rattle.checker.specs.Checker.{with_subtrees, node_and_below, subtree_in, tree_fault, check_fault}

-- ---- something broken at an inner node (card 1): three points, point 1 at least 1 after point 0, both performed by the first node. The shape
-- decides first: a point again, a node missing, a node too many; then 7. One slot apart the tree is accepted. (What is kept so far is unfolded
-- too, so that a definition that ends a path there computes otherwise: checker/seven_at_inner_node.)

abbrev apart : Plan
apart = plan 3 3 [] (constraint 1 0 65535 0 0 ∷ [])

pub broken_inside :
    (check_fault apart (0 ∷ 3 ∷ 0 ∷ 1 ∷ 1 ∷ 0 ∷ []) ≡ 6) × (check_fault apart (0 ∷ 3 ∷ 0 ∷ []) ≡ 6)
    × (check_fault apart (0 ∷ 3 ∷ 0 ∷ 1 ∷ 4 ∷ 0 ∷ 2 ∷ 4 ∷ 0 ∷ []) ≡ 6) × (check_fault apart (0 ∷ 3 ∷ 0 ∷ 1 ∷ 4 ∷ 0 ∷ []) ≡ 7)
    × (check_fault apart (0 ∷ 1 ∷ 0 ∷ 1 ∷ 6 ∷ 0 ∷ []) ≡ 0)
unfolding bit mask count all_below any_below submask holds projected at_most feasible keeps start after over unless first signed listed head_fine taken_before letter_fine letter_unused letter_entry letters_fine bound_fine constraint_fine constraint_unused constraint_entry constraints_fine plan_fault legal_length is_legal with_subtrees node_and_below subtree_in tree_fault check_fault disagrees all_known label_test all_kept_so_far keeps_so_far
broken_inside = (refl, refl, refl, refl, refl)

-- ---- K4 and its trees

abbrev pub k4_tree : List ℕ
k4_tree = 0 ∷ 1 ∷ 0 ∷ 2 ∷ 2 ∷ 0 ∷ 1 ∷ 2 ∷ 0 ∷ []

-- its children exchanged; a child in slot 0
abbrev pub k11_tree : List ℕ
k11_tree = 0 ∷ 1 ∷ 0 ∷ 1 ∷ 2 ∷ 0 ∷ 2 ∷ 2 ∷ 0 ∷ []

abbrev k12_tree : List ℕ
k12_tree = 0 ∷ 1 ∷ 0 ∷ 0 ∷ 2 ∷ 0 ∷ 1 ∷ 2 ∷ 0 ∷ []

pub k4_and_k11_to_k13 :
    (check_fault k4 k4_tree ≡ 0) × (check_fault k4 k11_tree ≡ 7) × (check_fault k4 k12_tree ≡ 6) × (check_fault k5 k4_tree ≡ 6)
unfolding bit mask count all_below any_below submask holds projected at_most feasible keeps start after over unless first signed listed head_fine taken_before letter_fine letter_unused letter_entry letters_fine bound_fine constraint_fine constraint_unused constraint_entry constraints_fine plan_fault legal_length is_legal with_subtrees node_and_below subtree_in tree_fault check_fault
k4_and_k11_to_k13 = (refl, refl, refl, refl)

-- ---- the byte length: none, not a multiple of 3, 576; a node missing, a node too many

pub lengths :
    (check_fault k4 [] ≡ 6) × (check_fault k4 (k4_tree ++ (0 ∷ [])) ≡ 6) × (check_fault k4 (replicate 576 0) ≡ 6)
    × (check_fault k4 (0 ∷ 1 ∷ 0 ∷ 2 ∷ 2 ∷ 0 ∷ []) ≡ 6) × (check_fault k4 (k4_tree ++ (1 ∷ 2 ∷ 0 ∷ [])) ≡ 6)
unfolding bit mask count all_below any_below submask holds projected at_most feasible keeps start after over unless first signed listed head_fine taken_before letter_fine letter_unused letter_entry letters_fine bound_fine constraint_fine constraint_unused constraint_entry constraints_fine plan_fault legal_length is_legal with_subtrees node_and_below subtree_in tree_fault check_fault
lengths = (refl, refl, refl, refl, refl)

-- ---- the shape: two points, decision 0 at point 1, horizon 3, no constraint

abbrev free : Plan
free = plan 3 2 (letter 1 1 ∷ []) []

-- two slots, each choice; both points in one slot
pub sound_shapes :
    (check_fault free (0 ∷ 1 ∷ 0 ∷ 3 ∷ 2 ∷ 1 ∷ []) ≡ 0) × (check_fault free (2 ∷ 2 ∷ 0 ∷ 3 ∷ 1 ∷ 0 ∷ []) ≡ 0)
    × (check_fault free (3 ∷ 3 ∷ 1 ∷ []) ≡ 0)
unfolding bit mask count all_below any_below submask holds projected at_most feasible keeps start after over unless first signed listed head_fine taken_before letter_fine letter_unused letter_entry letters_fine bound_fine constraint_fine constraint_unused constraint_entry constraints_fine plan_fault legal_length is_legal with_subtrees node_and_below subtree_in tree_fault check_fault
sound_shapes = (refl, refl, refl)

-- no point; a point that the plan lacks; a point again; the slot again; a slot past the horizon; a choice for a decision not disclosed
-- here; one for a letter that the plan lacks
pub broken_shapes :
    (check_fault free (0 ∷ 0 ∷ 0 ∷ 0 ∷ 3 ∷ 0 ∷ []) ≡ 6) × (check_fault free (0 ∷ 7 ∷ 0 ∷ []) ≡ 6)
    × (check_fault free (0 ∷ 1 ∷ 0 ∷ 1 ∷ 3 ∷ 0 ∷ []) ≡ 6) × (check_fault free (1 ∷ 1 ∷ 0 ∷ 1 ∷ 2 ∷ 0 ∷ []) ≡ 6)
    × (check_fault free (0 ∷ 1 ∷ 0 ∷ 4 ∷ 2 ∷ 0 ∷ []) ≡ 6) × (check_fault free (0 ∷ 1 ∷ 1 ∷ 1 ∷ 2 ∷ 0 ∷ []) ≡ 6)
    × (check_fault free (0 ∷ 3 ∷ 2 ∷ []) ≡ 6)
unfolding bit mask count all_below any_below submask holds projected at_most feasible keeps start after over unless first signed listed head_fine taken_before letter_fine letter_unused letter_entry letters_fine bound_fine constraint_fine constraint_unused constraint_entry constraints_fine plan_fault legal_length is_legal with_subtrees node_and_below subtree_in tree_fault check_fault
broken_shapes = (refl, refl, refl, refl, refl, refl, refl)

-- ---- a last node that hears: one point, condition 0 at it. Each outcome is a path, though there is no child.

-- a constraint that no slot keeps, where the condition has this value
abbrev pub never : ℕ → Constraint
never v = constraint 0 0 65535 1 v

pub last_node :
    (check_fault (plan 3 1 (letter 0 0 ∷ []) []) (0 ∷ 1 ∷ 0 ∷ []) ≡ 0)
    × (check_fault (plan 3 1 (letter 0 0 ∷ []) (never 0 ∷ [])) (0 ∷ 1 ∷ 0 ∷ []) ≡ 7)
    × (check_fault (plan 3 1 (letter 0 0 ∷ []) (never 1 ∷ [])) (0 ∷ 1 ∷ 0 ∷ []) ≡ 7)
    × (check_fault (plan 3 1 (letter 0 1 ∷ []) (never 1 ∷ [])) (0 ∷ 1 ∷ 0 ∷ []) ≡ 0)
unfolding bit mask count all_below any_below submask holds projected at_most feasible keeps start after over unless first signed listed head_fine taken_before letter_fine letter_unused letter_entry letters_fine bound_fine constraint_fine constraint_unused constraint_entry constraints_fine plan_fault legal_length is_legal with_subtrees node_and_below subtree_in tree_fault check_fault
last_node = (refl, refl, refl, refl)

-- ---- two conditions heard in one move: the children stand in the order 00, 01, 10, 11, where the lowest letter is the last digit

-- point 2 at most d after point 0, and at least d after it, where the conditions are o
abbrev exactly : ℕ → ℕ → ℕ → List Constraint
exactly d minus o = constraint 0 2 d 3 o ∷ (constraint 2 0 minus 3 o ∷ [])

abbrev pub four_ways : Plan
four_ways =
    plan 4 3 (letter 0 0 ∷ (letter 1 0 ∷ [])) (exactly 1 65535 0 ++ exactly 2 65534 1 ++ exactly 3 65533 2 ++ exactly 4 65532 3)

pub outcomes_in_order :
    (check_fault four_ways (0 ∷ 3 ∷ 0 ∷ 1 ∷ 4 ∷ 0 ∷ 2 ∷ 4 ∷ 0 ∷ 3 ∷ 4 ∷ 0 ∷ 4 ∷ 4 ∷ 0 ∷ []) ≡ 0)
    × (check_fault four_ways (0 ∷ 3 ∷ 0 ∷ 1 ∷ 4 ∷ 0 ∷ 3 ∷ 4 ∷ 0 ∷ 2 ∷ 4 ∷ 0 ∷ 4 ∷ 4 ∷ 0 ∷ []) ≡ 7)
    × (check_fault four_ways (0 ∷ 3 ∷ 0 ∷ 4 ∷ 4 ∷ 0 ∷ 3 ∷ 4 ∷ 0 ∷ 2 ∷ 4 ∷ 0 ∷ 1 ∷ 4 ∷ 0 ∷ []) ≡ 7)
    × (check_fault four_ways (0 ∷ 3 ∷ 0 ∷ 1 ∷ 4 ∷ 0 ∷ 2 ∷ 4 ∷ 0 ∷ 3 ∷ 4 ∷ 0 ∷ []) ≡ 6)
unfolding bit mask count all_below any_below submask holds projected at_most feasible keeps start after over unless first signed listed head_fine taken_before letter_fine letter_unused letter_entry letters_fine bound_fine constraint_fine constraint_unused constraint_entry constraints_fine plan_fault legal_length is_legal with_subtrees node_and_below subtree_in tree_fault check_fault
outcomes_in_order = (refl, refl, refl, refl)

-- ---- which comes first: the plan's fault before the tree's; 6 anywhere before a 7: a broken path and then a child in slot 0, a child in
-- slot 0 and then a broken path, a broken path and then a node too many

pub order :
    (check_fault (record_of 64 2 7 65 [] []) [] ≡ 2) × (check_fault (plan 2 2 (letter 2 0 ∷ []) (constraint 2 0 0 0 0 ∷ [])) [] ≡ 3)
    × (check_fault (plan 2 2 [] (constraint 2 0 0 0 0 ∷ [])) [] ≡ 4)
    × (check_fault k4 (0 ∷ 1 ∷ 0 ∷ 1 ∷ 2 ∷ 0 ∷ 0 ∷ 2 ∷ 0 ∷ []) ≡ 6) × (check_fault k4 (0 ∷ 1 ∷ 0 ∷ 0 ∷ 2 ∷ 0 ∷ 2 ∷ 2 ∷ 0 ∷ []) ≡ 6)
    × (check_fault k4 (k11_tree ++ (1 ∷ 2 ∷ 0 ∷ [])) ≡ 6)
unfolding bit mask count all_below any_below submask holds projected at_most feasible keeps start after over unless first signed listed head_fine taken_before letter_fine letter_unused letter_entry letters_fine bound_fine constraint_fine constraint_unused constraint_entry constraints_fine plan_fault legal_length is_legal with_subtrees node_and_below subtree_in tree_fault check_fault
order = (refl, refl, refl, refl, refl, refl)
