-- Cases: document 01's K14 and more, by computing: what is told at a history, what reporting answers, which refusal comes first. Only the
-- checker need believe this file; a reader may like to.
use mathlib.Core.Path.{◌≡◌, refl}
use mathlib.Core.Bool.{cond}
use mathlib.Core.List.{List, [], ◌∷◌, ◌++◌}
use Prim.Native.Nat.{ℕ, ◌-◌}
use lib.ListN.{length, replicate}
use Rattle.network.specs.Mask.{bit, mask, count, all_below, submask}
use Rattle.network.specs.Below.{any_below, rank}
use Rattle.network.specs.Network.{holds, projected, at_most, feasible, keeps}
use Rattle.network.specs.Game.{start, Move, after}
use Rattle.network.specs.Tree.{Tree, done, node}
use Rattle.network.specs.Search.{over}
use Rattle.plan.specs.declared.Plan.{Plan}
use Rattle.plan.specs.Answer.{fine}
use Rattle.plan.specs.Faults.{unless, first}
use Rattle.plan.specs.Plan.{signed, listed}
use Rattle.plan.proofs.Cases.{letter, constraint, plan, record_of, apart, k4, k5, k8}
use Rattle.judge.specs.Judge.{head_fine, taken_before, letter_fine, letter_unused, letter_entry, letters_fine}
use Rattle.judge.specs.Judge.{bound_fine, constraint_fine, constraint_unused, constraint_entry, constraints_fine, plan_fault}
use Rattle.tree.specs.Nodes.{legal_length}
use Rattle.game.specs.Position.{is_legal}
use Rattle.checker.specs.Checker.{with_subtrees, node_and_below, subtree_in, tree_fault, check_fault}
use Rattle.checker.proofs.Cases.{k4_tree, k11_tree, four_ways}
use Rattle.run.specs.declared.History.{History}
use Rattle.run.specs.History.{history_of, history_fine}
use Rattle.run.specs.Run.{nodes_before, told_from, unless_fault, show_answer, report_answer}
use Rattle.run.specs.Told.{Told, instruct, complete, refuse, instruction_at}

-- ---- What is computed here. To unfold a name of this section is to unfold all that its line names.

masks_and_networks : Unit {0}
unfolding bit mask count all_below any_below submask rank holds projected at_most feasible keeps
masks_and_networks = tt

head_and_letters : Unit {0}
unfolding head_fine taken_before letter_fine letter_unused letter_entry letters_fine
head_and_letters = tt

the_plan : Unit {0}
unfolding signed listed head_and_letters bound_fine constraint_fine constraint_unused constraint_entry constraints_fine plan_fault
the_plan = tt

the_tree : Unit {0}
unfolding start after over legal_length is_legal with_subtrees node_and_below subtree_in tree_fault check_fault
the_tree = tt

the_answers : Unit {0}
unfolding unless first history_fine nodes_before told_from unless_fault show_answer report_answer
the_answers = tt

unfoldable pub running : Unit {0}
unfolding masks_and_networks the_plan the_tree the_answers
running = tt

-- ---- Words for what follows

abbrev pub move : ℕ → ℕ → ℕ → Move
move t ps ch = record { slot = t; points = ps; choices = ch }

-- these masks, zeros behind them, and a count that may be another than theirs
abbrev miscounted : ℕ → List ℕ → History
miscounted n os = record { count = n; masks = os ++ replicate (8 - length os) 0 }

-- over a plan and a tree
module _ (p : Plan) (tree : List ℕ) where
  -- what is told at these reports
  abbrev told : List ℕ → Told
  told os = show_answer p tree (history_of os)

  -- one report more is accepted, and the longer history handed back
  abbrev Accepts : List ℕ → ℕ → Type 0
  Accepts os o = report_answer p tree (history_of os) o ≡ fine (history_of (os ++ (o ∷ [])))

  -- it gets this number, and the history is handed back as it was given
  abbrev Refuses : List ℕ → ℕ → ℕ → Type 0
  Refuses os o n = report_answer p tree (history_of os) o ≡ record { fault = n; value = history_of os }

  -- at this history showing is refused by this number, and so is every report, whatever its mask
  abbrev RefusedAt : History → ℕ → Type 0
  RefusedAt h n = (show_answer p tree h ≡ refuse n) × ((o : ℕ) → report_answer p tree h o ≡ record { fault = n; value = h })

-- ---- K14: in K4's tree

-- the root is point 0 in slot 0; report 1 leads to slot 1, report 0 to slot 2; report 0 leads on from there to done
pub k14_told :
    (told k4 k4_tree [] ≡ instruct (move 0 1 0)) × (told k4 k4_tree (1 ∷ []) ≡ instruct (move 1 2 0))
    × (told k4 k4_tree (0 ∷ []) ≡ instruct (move 2 2 0)) × (told k4 k4_tree (1 ∷ 0 ∷ []) ≡ complete)
    × (told k4 k4_tree (0 ∷ 0 ∷ []) ≡ complete)
unfolding running
k14_told = (refl, refl, refl, refl, refl)

-- at the root both outcomes of condition 0 are accepted; at the nodes below, where nothing is heard, 0 is
pub k14_accepts :
    Accepts k4 k4_tree [] 1 × Accepts k4 k4_tree [] 0 × Accepts k4 k4_tree (1 ∷ []) 0 × Accepts k4 k4_tree (0 ∷ []) 0
unfolding running
k14_accepts = (refl, refl, refl, refl)

-- report 2 at the root is 8, and so is one of a letter that was heard before
pub k14_refuses : Refuses k4 k4_tree [] 2 8 × Refuses k4 k4_tree [] 255 8 × Refuses k4 k4_tree (1 ∷ []) 1 8
unfolding running
k14_refuses = (refl, refl, refl)

-- after done a further report is 9, whatever its mask
pub k14_after_done : (o : ℕ) → Refuses k4 k4_tree (1 ∷ 0 ∷ []) o 9 × Refuses k4 k4_tree (0 ∷ 0 ∷ []) o 9
unfolding running
k14_after_done o = (refl, refl)

-- the same by the tree itself
abbrev k4_as_tree : Tree
k4_as_tree = node (move 0 1 0) (λ o. cond (bit o 0) (node (move 1 2 0) (λ x. done)) (node (move 2 2 0) (λ x. done)))

pub k14_by_tree :
    (instruction_at k4 k4_as_tree [] ≡ instruct (move 0 1 0)) × (instruction_at k4 k4_as_tree (1 ∷ []) ≡ instruct (move 1 2 0))
    × (instruction_at k4 k4_as_tree (0 ∷ []) ≡ instruct (move 2 2 0)) × (instruction_at k4 k4_as_tree (1 ∷ 0 ∷ []) ≡ complete)
    × (instruction_at k4 k4_as_tree (2 ∷ []) ≡ refuse 8) × (instruction_at k4 k4_as_tree (1 ∷ 1 ∷ 0 ∷ []) ≡ refuse 8)
    × (instruction_at k4 k4_as_tree (1 ∷ 0 ∷ 255 ∷ []) ≡ refuse 9)
unfolding running instruction_at
k14_by_tree = (refl, refl, refl, refl, refl, refl, refl)

-- ---- two conditions heard in one move: each of the four outcomes leads to its own node

abbrev four_ways_tree : List ℕ
four_ways_tree = 0 ∷ 3 ∷ 0 ∷ 1 ∷ 4 ∷ 0 ∷ 2 ∷ 4 ∷ 0 ∷ 3 ∷ 4 ∷ 0 ∷ 4 ∷ 4 ∷ 0 ∷ []

pub four_children :
    (told four_ways four_ways_tree (0 ∷ []) ≡ instruct (move 1 4 0)) × (told four_ways four_ways_tree (1 ∷ []) ≡ instruct (move 2 4 0))
    × (told four_ways four_ways_tree (2 ∷ []) ≡ instruct (move 3 4 0))
    × (told four_ways four_ways_tree (3 ∷ []) ≡ instruct (move 4 4 0))
unfolding running
four_children = (refl, refl, refl, refl)

-- ---- subtrees of two nodes: K4 with a free point 2. Where condition 0 is false, point 2 comes before point 1, else behind it.

abbrev k4_and_one : Plan
k4_and_one = plan 2 3 (letter 0 0 ∷ []) (apart 1)

abbrev five_nodes : List ℕ
five_nodes = 0 ∷ 1 ∷ 0 ∷ 1 ∷ 4 ∷ 0 ∷ 2 ∷ 2 ∷ 0 ∷ 1 ∷ 2 ∷ 0 ∷ 2 ∷ 4 ∷ 0 ∷ []

pub two_nodes_each :
    (told k4_and_one five_nodes (0 ∷ []) ≡ instruct (move 1 4 0)) × (told k4_and_one five_nodes (0 ∷ 0 ∷ []) ≡ instruct (move 2 2 0))
    × (told k4_and_one five_nodes (1 ∷ []) ≡ instruct (move 1 2 0)) × (told k4_and_one five_nodes (1 ∷ 0 ∷ []) ≡ instruct (move 2 4 0))
    × (told k4_and_one five_nodes (0 ∷ 0 ∷ 0 ∷ []) ≡ complete) × (told k4_and_one five_nodes (1 ∷ 0 ∷ 0 ∷ []) ≡ complete)
unfolding running
two_nodes_each = (refl, refl, refl, refl, refl, refl)

-- ---- a decision is told and not reported: K8's tree, where letter 0 is chosen true at its last node

abbrev k8_tree : List ℕ
k8_tree = 0 ∷ 2 ∷ 0 ∷ 1 ∷ 1 ∷ 1 ∷ []

pub decision_told :
    (told k8 k8_tree [] ≡ instruct (move 0 2 0)) × (told k8 k8_tree (0 ∷ []) ≡ instruct (move 1 1 1)) × Refuses k8 k8_tree (0 ∷ []) 1 8
    × Accepts k8 k8_tree (0 ∷ []) 0 × (told k8 k8_tree (0 ∷ 0 ∷ []) ≡ complete)
unfolding running
decision_told = (refl, refl, refl, refl, refl)

-- ---- both points in one move, which hears condition 0: done is reached with one report

abbrev pair : Plan
pair = plan 3 2 (letter 0 0 ∷ []) []

abbrev one_node : List ℕ
one_node = 0 ∷ 3 ∷ 0 ∷ []

pub pair_run :
    (told pair one_node [] ≡ instruct (move 0 3 0)) × Accepts pair one_node [] 0 × Accepts pair one_node [] 1
    × (told pair one_node (0 ∷ []) ≡ complete) × (told pair one_node (1 ∷ []) ≡ complete)
unfolding running
pair_run = (refl, refl, refl, refl, refl)

-- a report outside is 8; a second mask comes after done and is 9, but an 8 stands before it
pub pair_refuses :
    Refuses pair one_node [] 2 8 × ((o : ℕ) → Refuses pair one_node (1 ∷ []) o 9) × RefusedAt pair one_node (history_of (1 ∷ 0 ∷ [])) 9
    × RefusedAt pair one_node (history_of (0 ∷ 255 ∷ [])) 9 × RefusedAt pair one_node (history_of (2 ∷ 0 ∷ [])) 8
unfolding running
pair_refuses = (refl, λ o. refl, (refl, λ o. refl), (refl, λ o. refl), (refl, λ o. refl))

-- ---- which comes first

-- a history with everything wrong: its count, an unused mask, its first mask, and its third, which comes after done
abbrev all_wrong : History
all_wrong = record { count = 9; masks = 2 ∷ 0 ∷ 255 ∷ 0 ∷ 0 ∷ 0 ∷ 0 ∷ 1 ∷ [] }

-- 2, 3 and 4 for the plan, where the tree has no byte
pub plan_first :
    RefusedAt (record_of 64 2 7 65 [] []) [] all_wrong 2
    × RefusedAt (plan 2 2 (letter 2 0 ∷ []) (constraint 2 0 0 0 0 ∷ [])) [] all_wrong 3
    × RefusedAt (plan 2 2 [] (constraint 2 0 0 0 0 ∷ [])) [] all_wrong 4
unfolding running
plan_first = ((refl, λ o. refl), (refl, λ o. refl), (refl, λ o. refl))

-- then 6 and 7 for the tree: K13 and K11
pub then_tree : RefusedAt k5 k4_tree all_wrong 6 × RefusedAt k4 k11_tree all_wrong 7
unfolding running
then_tree = ((refl, λ o. refl), (refl, λ o. refl))

-- then 8 for the history's count and for an unused mask that is not zero, before the 9 of its masks in turn
pub then_history :
    RefusedAt k4 k4_tree (miscounted 9 (1 ∷ 0 ∷ 0 ∷ [])) 8 × RefusedAt k4 k4_tree (miscounted 255 (1 ∷ 0 ∷ 0 ∷ [])) 8
    × RefusedAt k4 k4_tree (miscounted 0 (1 ∷ [])) 8 × RefusedAt k4 k4_tree (miscounted 3 (1 ∷ 0 ∷ 0 ∷ 1 ∷ [])) 8
    × RefusedAt k4 k4_tree (miscounted 3 (1 ∷ 0 ∷ 0 ∷ 0 ∷ 0 ∷ 0 ∷ 0 ∷ 1 ∷ [])) 8
unfolding running
then_history = ((refl, λ o. refl), (refl, λ o. refl), (refl, λ o. refl), (refl, λ o. refl), (refl, λ o. refl))

-- then the masks in turn, the first that is wrong deciding, 9 before 8 at each: a third mask after done is 9, even 255
pub then_masks :
    RefusedAt k4 k4_tree (history_of (1 ∷ 0 ∷ 0 ∷ [])) 9 × RefusedAt k4 k4_tree (history_of (1 ∷ 0 ∷ 255 ∷ [])) 9
    × RefusedAt k4 k4_tree (history_of (2 ∷ 0 ∷ 0 ∷ [])) 8 × RefusedAt k4 k4_tree (history_of (1 ∷ 1 ∷ 255 ∷ [])) 8
    × RefusedAt k4 k4_tree (history_of (0 ∷ 0 ∷ 0 ∷ 0 ∷ 0 ∷ 0 ∷ 0 ∷ 255 ∷ [])) 9
unfolding running
then_masks = ((refl, λ o. refl), (refl, λ o. refl), (refl, λ o. refl), (refl, λ o. refl), (refl, λ o. refl))
