-- Definitions: what the search answers, and what it leaves in the lent buffer. `first_moves` and `leaves_tree` of
-- proofs/SearchTheorems.antt say which tree it leaves. Computed: pinned by `hopeless_exactly` of search/proofs/SearchTheorems.antt.
use Rattle.std.specs.Prelude.{not, cond, List, [], ℕ, leb, eqb, length}
use Rattle.network.specs.Sizes.{nodes}
use Rattle.network.specs.Search.{first_tree, hopeless}
use Rattle.plan.specs.declared.Plan.{Plan}
use Rattle.plan.specs.declared.Refusal.TheVariants as refusal
use Rattle.plan.specs.Refusal.{refusal_number}
use Rattle.plan.specs.Answer.{Answer}
use Rattle.plan.specs.Faults.{unless, first, answered}
use Rattle.plan.specs.Plan.{network_of}
use Rattle.judge.specs.Judge.{plan_fault}
use Rattle.tree.specs.Nodes.{most_bytes, overwritten}
use Rattle.tree.specs.Trees.{tree_bytes}

-- 10, then 2, 3, 4, then 11
unfoldable pub search_fault : Plan → List ℕ → ℕ
search_fault p xs =
    first (unless (leb most_bytes (length xs)) refusal.Buffer)
    (first (plan_fault p) (unless (not (hopeless (network_of p))) refusal.Hopeless))

-- else the number of nodes of the tree of first moves
abbrev pub search_answer : Plan → List ℕ → Answer ℕ
search_answer p xs = answered 0 (search_fault p xs) (nodes (network_of p) (first_tree (network_of p)))

-- what the call leaves in the buffer: the tree; under 11 nothing but the zeros; under every other refusal all stays
unfoldable pub search_leaves : Plan → List ℕ → List ℕ
search_leaves p xs =
    cond (eqb (search_fault p xs) 0)
    (overwritten (tree_bytes (network_of p) (first_tree (network_of p))) xs)
    (cond (eqb (search_fault p xs) (refusal_number refusal.Hopeless)) (overwritten [] xs) xs)
