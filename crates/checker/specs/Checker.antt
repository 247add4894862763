-- Definitions: what the checker answers. That yes, 6 and 7 are exactly for the trees that are to get them is in
-- proofs/CheckerTheorems.antt. Computed: pinned by `yes_exactly` of checker/proofs/CheckerTheorems.antt.
use Rattle.std.specs.Prelude.{Bool, true, cond, ◌&&◌, List, ℕ, zero, suc, ◌+◌, eqb, length, Option, Some, None}
use Rattle.network.specs.Game.{State, start, outcomes, outcome_at, after, kept}
use Rattle.network.specs.Sizes.{points_left}
use Rattle.network.specs.Search.{over}
use Rattle.plan.specs.declared.Plan.{Plan}
use Rattle.plan.specs.declared.Refusal.TheVariants as refusal
use Rattle.plan.specs.Refusal.{refusal_number}
use Rattle.plan.specs.Faults.{unless, first}
use Rattle.plan.specs.Plan.{network_of}
use Rattle.judge.specs.Judge.{plan_fault}
use Rattle.tree.specs.Nodes.{legal_length, node_count}
use Rattle.tree.specs.Parts.{node_at}
use Rattle.tree.specs.Parts.{has_node, from_node, move_of}
use Rattle.game.specs.Position.{is_legal}
use Rattle.checker.specs.declared.SoundSubtree.{SoundSubtree}

-- a subtree of n nodes that is sound in shape, all of whose paths keep the constraints or not
abbrev pub subtree_of : ℕ → Bool → Option SoundSubtree
subtree_of n kept = Some (record { nodes = n; kept = kept })

-- two runs of bytes, one behind the other: sound where both are, of as many nodes as both have, kept where both are
abbrev pub together : Option SoundSubtree → Option SoundSubtree → Option SoundSubtree
together None next = None
together (Some t) None = None
together (Some t) (Some u) = subtree_of (t.nodes + u.nodes) (t.kept && u.kept)

-- what is found at the place behind n nodes
abbrev pub behind : Option SoundSubtree → (ℕ → Option SoundSubtree) → Option SoundSubtree
behind None next = None
behind (Some t) next = together (Some t) (next t.nodes)

-- the node at the front of the bytes and, behind it, the subtrees of its first k outcomes, each directly behind the one before
unfoldable pub with_subtrees : (ℕ → List ℕ → Option SoundSubtree) → List ℕ → ℕ → Option SoundSubtree
with_subtrees sub bs zero = subtree_of 1 true
with_subtrees sub bs (suc k) = behind (with_subtrees sub bs k) (λ n. sub k (from_node bs n))

-- a whole node, a legal move, and behind it a subtree for each outcome
unfoldable pub node_and_below : (State → List ℕ → Option SoundSubtree) → Plan → State → List ℕ → Option SoundSubtree
node_and_below sub p s bs =
    let m = move_of (node_at bs 0) in
    let sound = with_subtrees (λ k. sub (after (network_of p) s m (outcome_at (network_of p) m k))) bs (outcomes (network_of p) m) in
    cond (has_node bs && is_legal p s m) sound None

-- The subtree at the front of the bytes, of at most n moves on a path: where no point is left a path ends, without a node, and its
-- constraints are kept or not.
unfoldable pub subtree_in : ℕ → Plan → State → List ℕ → Option SoundSubtree
subtree_in zero p s bs = None
subtree_in (suc n) p s bs =
    let on = node_and_below (subtree_in n p) p s bs in
    cond (over (network_of p) s) (subtree_of 0 (kept (network_of p) s)) on

-- each move performs a point
abbrev pub subtree_at : Plan → State → List ℕ → Option SoundSubtree
subtree_at p s bs = subtree_in (suc (points_left (network_of p) s)) p s bs

-- 6 for a tree that is not sound in shape or whose nodes are not all the bytes, then 7 for a broken constraint
abbrev pub found_fault : ℕ → Option SoundSubtree → ℕ
found_fault n None = refusal_number refusal.Shape
found_fault n (Some t) = first (unless (eqb t.nodes n) refusal.Shape) (unless t.kept refusal.Broken)

-- what the checker says of bytes: 0 is yes
unfoldable pub tree_fault : Plan → List ℕ → ℕ
tree_fault p bs =
    first (unless (legal_length (length bs)) refusal.Shape) (found_fault (node_count bs) (subtree_at p (start (network_of p)) bs))

-- 2, 3, 4 for the plan, then 6, then 7
unfoldable pub check_fault : Plan → List ℕ → ℕ
check_fault p bs = first (plan_fault p) (tree_fault p bs)
