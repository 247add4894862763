-- Definitions: what the agent's turn and the world's turn find, and what they leave in the bytes lent to them. Not to be believed: only
-- theorems and inner contracts use it.
use Rattle.std.specs.Prelude.{◌≡◌, Option, Some, None, List, [], ◌++◌, ℕ, ◌+◌, ◌-◌, ◌*◌, length, drop}
use Rattle.network.specs.Mask.{join_below}
use Rattle.network.specs.Below.{sum_below}
use Rattle.network.specs.Network.{Network}
use Rattle.network.specs.Game.{State, Move, outcomes, outcome_at, after}
use Rattle.network.specs.Tree.{Tree}
use Rattle.network.specs.Sizes.{nodes, points_left, room}
use Rattle.network.specs.FirstMoves.{CanBeWon, Winning}
use Rattle.network.specs.Search.{first_tree_from}
use Rattle.tree.specs.Trees.{tree_bytes}

-- the most nodes of a tree from a state; of the subtrees behind a move
abbrev pub most : Network → State → ℕ
most net s = room net s - 1

abbrev pub most_behind : Network → State → Move → ℕ
most_behind net s m = outcomes net m * most net (after net s m 0)

-- A turn is lent xs and leaves ys: first the tree that it found, then scratch up to byte 3 * n, written by moves that it gave up; later
-- bytes are unchanged. The contract leaves open what the scratch is; `search` clears it.
pub record Leaves (tree : List ℕ) (n : ℕ) (xs ys : List ℕ) : Type 0 where
  pub scratch : List ℕ
  pub bounded : length tree + length scratch ≡ 3 * n
  pub is : ys ≡ tree ++ (scratch ++ drop (3 * n) xs)

-- A turn finds a tree of n nodes with these bytes where W holds, and says lost just where it does not.
unfoldable pub Finds : Type 0 → ℕ → List ℕ → ℕ → Option ℕ → List ℕ → List ℕ → Type 0
Finds W n tree limit None xs ys = (¬ W) × Leaves [] limit xs ys
Finds W n tree limit (Some m) xs ys = W × (m ≡ n) × Leaves tree limit xs ys

-- the tree of first moves from a state: each move performs a point, so there are at most as many moves as points left
abbrev pub first_tree_at : Network → State → Tree
first_tree_at net s = first_tree_from net (points_left net s) s

-- from a state; behind a move, where the tree of each outcome stands directly behind the one before
abbrev pub AgentFinds : Network → State → Option ℕ → List ℕ → List ℕ → Type 0
AgentFinds net s = Finds (CanBeWon net s) (nodes net (first_tree_at net s)) (tree_bytes net (first_tree_at net s)) (most net s)

abbrev pub tree_behind : Network → State → Move → ℕ → Tree
tree_behind net s m k = first_tree_at net (after net s m (outcome_at net m k))

abbrev pub WorldFinds : Network → State → Move → Option ℕ → List ℕ → List ℕ → Type 0
WorldFinds net s m =
    Finds (Winning net s m) (sum_below (outcomes net m) (λ k. nodes net (tree_behind net s m k)))
    (join_below (outcomes net m) (λ k. tree_bytes net (tree_behind net s m k))) (most_behind net s m)
