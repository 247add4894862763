-- Definitions: strategy trees, what makes one sound, the strategy that one describes, its nodes in order. To be believed, for demand 1, 2,
-- 3.
use Rattle.std.specs.Prelude.{◌&&◌, ℕ, List, [], ◌∷◌}
use Rattle.network.specs.Mask.{bit, mask, join_below}
use Rattle.network.specs.Network.{Network}
use Rattle.network.specs.Strategy.{Strategy}
use Rattle.network.specs.Game.{State, start, Move, hears, Legal, Outcome, outcomes, outcome_at, after, Over}

-- A strategy tree: a move, and for each outcome the tree that goes on from it; `done` stands behind the last node of a path.
pub data Tree : Type 0 where
  done : Tree
  node : Move → (ℕ → Tree) → Tree

-- From the state s every move is legal, a path ends just where no point is left, and E holds of the state there.
unfoldable pub Sound : Network → (State → Type 0) → Tree → State → Type 0
Sound net E done s = Over net s × E s
Sound net E (node m next) s = Legal net s m × ((o : ℕ) → Outcome net m o → Sound net E (next o) (after net s m o))

-- sound in shape (document 01's term): nothing is asked of where a path ends
abbrev pub Shaped : Network → Tree → Type 0
Shaped net t = Sound net (λ s. Unit {0}) t (start net)

-- what is heard of a condition scenario after a move
unfoldable pub outcome_of : Network → Move → ℕ → ℕ
outcome_of net m cs = mask net.letters (λ l. hears net m l && bit cs l)

-- the state at the end of the path that a condition scenario walks
unfoldable pub play : Network → Tree → State → ℕ → State
play net done s cs = s
play net (node m next) s cs = play net (next (outcome_of net m cs)) (after net s m (outcome_of net m cs)) cs

-- the strategy that a tree describes: each setting of the conditions walks one path
unfoldable pub strategy_of : Network → Tree → Strategy
strategy_of net t = record { time = λ cs. (play net t (start net) cs).slots; choice = λ cs. (play net t (start net) cs).decided }

-- the nodes' moves, parent first, then each child's whole subtree in turn, the children in the order of their outcomes
unfoldable pub preorder : Network → Tree → List Move
preorder net done = []
preorder net (node m next) = m ∷ join_below (outcomes net m) (λ k. preorder net (next (outcome_at net m k)))
