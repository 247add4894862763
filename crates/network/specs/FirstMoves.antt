-- Definitions: "can still be won", the order of moves, and document 01's tree of first moves. To be believed, for demand 1, 3.
use Rattle.std.specs.Prelude.{◌≡◌, ◌⊎◌, ℕ, ◌<◌}
use Rattle.network.specs.Network.{Network}
use Rattle.network.specs.Game.{State, Move, Legal, Outcome, after, Over, Kept}
use Rattle.network.specs.Tree.{Tree, done, node, Sound}

-- the remaining game can still be won from a state: some tree keeps the constraints on every path
pub record CanBeWon (net : Network) (s : State) : Type 0 where
  pub tree : Tree
  pub sound : Sound net (Kept net) tree s

-- .. and from a move: it is legal, and the game can still be won after each of its outcomes
pub record Winning (net : Network) (s : State) (m : Move) : Type 0 where
  pub legal : Legal net s m
  pub answered : (o : ℕ) → Outcome net m o → CanBeWon net (after net s m o)

-- the order of moves: by slot, then points mask, then choices mask, all as numbers
abbrev pub Before : Move → Move → Type 0
Before m k =
    (m.slot < k.slot)
    ⊎ ((m.slot ≡ k.slot) × ((m.points < k.points) ⊎ ((m.points ≡ k.points) × (m.choices < k.choices))))

-- The tree of first moves (document 01's term): at each node the first move from which the remaining game can still be won.
-- It ends where no point is left.
unfoldable pub FirstMoves : Network → Tree → State → Type 0
FirstMoves net done s = Over net s
FirstMoves net (node m next) s =
    Winning net s m × ((k : Move) → Winning net s k → ¬ Before k m)
    × ((o : ℕ) → Outcome net m o → FirstMoves net (next o) (after net s m o))
