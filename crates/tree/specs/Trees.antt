-- Definitions: the bytes of a strategy tree, and which bytes describe one. To be believed, for demand 1, 2, 3.
use Rattle.std.specs.Prelude.{◌≡◌, List, [], ◌∷◌, ℕ}
use Rattle.network.specs.Network.{Network}
use Rattle.network.specs.Game.{Move}
use Rattle.network.specs.Tree.{Tree, Shaped, preorder}

-- the bytes of moves, one after the other, three each: slot, points, choices
unfoldable pub moves_bytes : List Move → List ℕ
moves_bytes [] = []
moves_bytes (m ∷ ms) = m.slot ∷ m.points ∷ m.choices ∷ moves_bytes ms

-- the bytes of a tree: its nodes, parent first, then each child's whole subtree in turn
abbrev pub tree_bytes : Network → Tree → List ℕ
tree_bytes net t = moves_bytes (preorder net t)

-- The bytes describe the tree: it is sound in shape, and they are its bytes, with nothing behind them.
pub record Describes (net : Network) (bs : List ℕ) (t : Tree) : Type 0 where
  pub shaped : Shaped net t
  pub all_bytes : bs ≡ tree_bytes net t
