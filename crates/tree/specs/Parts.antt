-- Definitions: the parts of a tree's bytes, as checker and run read them: where the bytes of a node stand. Computed: pinned by `yes_exactly` of
-- checker/proofs/CheckerTheorems.antt.
use Rattle.std.specs.Prelude.{Bool, List, [], ◌∷◌, ℕ, ◌+◌, ◌*◌, leb, length, get_or, drop}
use Rattle.network.specs.Game.{Move}
use Rattle.tree.specs.declared.Node.{Node}

-- the most nodes that a tree has
abbrev pub most_nodes : ℕ
most_nodes = 191

-- whether a whole node stands at the front; the bytes from node k on
abbrev pub has_node : List ℕ → Bool
has_node bs = leb 3 (length bs)

abbrev pub from_node : List ℕ → ℕ → List ℕ
from_node bs k = drop (3 * k) bs

-- slot, points, choices
abbrev pub node_bytes : Node → List ℕ
node_bytes v = v.slot ∷ v.points ∷ v.choices ∷ []

-- node k of the bytes; zeros past their end
abbrev pub node_at : List ℕ → ℕ → Node
node_at bs k = record { slot = get_or bs (3 * k) 0; points = get_or bs (3 * k + 1) 0; choices = get_or bs (3 * k + 2) 0 }

-- a move of the game is a node, and the other way round
abbrev pub node_of : Move → Node
node_of m = record { slot = m.slot; points = m.points; choices = m.choices }

abbrev pub move_of : Node → Move
move_of v = record { slot = v.slot; points = v.points; choices = v.choices }
