-- Definitions: the text of a tree, given as bytes. To be believed, for demand 1, 2.
use Rattle.std.specs.Prelude.{List, [], ◌∷◌, ◌++◌, ℕ, ◌+◌, ◌*◌, get_or}
use Rattle.network.specs.Mask.{join_below}
use Rattle.frame.specs.Frame.{frame_text}
use Rattle.tree.specs.Nodes.{node_count}

-- 04 tree head: number of nodes
abbrev pub tree_head_text : ℕ → List ℕ
tree_head_text n = frame_text (4 ∷ n ∷ [])

-- 05 node: slot, mask of points, mask of choices; that of node k
abbrev pub node_frame : List ℕ → ℕ → List ℕ
node_frame bs k = frame_text (5 ∷ get_or bs (3 * k) 0 ∷ get_or bs (3 * k + 1) 0 ∷ get_or bs (3 * k + 2) 0 ∷ [])

-- one 04, then its 05s
unfoldable pub tree_text : List ℕ → List ℕ
tree_text bs = tree_head_text (node_count bs) ++ join_below (node_count bs) (node_frame bs)
