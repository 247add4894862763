-- Definitions: what writing a tree answers, and what it leaves in the lent buffer. Computed: pinned by `written_reads_back` of
-- tree_text/proofs/TreeTextTheorems.antt.
use Rattle.std.specs.Prelude.{List, ◌∷◌, ℕ, length}
use Rattle.plan.specs.declared.Refusal.TheVariants as refusal
use Rattle.plan.specs.Answer.{Answer}
use Rattle.plan.specs.Faults.{unless, first, answered, filled}
use Rattle.frame.specs.Frame.{frame_text}
use Rattle.frame.specs.Texts.{room_fault}
use Rattle.tree.specs.declared.Node.{Node}
use Rattle.tree.specs.Nodes.{legal_length}
use Rattle.tree.specs.Parts.{node_bytes}
use Rattle.tree_text.specs.TreeText.{tree_text}

-- the frame of a node
abbrev pub node_text : Node → List ℕ
node_text v = frame_text (5 ∷ node_bytes v)

-- 6 for the length, then 10; else the text's length
unfoldable pub write_tree : List ℕ → List ℕ → Answer ℕ
write_tree bs xs = answered 0 (first (unless (legal_length (length bs)) refusal.Shape) (room_fault (tree_text bs) xs)) (length (tree_text bs))

-- what that leaves in the buffer
abbrev pub write_tree_leaves : List ℕ → List ℕ → List ℕ
write_tree_leaves bs xs = filled (write_tree bs xs).fault (tree_text bs) xs
