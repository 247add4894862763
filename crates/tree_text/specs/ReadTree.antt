-- Definitions: the tree that a text says: how many nodes, and their bytes. Computed: pinned by `read_exactly` of
-- tree_text/proofs/TreeTextTheorems.antt.
use Rattle.std.specs.Prelude.{true, ◌&&◌, List, ℕ, ◌+◌, ◌*◌, leb, length, drop}
use Rattle.network.specs.Mask.{join_below}
use Rattle.plan.specs.declared.Refusal.TheVariants as refusal
use Rattle.plan.specs.Answer.{Answer}
use Rattle.plan.specs.Faults.{unless, first, answered, and_then, filled}
use Rattle.frame.specs.ReadFrame.{frame_length, value_at, whole}
use Rattle.frame.specs.Texts.{frame_fault, frames_from, at_end}
use Rattle.tree.specs.declared.Node.{Node}
use Rattle.tree.specs.Nodes.{most_bytes}
use Rattle.tree.specs.Parts.{node_bytes}
use Rattle.tree.specs.Parts.{most_nodes}

-- a number of nodes from 1 to 191
unfoldable pub read_tree_head : List ℕ → Answer ℕ
read_tree_head s =
    let good = leb 1 (value_at s 1) && leb (value_at s 1) most_nodes in
    answered 0 (frame_fault refusal.TreeText (whole 4 2 s) refusal.TreeText good) (value_at s 1)

-- one node behind a head that says n: any three bytes will do
unfoldable pub read_node : ℕ → List ℕ → Answer ℕ
read_node n s = answered 0 (frame_fault refusal.TreeText (whole 5 4 s) refusal.TreeText true) n

-- the n nodes behind it, and nothing more
abbrev pub read_behind : ℕ → List ℕ → Answer ℕ
read_behind n s = frames_from (λ m k. read_node m) 4 (at_end 0 refusal.TreeText) n 0 n s

-- one head and its nodes
unfoldable pub read_nodes : List ℕ → Answer ℕ
read_nodes s = and_then (read_tree_head s) (λ n. read_behind n (drop (frame_length 2) s))

-- the node at the front of s
abbrev pub node_in : List ℕ → Node
node_in s = record { slot = value_at s 1; points = value_at s 2; choices = value_at s 3 }

-- the bytes of the n nodes of a tree text
abbrev pub bytes_in : ℕ → List ℕ → List ℕ
bytes_in n s = join_below n (λ k. node_bytes (node_in (drop (frame_length 2 + frame_length 4 * k) s)))

-- 10, then 5; else the number of nodes
unfoldable pub read_tree : List ℕ → List ℕ → Answer ℕ
read_tree s xs = answered 0 (first (unless (leb most_bytes (length xs)) refusal.Buffer) (read_nodes s).fault) (read_nodes s).value

-- what that leaves in the buffer
abbrev pub read_tree_leaves : List ℕ → List ℕ → List ℕ
read_tree_leaves s xs = filled (read_tree s xs).fault (bytes_in (read_tree s xs).value s) xs
