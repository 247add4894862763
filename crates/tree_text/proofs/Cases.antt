-- Cases: tree texts, computed: document 01's listing, and a text or buffer for each way to be refused. Only the checker need believe this
-- file; a reader may like to.
use mathlib.Core.Path.{◌≡◌, refl}
use mathlib.Core.List.{List, [], ◌∷◌}
use Prim.Native.Nat.{ℕ}
use Prim.Native.String.{String}
use lib.ListN.{replicate}
use Rattle.network.specs.Mask.{all_below, join_below}
use Rattle.plan.specs.Answer.{fine}
use Rattle.plan.specs.Faults.{unless, first, answered, and_then, filled}
use Rattle.frame.specs.Hex.{hex_digit}
use Rattle.frame.specs.ReadFrame.{digit_of, pair_of, byte_at, whole}
use Rattle.frame.specs.Texts.{frame_fault, frames_from, at_end}
use Rattle.frame.specs.Characters.{characters}
use Rattle.tree.specs.Nodes.{legal_length}
use Rattle.tree_text.specs.TreeText.{tree_text}
use Rattle.tree_text.specs.WriteTree.{write_tree}
use Rattle.tree_text.specs.ReadTree.{read_tree_head, read_node, read_nodes, bytes_in, read_tree}

-- ---- the tree of K4, document 01's listing: nodes (0, 1, 0), (2, 2, 0), (1, 2, 0)

abbrev k4_bytes : List ℕ
k4_bytes = 0 ∷ 1 ∷ 0 ∷ 2 ∷ 2 ∷ 0 ∷ 1 ∷ 2 ∷ 0 ∷ []

abbrev listing : List ℕ
listing = characters "0403\n05000100\n05020200\n05010200\n"

pub k4_written : tree_text k4_bytes ≡ listing
unfolding tree_text join_below hex_digit
k4_written = refl

pub k4_reads : (read_nodes listing ≡ fine 3) × (bytes_in 3 listing ≡ k4_bytes)
unfolding read_nodes read_tree_head read_node frames_from frame_fault at_end and_then answered first unless whole byte_at pair_of digit_of all_below join_below
k4_reads = (refl, refl)

-- ---- 5: no text; no node; 192 nodes; no line feed at the end; a lower-case digit; another kind; a node missing; a node too many
abbrev fault_of : String → ℕ
fault_of t = (read_nodes (characters t)).fault

pub texts :
    (fault_of "0401\n05FFFFFF\n" ≡ 0) × (fault_of "" ≡ 5) × (fault_of "0400\n" ≡ 5) × (fault_of "04C0\n" ≡ 5)
    × (fault_of "0401\n05000100" ≡ 5) × (fault_of "0401\n0500010a\n" ≡ 5) × (fault_of "0401\n03000100\n" ≡ 5)
    × (fault_of "0402\n05000100\n" ≡ 5) × (fault_of "0401\n05000100\n05000100\n" ≡ 5) × (fault_of "0401\n05000100\n\n" ≡ 5)
    × (fault_of "0103010000\n" ≡ 5)
unfolding read_nodes read_tree_head read_node frames_from frame_fault at_end and_then answered first unless whole byte_at pair_of digit_of all_below
texts = (refl, refl, refl, refl, refl, refl, refl, refl, refl, refl, refl)

-- ---- 10 for a buffer of 572 bytes, before 5; with 573 the nodes' bytes change and no other
pub reading :
    ((read_tree [] (replicate 572 7)).fault ≡ 10) × ((read_tree [] (replicate 573 7)).fault ≡ 5)
    × (read_tree listing (replicate 573 7) ≡ fine 3)
    × (filled 0 (bytes_in 3 listing) (replicate 12 7) ≡ 0 ∷ 1 ∷ 0 ∷ 2 ∷ 2 ∷ 0 ∷ 1 ∷ 2 ∷ 0 ∷ 7 ∷ 7 ∷ 7 ∷ [])
    × (filled 5 (bytes_in 3 listing) (7 ∷ []) ≡ 7 ∷ [])
unfolding read_tree read_nodes read_tree_head read_node frames_from frame_fault at_end and_then answered first unless whole byte_at pair_of digit_of all_below join_below filled
reading = (refl, refl, refl, refl, refl)

-- ---- 6 for the lengths 0, 2, 4 and 576, before 10; else 10 for a buffer that is one byte short
pub writing :
    ((write_tree [] []).fault ≡ 6) × ((write_tree (0 ∷ 1 ∷ []) []).fault ≡ 6) × ((write_tree (0 ∷ 1 ∷ 0 ∷ 0 ∷ []) []).fault ≡ 6)
    × ((write_tree (replicate 576 0) []).fault ≡ 6) × ((write_tree (replicate 573 0) []).fault ≡ 10)
    × ((write_tree k4_bytes (replicate 31 7)).fault ≡ 10) × (write_tree k4_bytes (replicate 32 7) ≡ fine 32)
unfolding write_tree tree_text join_below legal_length first unless answered
writing = (refl, refl, refl, refl, refl, refl, refl)
