-- The invariant: what was stored is the text of the nodes passed. Only the checker need believe this file.
use mathlib.Core.Path.{◌≡◌}
use lib.Seq.{sets}
use Rattle.network.specs.Mask.{join_below}
use Rattle.tree_text.proofs.CodeLaws.{node_text_lem}
use Rattle.tree_text.proofs.writing.put_node_frames.Given as goal

abbrev pub invariant-loop-k : goal.invariant-loop-k
invariant-loop-k l = l.out ≡ sets l.initial.out 5 (join_below l.k (node_text_lem l.bytes))
