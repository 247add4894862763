-- The invariant: what was stored are the bytes of the nodes passed. Only the checker need believe this file.
use mathlib.Core.Path.{◌≡◌}
use lib.Seq.{sets}
use Rattle.tree_text.specs.ReadTree.{bytes_in}
use Rattle.tree_text.proofs.reading.put_nodes.Given as goal

abbrev pub invariant-loop-k : goal.invariant-loop-k
invariant-loop-k l = l.out ≡ sets l.initial.out 0 (bytes_in l.k l.text)
