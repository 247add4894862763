-- The proof of `subtree`, which calls itself with fewer points left. Only the checker need believe this file.
use mathlib.Core.Path.{◌≡◌}
use Prim.Native.Nat.{◌*◌, ◌≤◌}
use lib.ListN.{length}
use Rattle.network.specs.Mask.{bit, count}
use Rattle.checker.specs.Checker.{subtree_of, with_subtrees}
use Rattle.checker.proofs.CodeLaws.{below}
use Rattle.checker.proofs.+subtree.Given as goal

-- what was found so far: the node and the subtrees of the first k outcomes
abbrev pub invariant-loop-k : goal.invariant-loop-k
invariant-loop-k l =
    (l.k ≤ l.outcomes) × (3 * l.count ≤ length l.nodes) × (with_subtrees (below l.plan l.at l.v) l.nodes l.k ≡ subtree_of l.count l.kept)

-- the points left
abbrev pub decreases-subtree : goal.decreases-subtree
decreases-subtree l = count 8 (bit l.at.left)
