-- The invariant: what was stored are the bytes of the nodes passed. Only the checker need believe this file.
use mathlib.Core.Path.{◌≡◌}
use native.Mathlib.Omega.{arith}
use Rattle.network.specs.Mask.{join_below}
use Rattle.tree_text.proofs.CodeLaws.{node_put}
use borrow.Author.Rules.{rules}
use Rattle.tree_text.proofs.reading.put_nodes.Goals as goal

pub loop-k-init : goal.loop-k-init
unfolding join_below
loop-k-init c = search rules

pub loop-k-preserved : goal.loop-k-preserved
loop-k-preserved c =
    let a = c.args in
    let l = c.loop-k in
    node_put a.text.now a.out.now l.out l.k _ l.invariant (search rules) c.node_in.ensures c.put_node.ensures

pub returns : goal.returns
returns c =
    let l = c.loop-k in
    let e : c.args.count ≡ l.k = omega arith in
    rw e l.invariant
