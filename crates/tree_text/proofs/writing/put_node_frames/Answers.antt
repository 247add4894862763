-- The invariant: what was stored is the text of the nodes passed. Only the checker need believe this file.
use mathlib.Core.Path.{◌≡◌, refl}
use Prim.Native.Nat.{◌+◌, ◌*◌}
use native.Mathlib.Omega.{arith}
use Rattle.network.specs.Mask.{join_below}
use Rattle.frame.proofs.WritingLaws.{join_next}
use Rattle.tree_text.proofs.CodeLaws.{node_text_lem}
use borrow.Author.Rules.{rules}
use Rattle.tree_text.proofs.writing.put_node_frames.Goals as goal

pub loop-k-init : goal.loop-k-init
unfolding join_below
loop-k-init c = search rules

pub loop-k-preserved : goal.loop-k-preserved
loop-k-preserved c =
    let a = c.args in
    let l = c.loop-k in
    join_next (node_text_lem a.bytes.now) 9 (λ k. refl) a.out.now 5 (5 + 9 * l.k) l.k refl
    (rw (c.node_at.ensures, l.invariant) at c.put_node_frame.ensures)

pub returns : goal.returns
returns c =
    let l = c.loop-k in
    let e : c.args.n ≡ l.k = omega arith in
    rw e l.invariant
