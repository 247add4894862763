-- The invariant: what is left to store from here makes the whole frame. Only the checker need believe this file.
use mathlib.Core.Path.{◌≡◌, sym, ◌∙◌}
use native.Mathlib.Omega.{arith}
use lib.ListN.{length}
use Rattle.frame.proofs.CodeLaws.{put_next, put_feed}
use Rattle.frame.proofs.writing.put_line.Goals as goal

pub loop-k-preserved : goal.loop-k-preserved
loop-k-preserved c =
    let l = c.loop-k in
    rw c.put_byte.ensures (l.invariant ∙ put_next c.args.bytes.now l.out c.args.at l.k (omega arith))

pub returns : goal.returns
returns c =
    let l = c.loop-k in
    let b = c.args.bytes.now in
    let e : l.k ≡ length b = omega arith in
    rw (← e) (sym (l.invariant ∙ put_feed b l.out c.args.at l.k e))
