-- The invariant: what was stored are the bytes of the entries passed. Only the checker need believe this file.
use mathlib.Core.Path.{◌≡◌, refl}
use Prim.Native.Nat.{◌+◌, ◌*◌}
use native.Mathlib.Omega.{arith}
use lib.ListN.{get_or}
use borrow.Author.Rules.{rules}
use Rattle.network.specs.Mask.{join_below}
use Rattle.frame.proofs.WritingLaws.{join_next}
use Rattle.answers.specs.Tables.{entry_bytes}
use Rattle.answers.proofs.tables.put_row.Goals as goal

pub loop-y-init : goal.loop-y-init
unfolding join_below
loop-y-init c = search rules

pub loop-y-preserved : goal.loop-y-preserved
loop-y-preserved c =
    let a = c.args in
    let l = c.loop-y in
    join_next (λ k. entry_bytes (get_or a.row.to k 0)) 2 (λ k. refl) a.out.now a.at (a.at + 2 * l.y) l.y refl
    (rw l.invariant at c.put_entry.ensures)

pub returns : goal.returns
returns c =
    let all : 8 ≡ c.loop-y.y = omega arith in
    rw all c.loop-y.invariant
