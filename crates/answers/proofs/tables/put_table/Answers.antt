-- The invariant: what was stored are the bytes of the rows passed. Only the checker need believe this file.
use mathlib.Core.Path.{◌≡◌, ap, ◌∙◌}
use mathlib.Core.List.{[]}
use Prim.Native.Nat.{ℕ}
use Prim.Native.Nat.{◌*◌}
use native.Mathlib.Omega.{arith}
use lib.ListN.{length, get_or}
use lib.Seq.{sets}
use borrow.Author.Rules.{rules}
use Rattle.network.specs.Mask.{join_below}
use Rattle.frame.proofs.WritingLaws.{join_next}
use Rattle.differences.specs.declared.Row.{Row}
use Rattle.differences.specs.Answers.{zero_row}
use Rattle.answers.specs.Tables.{row_bytes}
use Rattle.answers.proofs.TableLaws.{row_length, same_default}
use Rattle.answers.proofs.tables.put_table.Goals as goal

pub loop-x-init : goal.loop-x-init
unfolding join_below
loop-x-init c = search rules

pub loop-x-preserved : goal.loop-x-preserved
loop-x-preserved c =
    let a = c.args in
    let l = c.loop-x in
    let long : length a.rows ≡ 8 = search rules in
    let row : get_or a.rows l.x (record { to = [] }) ≡ get_or a.rows l.x zero_row = same_default a.rows (record { to = [] }) zero_row l.x (omega arith) in
    let put = c.put_row.ensures ∙ ap (λ (r : Row). sets l.out (16 * l.x) (row_bytes r)) row in
    join_next (λ k. row_bytes (get_or a.rows k zero_row)) 16 (λ k. row_length (get_or a.rows k zero_row)) a.out.now 0 (16 * l.x) l.x
    (omega arith) (rw l.invariant at put)

pub returns : goal.returns
returns c =
    let a = c.args in
    let all : c.loop-x.x ≡ 8 = omega arith in
    c.loop-x.invariant ∙ ap (λ (n : ℕ). sets a.out.now 0 (join_below n (λ k. row_bytes (get_or a.rows k zero_row)))) all
