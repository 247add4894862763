-- The invariant: the kind is the one asked for, and every byte passed stands there. Only the checker need believe this file.
use mathlib.Core.Path.{◌≡◌, sym}
use native.Mathlib.Omega.{arith}
use borrow.Author.Rules.{rules}
use Rattle.network.proofs.Booleans.{not_true, not_false}
use Rattle.network.proofs.BelowLaws.{all_start, all_next}
use Rattle.frame.specs.ReadFrame.{byte_at}
use Rattle.frame.proofs.CodeLaws.{below_eq, below_is, other_kind, no_byte, up_to_feed}
use Rattle.frame.proofs.reading.is_whole.Goals as goal

pub returns-then-ne : goal.returns-then-ne
returns-then-ne c =
    let a = c.args in
    let e = below_eq 256 (byte_at a.s.now 0) a.kind (search rules) in
    sym (other_kind a.kind a.n a.s.now (not_true _ cc))

pub loop-k-init : goal.loop-k-init
loop-k-init c =
    let a = c.args in
    let e = below_eq 256 (byte_at a.s.now 0) a.kind (search rules) in
    (search rules, not_false _ cc, all_start _)

pub returns-then-is_none : goal.returns-then-is_none
returns-then-is_none c =
    let a = c.args in
    sym (no_byte a.kind a.n a.s.now c.loop-k.k (search rules) (below_is 256 (byte_at a.s.now c.loop-k.k) c.byte_at-in-loop-k.ensures c.if-is_none.ensures))

pub loop-k-preserved : goal.loop-k-preserved
loop-k-preserved c =
    let a = c.args in
    let l = c.loop-k in
    (search rules, l.invariant.1, all_next _ l.k l.invariant.2 (below_is 256 (byte_at a.s.now c.loop-k.k) c.byte_at-in-loop-k.ensures c.if-is_none.ensures))

pub returns : goal.returns
returns c =
    let a = c.args in
    let l = c.loop-k in
    let e : l.k ≡ a.n = omega arith in
    rw c.byte_or_zero.ensures (up_to_feed a.kind a.n a.s.now l.invariant.1 (rw e at l.invariant.2))
