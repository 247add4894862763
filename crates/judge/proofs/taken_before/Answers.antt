-- The invariant: no letter passed has the point. Only the checker need believe this file.
use mathlib.Core.Path.{◌≡◌, sym}
use native.Mathlib.Omega.{arith}
use borrow.Author.Rules.{rules}
use borrow.Author.Tests.{eq-eqb, ne_eqb}
use Rattle.network.specs.Below.{any_below}
use Rattle.network.proofs.BelowLaws.{any_make, any_next}
use Rattle.judge.specs.Judge.{taken_before}
use Rattle.judge.proofs.taken_before.Goals as goal

pub loop-k-init : goal.loop-k-init
unfolding taken_before any_below
loop-k-init c = search rules

pub returns-then-l-point : goal.returns-then-l-point
unfolding taken_before
returns-then-l-point c =
    let l = c.loop-k in
    sym (any_make _ _ l.k (search rules) (rw (← c.letter_at-l.ensures) (eq-eqb _ _ c.if-l-point.true)))

pub loop-k-preserved : goal.loop-k-preserved
unfolding taken_before
loop-k-preserved c =
    let l = c.loop-k in
    (search rules, any_next _ l.k l.invariant.1 (rw (← c.letter_at-l.ensures) (ne_eqb _ _ c.if-l-point.false)))

pub returns : goal.returns
unfolding taken_before
returns c =
    let l = c.loop-k in
    let e : c.args.i ≡ l.k = omega arith in
    rw e (sym l.invariant.1)
