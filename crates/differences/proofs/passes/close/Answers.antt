-- `close`: the passes over the points so far. Only the checker need believe this file.
use mathlib.Core.Path.{◌≡◌, sym, ap, ◌∙◌}
use Prim.Native.Nat.{ℕ, ◌≤◌}
use native.Mathlib.Omega.{arith}
use borrow.Author.Rules.{rules}
use Rattle.differences.specs.Tabling.{passed, passes}
use Rattle.differences.proofs.PassLaws.{passing, passes_start, passes_next}
use Rattle.differences.proofs.passes.close.Goals as goal

pub loop-k-init : goal.loop-k-init
loop-k-init c = (omega arith, passes_start c.args.limits)

pub tighten-next-requires : goal.tighten-next-requires
tighten-next-requires c =
    let a = c.args in
    let l = c.loop-k in
    let most : a.n ≤ 8 = c.requires.0 in
    (omega arith, rw l.invariant.1 (passing a.limits a.n most c.requires.1 l.k l.invariant.0).in_range)

pub loop-k-preserved : goal.loop-k-preserved
loop-k-preserved c =
    let l = c.loop-k in
    (search rules, c.tighten-next.ensures ∙ ap (passed l.k) l.invariant.1 ∙ sym (passes_next l.k c.args.limits))

pub returns : goal.returns
returns c =
    let a = c.args in
    let l = c.loop-k in
    let all : l.k ≡ a.n = omega arith in
    l.invariant.1 ∙ ap (λ (k : ℕ). passes k a.limits) all
