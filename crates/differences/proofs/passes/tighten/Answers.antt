-- `tighten`: the rows passed, and rows of zeros behind them. Only the checker need believe this file.
use mathlib.Core.Path.{◌≡◌, ap, ◌∙◌}
use native.Mathlib.Omega.{arith}
use lib.ListN.{replicate}
use borrow.Author.Rules.{rules}
use Rattle.plan.proofs.SliceLaws.{filled_to, fill_start, fill_next, fill_end}
use Rattle.differences.specs.Tabling.{passed}
use Rattle.differences.proofs.PassLaws.{joins}
use Rattle.differences.proofs.passes.tighten.Invariants.{row}
use Rattle.differences.proofs.passes.tighten.Goals as goal

pub loop-x-init : goal.loop-x-init
loop-x-init c = (omega arith, fill_start (replicate 8 0) 8 (row c.args.limits c.args.k))

pub tighten_row-next-requires : goal.tighten_row-next-requires
tighten_row-next-requires c =
    let a = c.args in
    let pre = c.requires in
    joins a.limits a.k c.loop-x.x pre.0 c.loop-x-test.true pre.1

pub loop-x-preserved : goal.loop-x-preserved
loop-x-preserved c =
    let a = c.args in
    let l = c.loop-x in
    (search rules, fill_next (replicate 8 0) 8 (row a.limits a.k) l.x l.tight _ (search rules) l.invariant.1 c.tighten_row-next.ensures)

pub returns : goal.returns
unfolding passed
returns c =
    let f = row c.args.limits c.args.k in
    let l = c.loop-x in
    let all : l.x ≡ 8 = omega arith in
    l.invariant.1 ∙ ap (filled_to (replicate 8 0) 8 f) all ∙ fill_end (replicate 8 0) 8 f
