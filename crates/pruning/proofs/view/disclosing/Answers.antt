-- `disclosing`: the entries passed are the letters' points. Only the checker need believe this file.
use mathlib.Core.Path.{◌≡◌}
use native.Mathlib.Omega.{arith}
use Rattle.game.proofs.CodeLaws.{fill_end}
use Rattle.pruning.proofs.view.disclosing.Goals as goal

pub returns : goal.returns
returns c =
    let i = c.loop-l.invariant in
    let w = i.within in
    let e : c.loop-l.l ≡ 6 = omega arith in
    fill_end (rw e at i)
