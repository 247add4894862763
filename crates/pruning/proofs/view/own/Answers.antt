-- `own`: letter by letter. Only the checker need believe this file.
use mathlib.Core.Path.{refl, sym, subst}
use mathlib.Core.List.{List}
use Prim.Native.Nat.{ℕ, ◌+◌}
use native.Mathlib.Omega.{arith}
use Rattle.plan.proofs.SliceLaws.{all_same}
use Rattle.pruning.proofs.OwnLaws.{Gathered, gathered_start, gathered_next, gathered_all}
use borrow.Author.Rules.{rules}
use Rattle.pruning.proofs.view.own.Goals as goal

pub loop-l-init : goal.loop-l-init
loop-l-init c = gathered_start _ _ (search rules) (all_same {E = ℕ} 8 0)

pub loop-l-preserved : goal.loop-l-preserved
loop-l-preserved c =
    let entries = c.args.entries in
    let l = c.loop-l in
    subst (λ (s : List ℕ). Gathered entries s (l.l + 1)) (sym c.add_letter.ensures)
    (gathered_next entries l.out l.l _ refl l.invariant (omega arith))

pub returns : goal.returns
returns c =
    let l = c.loop-l in
    gathered_all c.args.entries l.out l.l c.args.count l.invariant (omega arith) (λ lt. omega arith)
