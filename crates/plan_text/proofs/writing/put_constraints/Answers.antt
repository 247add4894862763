-- The invariant: what was stored is the text of the entries passed. Only the checker need believe this file.
use mathlib.Core.Path.{◌≡◌, refl}
use Prim.Native.Nat.{◌+◌, ◌*◌}
use native.Mathlib.Omega.{arith}
use borrow.Author.Rules.{rules}
use Rattle.network.specs.Mask.{join_below}
use Rattle.frame.proofs.WritingLaws.{join_next}
use Rattle.plan_text.proofs.WriteLaws.{constraint_text_lem}
use Rattle.plan_text.proofs.writing.put_constraints.Goals as goal

pub loop-j-init : goal.loop-j-init
unfolding join_below
loop-j-init c = search rules

pub loop-j-preserved : goal.loop-j-preserved
loop-j-preserved c =
    let a = c.args in
    let l = c.loop-j in
    join_next (constraint_text_lem a.p) 15 (λ k. refl) a.out.now a.from (a.from + 15 * l.j) l.j refl
    (rw (c.constraint_at.ensures, l.invariant) at c.put_constraint.ensures)

pub returns : goal.returns
returns c =
    let l = c.loop-j in
    let e : c.args.p.constraints ≡ l.j = omega arith in
    rw e l.invariant
