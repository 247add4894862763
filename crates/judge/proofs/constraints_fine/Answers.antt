-- The invariant: the entries passed are fine. Only the checker need believe this file.
use mathlib.Core.Path.{ap, ◌≡◌, refl, sym}
use mathlib.Core.Bool.{not}
use native.Mathlib.Omega.{arith}
use borrow.Author.Rules.{rules}
use Rattle.network.specs.Mask.{all_below}
use Rattle.network.proofs.Booleans.{denied, granted}
use Rattle.network.proofs.BelowLaws.{all_next, all_fails}
use Rattle.judge.specs.Judge.{constraint_entry, constraints_fine}
use Rattle.judge.proofs.constraints_fine.Goals as goal
use Rattle.judge.proofs.constraints_fine.Goals.{After-constraint_entry}

pub loop-j-init : goal.loop-j-init
unfolding all_below
loop-j-init c = search rules

-- what is said of the entry is said of the plan
said : (c : After-constraint_entry) → c.constraint_entry.result ≡ constraint_entry c.args.plan c.loop-j.j
unfolding constraint_entry
said c = c.constraint_entry.ensures c.args.plan refl refl

pub returns-then-not-constraint_entry : goal.returns-then-not-constraint_entry
unfolding constraints_fine
returns-then-not-constraint_entry c = sym (all_fails _ 64 c.loop-j.j (search rules) (denied (said (goal.at.returns-then-not-constraint_entry c).After-constraint_entry) (ap not c.if-not-constraint_entry.true)))

pub loop-j-preserved : goal.loop-j-preserved
loop-j-preserved c =
    let l = c.loop-j in
    (search rules, all_next _ l.j l.invariant.1 (granted (said (goal.at.loop-j-preserved c).After-constraint_entry) (ap not c.if-not-constraint_entry.false)))

pub returns : goal.returns
unfolding constraints_fine
returns c =
    let l = c.loop-j in
    let e : 64 ≡ l.j = omega arith in
    rw e (sym l.invariant.1)
