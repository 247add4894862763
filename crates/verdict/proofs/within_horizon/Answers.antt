-- `within_horizon`: none of the points' slots is past the horizon, or one is. Only the checker need believe this file.
use Prim.Native.Nat.{◌≤◌, ◌<◌}
use borrow.Author.Rules.{rules}
use borrow.Author.Tests.{tests}
use Rattle.std.proofs.lemmas.Iterator.{cases_from_all, YieldsList-from_slice, YieldsList-from_take}
use Rattle.verdict.specs.Verdict.{within_horizon}
use Rattle.verdict.proofs.CodeLaws.{each_within}
use Rattle.verdict.proofs.within_horizon.Goals as goal

pub returns : goal.returns
unfolding within_horizon
returns c =
    let p = c.args.plan.now in
    let slots = c.args.slots.now in
    each_within p.points p.horizon slots c.all.result
    (cases_from_all _ _ _ (λ v. v ≤ p.horizon) (λ v. p.horizon < v) c.all.ensures.ran
    (YieldsList-from_take p.points (YieldsList-from_slice slots cc) cc)
    (λ x q k. search (rules, tests)) (λ x q k. search (rules, tests)))
