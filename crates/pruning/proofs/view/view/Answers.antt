-- `view`: what is called says it. Only the checker need believe this file.
use mathlib.Core.Path.{refl}
use Rattle.pruning.proofs.view.view.Goals as goal

pub returns-clause-seen : goal.returns-clause-seen
returns-clause-seen c =
    let p = c.args.plan.now in
    let at = c.args.at in
    let unheard = c.disclosed_of_kind.ensures p refl refl in
    let undecided = c.disclosed_of_kind-2.ensures p refl refl in
    let low = c.slots_after.ensures in
    let cap = c.slots_after-2.ensures in
    let disclosing = c.disclosing.ensures in
    let own = c.own.ensures in
    λ i. record {
      constraints = c.used.result;
      points = p.points;
      left = at.left;
      values = at.values;
      unheard = unheard i;
      undecided = undecided i;
      low = low i;
      cap = cap i;
      disclosing = disclosing i;
      own = own i;
    }
