-- `lost_at`: a state in which something is not kept so far is lost; else the table says it. Only the checker need believe this file.
use mathlib.Core.Path.{◌≡◌, sym, ◌∙◌}
use mathlib.Core.Bool.{false}
use borrow.Author.Rules.{rules}
use Rattle.network.proofs.SoFarLaws.{broken_lost}
use Rattle.plan.specs.Plan.{network_of}
use Rattle.plan.proofs.PlanTheorems.{is_network}
use Rattle.game.specs.Position.{state_of}
use Rattle.game.proofs.SoFarLaws.{so_far_is}
use Rattle.pruning.proofs.lost_at.Goals as goal

pub returns-then-not-kept_so_far_by-clause-lost : goal.returns-then-not-kept_so_far_by-clause-lost
returns-then-not-kept_so_far_by-clause-lost c wf ok e =
    let p = c.args.plan.now in
    let at = c.args.at in
    let broken : c.kept_so_far_by.result ≡ false = search rules in
    broken_lost (network_of p) (is_network p wf) (state_of p at)
    (sym (so_far_is p wf at ok) ∙ sym (c.kept_so_far_by.ensures wf.head.constraints) ∙ broken)
