-- By the laws of what showing answers. Only the checker need believe this file.
use mathlib.Core.Path.{ap, ◌≡◌, sym, ◌∙◌}
use mathlib.Core.Bool.{not}
use Rattle.network.proofs.Booleans.{denied, granted}
use Rattle.plan.specs.Refusal.{judged_number}
use Rattle.checker.specs.Checker.{check_fault}
use Rattle.run.proofs.HistoryLaws.{count_fine}
use Rattle.run.proofs.ShownLaws.{tree_refused, history_refused, masks_followed}
use Rattle.run.proofs.show.Goals as goal
use Rattle.run.proofs.show.Goals.{In_default}

-- the checker found no fault
fine : (c : In_default) → let a = c.args in 0 ≡ check_fault a.plan a.nodes.now
fine c = sym (ap judged_number c.in_default.is) ∙ c.check_tree.ensures

pub returns-in-Err : goal.returns-in-Err
returns-in-Err c =
    tree_refused _ _ _ c.in-Err.r (sym (ap judged_number c.in-Err.is) ∙ c.check_tree.ensures)

pub returns-then-not-is_fine : goal.returns-then-not-is_fine
returns-then-not-is_fine c = history_refused _ _ _ (fine (goal.at.returns-then-not-is_fine c).In_default) (denied c.is_fine.ensures (ap not c.if-not-is_fine.true))

pub told-requires : goal.told-requires
told-requires c = record {
  accepted = sym (fine (goal.at.told-requires c).In_default);
  count = count_fine _ (granted c.is_fine.ensures (ap not c.if-not-is_fine.false));
}

pub returns : goal.returns
returns c =
    let history_fine_lem = granted c.is_fine.ensures (ap not c.if-not-is_fine.false) in
    c.told.ensures ∙ masks_followed _ _ _ (fine (goal.at.returns c).In_default) history_fine_lem
