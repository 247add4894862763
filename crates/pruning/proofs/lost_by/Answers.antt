-- `lost_by`: a view that no win has is of a position that is lost. Only the checker need believe this file.
use mathlib.Core.Path.{subst}
use Prim.Native.Nat.{ℕ, ◌<◌}
use lib.ListN.{get_or}
use Rattle.table.specs.declared.View.{View}
use Rattle.table.specs.Table.{Win}
use Rattle.pruning.proofs.WinLaws.{table_lost}
use Rattle.pruning.proofs.lost_by.Goals as goal

pub returns-then-are_slots : goal.returns-then-are_slots
returns-then-are_slots c wf ok e =
    let a = c.args in
    let v = c.view-v in
    let small = subst (λ (s : View). (x : ℕ) → x < 8 → get_or s.cap x 0 < 255) v.ensures.seen (c.are_slots.ensures c.if-are_slots.true) in
    let none = subst (λ (s : View). ¬ Win s) v.ensures.seen (c.hopeless.ensures e) in
    table_lost a.plan.now wf a.at v.result.constraints ok small (v.ensures.say wf.head.constraints) none
