-- `soonest`: slots that every win keeps to. Only the checker need believe this file.
use mathlib.Core.Path.{◌≡◌, subst}
use Prim.Native.Nat.{ℕ, ◌<◌}
use lib.ListN.{get_or}
use Rattle.table.specs.declared.View.{View}
use Rattle.table.specs.Table.{Win, Below}
use Rattle.pruning.proofs.WinLaws.{table_timely}
use Rattle.pruning.proofs.soonest.Goals as goal

pub returns-then-are_slots : goal.returns-then-are_slots
returns-then-are_slots c wf ok =
    let a = c.args in
    let v = c.view-v in
    let small = subst (λ (s : View). (x : ℕ) → x < 8 → get_or s.cap x 0 < 255) v.ensures.seen (c.are_slots.ensures c.if-are_slots.true) in
    let below = subst (λ (s : View). (w : Win s) (r : ℕ) → w.settled r ≡ r → Below w r c.soonest.result) v.ensures.seen c.soonest.ensures in
    table_timely a.plan wf a.at v.result.constraints ok small (v.ensures.say wf.head.constraints) c.soonest.result below
