-- `from_slot`: the slots passed have no point ready. Only the checker need believe this file.
use mathlib.Core.Path.{◌≡◌, sym, ap, ◌∙◌}
use Prim.Native.Nat.{ℕ, ◌≤◌}
use native.Mathlib.Omega.{arith}
use Rattle.std.specs.Prelude.{Some}
use Rattle.masks.specs.Next.{next_inside}
use Rattle.moves.specs.Moves.{ready_at}
use Rattle.moves.proofs.StepLaws.{idle_start, idle_more, none_ready, first_ready}
use Rattle.moves.proofs.from_slot.Goals as goal

pub loop-t-init : goal.loop-t-init
loop-t-init c = let a = c.args in idle_start a.plan a.at a.soonest a.slot

pub returns-then-set-ne0 : goal.returns-then-set-ne0
returns-then-set-ne0 c =
    let a = c.args in
    let l = c.loop-t in
    let within : l.t ≤ a.plan.horizon = omega arith in
    let are : c.ready-set.result ≡ ready_at a.at a.soonest l.t = c.ready-set.ensures in
    let some : ¬ (c.ready-set.result ≡ 0) = c.if-set-ne0.true in
    let least : c.next_inside.result ≡ next_inside c.ready-set.result 0 = c.next_inside.ensures in
    ap (λ (x : ℕ). Some (record { slot = l.t; points = x; choices = 0 })) (least ∙ ap (λ (x : ℕ). next_inside x 0) are)
    ∙ sym (first_ready a.plan a.at a.soonest a.slot l.t l.invariant within (λ e. some (are ∙ e)))

pub loop-t-preserved : goal.loop-t-preserved
loop-t-preserved c =
    let a = c.args in
    let l = c.loop-t in
    let are : c.ready-set.result ≡ ready_at a.at a.soonest l.t = c.ready-set.ensures in
    let none : c.ready-set.result ≡ 0 = c.if-set-ne0.false in
    idle_more a.plan a.at a.soonest a.slot l.t l.invariant (sym are ∙ none)

pub returns : goal.returns
returns c =
    let a = c.args in
    let l = c.loop-t in
    sym (none_ready a.plan a.at a.soonest a.slot l.t l.invariant (omega arith))
