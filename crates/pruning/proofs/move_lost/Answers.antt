-- `move_lost`: an outcome after which the state is lost decides. Only the checker need believe this file.
use mathlib.Core.Path.{◌≡◌, ap, ◌∙◌}
use mathlib.Core.Bool.{true}
use Prim.Native.Nat.{ℕ}
use borrow.Author.Rules.{rules}
use lib.ListN.{length}
use Rattle.network.specs.Mask.{bit, submask}
use Rattle.network.specs.FirstMoves.{CanBeWon}
use Rattle.plan.specs.Plan.{network_of}
use Rattle.plan.specs.Letters.{heard_by}
use Rattle.game.specs.Carried.{position_after}
use Rattle.game.specs.Position.{state_of, Proper}
use Rattle.game.proofs.NextLaws.{next, next_proper}
use Rattle.pruning.proofs.MoveLaws.{move_wins_nothing}
use Rattle.pruning.proofs.move_lost.Goals as goal
use Rattle.pruning.proofs.move_lost.Goals.{After-after-next, Start}

long : (c : Start) → length c.args.at.slots ≡ 8
long c = search rules

-- the position after outcome k
is-next : (c : After-after-next) →
    let a = c.args in
    c.after-next.result ≡ next a.plan a.at a.v c.loop-k.k
is-next c =
    let a = c.args in
    let k = c.loop-k.k in
    let letters = c.heard-heard in
    let outcome = c.numbered in
    let heard : letters.result ≡ heard_by a.plan a.v.points = letters.ensures in
    let told : outcome.result ≡ submask 8 (bit letters.result) k = outcome.ensures in
    c.after-next.ensures ∙ ap (position_after a.at a.v) (told ∙ ap (λ (m : ℕ). submask 8 (bit m) k) heard)

pub returns-then-lost_at : goal.returns-then-lost_at
returns-then-lost_at c =
    let a = c.args in
    let k = c.loop-k.k in
    let test = c.lost_at in
    let yes : test.result ≡ true = c.if-lost_at.true in
    λ wf ok lg e.
    let proper : Proper a.plan c.after-next.result
    = rw (is-next (goal.at.returns-then-lost_at c).After-after-next) (next_proper a.plan wf a.at ok a.v lg k) in
    let gone : ¬ CanBeWon (network_of a.plan) (state_of a.plan c.after-next.result)
    = test.ensures.lost wf proper yes in
    move_wins_nothing a.plan wf a.at ok (long (goal.at.returns-then-lost_at c).Start) a.v lg k (rw (is-next (goal.at.returns-then-lost_at c).After-after-next) at gone)
