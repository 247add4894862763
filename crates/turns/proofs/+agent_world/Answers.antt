-- The proof of `agent` and `world`, which call each other with fewer points left. Only the checker need believe this file.
use mathlib.Core.Path.{◌≡◌, refl, sym, ◌∙◌, subst}
use mathlib.Core.Bool.{true}
use Prim.Native.Nat.{ℕ, ◌+◌, ◌-◌, ◌*◌, ◌^◌, ◌≤◌, ◌<◌}
use native.Mathlib.Omega.{arith}
use borrow.Author.Rules.{rules}
use borrow.Rule.Slice.PartMut.{same_len_mid}
use lib.ListN.{length}
use Rattle.std.specs.Prelude.{Option, Some, None}
use Rattle.network.specs.Mask.{bit, count}
use Rattle.plan.specs.Plan.{network_of}
use Rattle.plan.specs.Letters.{heard_by}
use Rattle.plan.proofs.SliceLaws.{rest}
use Rattle.tree.specs.declared.Node.{Node}
use Rattle.tree.specs.Parts.{move_of}
use Rattle.moves.proofs.OrderLaws.{moves_ahead, ahead_falls}
use Rattle.game.specs.Position.{state_of}
use Rattle.game.proofs.NextLaws.{next, next_proper, next_fewer}
use Rattle.turns.specs.Turns.{most, most_behind}
use Rattle.turns.proofs.PlaceLaws as at_place
use Rattle.turns.proofs.PlaceLaws.{AgentAt, WorldAt, Trying}
use Rattle.turns.proofs.+agent_world.Goals as goal
use Rattle.turns.proofs.+agent_world.Goals.{agent-In-Some, agent-In-Some-world, world-After-after-next, world-After-submasks-outcomes, world-In_ok-count, world-Start}

-- ---- the agent

-- the move at hand
agent-tries : (t : ℕ) (c : agent-In-Some t) →
    let a = c.args in
    let soon = c.soonest-soonest in
    Trying a.plan a.at soon.result a.buf.now c.loop-step.buf (Some c.in-Some.v)
agent-tries t c =
    let a = c.args in
    let l = c.loop-step in
    let soon = c.soonest-soonest in
    subst (Trying a.plan a.at soon.result a.buf.now l.buf) c.in-Some.is l.invariant.1

-- it has room, and so has what comes behind it
agent-room : (t : ℕ) (c : agent-In-Some t) →
    let a = c.args in
    3 + 3 * most_behind (network_of a.plan) (state_of a.plan a.at) (move_of c.in-Some.v) ≤ length c.loop-step.buf
agent-room t c =
    let a = c.args in
    let l = c.loop-step in
    at_place.move_fits a.plan c.requires.0 a.at c.requires.1 a.buf.now c.requires.2
    _ l.buf l.invariant.0 _ (agent-tries t c)

-- what the world found behind it, where it is a tree
agent-won : (t : ℕ) (c : agent-In-Some-world t) →
    let a = c.args in
    let l = c.loop-step in
    let w = c.world in
    WorldAt a.plan a.at c.in-Some.v (Some c.in-Some-world.n) (rest 3 l.buf) w.new.buf
agent-won t c =
    let a = c.args in
    let l = c.loop-step in
    let w = c.world in
    let said : WorldAt a.plan a.at c.in-Some.v w.result (rest 3 l.buf) w.new.buf = w.ensures in
    subst (λ (r : Option ℕ). WorldAt a.plan a.at c.in-Some.v r (rest 3 l.buf) w.new.buf) c.in-Some-world.is said

pub agent-returns-then-at-eq0 : goal.agent-returns-then-at-eq0
agent-returns-then-at-eq0 t c =
    let a = c.args in
    at_place.ends_found a.plan c.requires.0 a.at c.requires.1 a.buf.now c.requires.2
    c.if-at-eq0.true _ c.keeps_so_far.ensures _ c.then_some.ensures

pub agent-loop-step-init : goal.agent-loop-step-init
agent-loop-step-init t c =
    let a = c.args in (
      refl,
      at_place.first_tried a.plan c.requires.0 a.at c.requires.1 a.buf.now c.requires.2
          _ (c.soonest-soonest.ensures c.requires.0 c.requires.1) _ c.first_move-step.ensures,
    )

pub agent-returns : goal.agent-returns
agent-returns t c =
    let a = c.args in
    let l = c.loop-step in
    let soon = c.soonest-soonest in
    at_place.tried_all a.plan c.requires.0 a.at c.requires.1 a.buf.now c.requires.2 soon.result l.buf l.invariant.0
    c.if-at-eq0.false
    (subst (Trying a.plan a.at soon.result a.buf.now l.buf) c.in_default.is l.invariant.1)

pub agent-slice_bounds-world-count : goal.agent-slice_bounds-world-count
agent-slice_bounds-world-count t c = let r = agent-room t c in omega arith

pub agent-slice_bounds-world-start : goal.agent-slice_bounds-world-start
agent-slice_bounds-world-start t c = let r = agent-room t c in omega arith

pub agent-world-requires : goal.agent-world-requires
agent-world-requires t c =
    let a = c.args in
    let l = c.loop-step in
    let tries = agent-tries t (goal.at.agent-world-requires t c).In-Some in (
      rw (← c.decreases) (omega arith),
      (
        c.requires.0,
        c.requires.1,
        tries.ahead.0,
        at_place.part_fits a.plan c.requires.0 a.at c.requires.1 a.buf.now c.requires.2 _ l.buf l.invariant.0 _ tries,
      ),
    )

pub agent-overflow_add-result : goal.agent-overflow_add-result
agent-overflow_add-result t c =
    let a = c.args in
    let l = c.loop-step in
    let tries = agent-tries t (goal.at.agent-overflow_add-result t c).In-Some in
    let won = agent-won t (goal.at.agent-overflow_add-result t c).In-Some-world in
    let f = at_place.count_fits a.plan c.requires.0 a.at c.requires.1 a.buf.now c.requires.2
    _ l.buf l.invariant.0 _ tries _ _ won in
    let e = l.invariant.0 in
    let g = c.well_formed in
    omega arith

pub agent-returns-in-Some-world : goal.agent-returns-in-Some-world
agent-returns-in-Some-world t c =
    let a = c.args in
    let l = c.loop-step in
    let tries = agent-tries t (goal.at.agent-returns-in-Some-world t c).In-Some in
    let won = agent-won t (goal.at.agent-returns-in-Some-world t c).In-Some-world in
    at_place.tried_wins a.plan c.requires.0 a.at c.requires.1 a.buf.now c.requires.2
    _ l.buf l.invariant.0 _ tries _ _ _ won c.put_node.ensures

pub agent-loop-step-smaller : goal.agent-loop-step-smaller
agent-loop-step-smaller t c =
    let a = c.args in
    let tries = agent-tries t (goal.at.agent-loop-step-smaller t c).In-Some in
    let falls = ahead_falls a.plan c.requires.0 a.at c.requires.1 _ _ tries.ahead.0 tries.ahead.1 in
    subst (λ (x : Option Node). moves_ahead c.next_move-step.result < moves_ahead x) (sym c.in-Some.is) (rw c.next_move-step.ensures falls)

pub agent-loop-step-preserved : goal.agent-loop-step-preserved
agent-loop-step-preserved t c =
    let a = c.args in
    let l = c.loop-step in
    let w = c.world in
    let es = w.new.buf in
    let soon = c.soonest-soonest in
    let lost = subst (λ (r : Option ℕ). WorldAt a.plan a.at c.in-Some.v r (rest 3 l.buf) es) c.in_default-world.is w.ensures in (
      same_len_mid 3 (length l.buf - 3) l.buf es w.auto.buf ∙ l.invariant.0,
      at_place.tried_next a.plan c.requires.0 a.at c.requires.1 a.buf.now c.requires.2
          _ l.buf l.invariant.0 c.in-Some.v (agent-tries t (goal.at.agent-loop-step-preserved t c).In-Some) es
          (soon.ensures c.requires.0 c.requires.1) lost _ c.next_move-step.ensures,
    )

-- ---- the world

world-long : (t : ℕ) (c : world-Start t) → length c.args.at.slots ≡ 8
world-long t c = search rules

-- how many outcomes there are
world-counts : (t : ℕ) (c : world-After-submasks-outcomes t) →
    let a = c.args in
    c.submasks-outcomes.result ≡ 2 ^ count 8 (bit (heard_by a.plan a.v.points))
world-counts t c = c.submasks-outcomes.ensures ∙ rw c.heard-heard.ensures refl

-- the position after outcome k
world-next : (t : ℕ) (c : world-After-after-next t) →
    let a = c.args in
    c.after-next.result ≡ next a.plan a.at a.v c.loop-k.k
world-next t c = c.after-next.ensures ∙ rw (c.numbered.ensures, c.heard-heard.ensures) refl

-- its tree has room behind the others
world-room : (t : ℕ) (c : world-After-after-next t) (world-long_here : length c.args.at.slots ≡ 8) (world-counts_here : let a = c.args in
    c.submasks-outcomes.result ≡ 2 ^ count 8 (bit (heard_by a.plan a.v.points))) →
    let a = c.args in
    let l = c.loop-k in
    3 * l.count + 3 * most (network_of a.plan) (state_of a.plan c.after-next.result) ≤ length l.buf
world-room t c world-long_here world-counts_here =
    let a = c.args in
    let l = c.loop-k in
    let all = world-counts_here in
    at_place.tree_fits a.plan c.requires.0 a.at c.requires.1 a.v c.requires.2 a.buf.now c.requires.3 _ all
    l.buf l.invariant.0 l.count l.k l.invariant.1 (omega arith) (world-long_here) _ (world-next t c)

-- what the agent found there, where it is a tree
world-won : (t : ℕ) (c : world-In_ok-count t) →
    let a = c.args in
    let l = c.loop-k in
    let r = c.agent in
    let u = c.after-next.result in
    AgentAt a.plan u (Some c.in_ok-count.field-0) (rest (3 * l.count) l.buf) r.new.buf
world-won t c =
    let a = c.args in
    let l = c.loop-k in
    let r = c.agent in
    let u = c.after-next.result in
    let is-won : r.result ≡ Some c.in_ok-count.field-0 = c.in_ok-count.was in
    let said : AgentAt a.plan u r.result (rest (3 * l.count) l.buf) r.new.buf = r.ensures in
    subst (λ (x : Option ℕ). AgentAt a.plan u x (rest (3 * l.count) l.buf) r.new.buf) is-won said

pub world-returns-then-move_lost : goal.world-returns-then-move_lost
world-returns-then-move_lost t c =
    let a = c.args in
    let said : c.move_lost.result ≡ true = c.if-move_lost.true in
    at_place.refuted a.plan c.requires.0 a.at c.requires.1 a.v c.requires.2 a.buf.now c.requires.3
    (c.move_lost.ensures c.requires.0 c.requires.1 c.requires.2 said)

pub world-loop-k-init : goal.world-loop-k-init
world-loop-k-init t c =
    let a = c.args in
    (refl, at_place.answering_start a.plan c.requires.0 a.at c.requires.1 a.v c.requires.2 a.buf.now c.requires.3)

pub world-overflow_mul-count : goal.world-overflow_mul-count
world-overflow_mul-count t c =
    let r = world-room t c (world-long t (goal.at.world-overflow_mul-count t c).Start) (world-counts t (goal.at.world-overflow_mul-count t c).After-submasks-outcomes) in
    let g = c.well_formed in
    let e = c.loop-k.invariant.0 in
    omega arith

pub world-slice_bounds-agent-count : goal.world-slice_bounds-agent-count
world-slice_bounds-agent-count t c = let r = world-room t c (world-long t (goal.at.world-slice_bounds-agent-count t c).Start) (world-counts t (goal.at.world-slice_bounds-agent-count t c).After-submasks-outcomes) in omega arith

pub world-slice_bounds-agent-start : goal.world-slice_bounds-agent-start
world-slice_bounds-agent-start t c = let r = world-room t c (world-long t (goal.at.world-slice_bounds-agent-start t c).Start) (world-counts t (goal.at.world-slice_bounds-agent-start t c).After-submasks-outcomes) in omega arith

pub world-agent-requires : goal.world-agent-requires
world-agent-requires t c =
    let a = c.args in
    let l = c.loop-k in
    let all = world-counts t (goal.at.world-agent-requires t c).After-submasks-outcomes in
    let e = world-next t (goal.at.world-agent-requires t c).After-after-next in
    let f = next_fewer a.plan c.requires.0 a.at c.requires.1 a.v c.requires.2 l.k in
    let proper = next_proper a.plan c.requires.0 a.at c.requires.1 a.v c.requires.2 l.k in (
      rw (e, ← c.decreases) (omega arith),
      (
        c.requires.0,
        rw e proper,
        at_place.rest_fits a.plan c.requires.0 a.at c.requires.1 a.v c.requires.2 a.buf.now c.requires.3 _ all
            l.buf l.invariant.0 l.count l.k l.invariant.1 (omega arith) (world-long t (goal.at.world-agent-requires t c).Start) _ e,
      ),
    )

pub world-returns-in_err-count : goal.world-returns-in_err-count
world-returns-in_err-count t c =
    let a = c.args in
    let l = c.loop-k in
    let all = world-counts t (goal.at.world-returns-in_err-count t c).After-submasks-outcomes in
    let r = c.agent in
    let u = c.after-next.result in
    let is-lost : r.result ≡ None = search rules in
    let lost = subst (λ (x : Option ℕ). AgentAt a.plan u x (rest (3 * l.count) l.buf) r.new.buf) is-lost r.ensures in
    let none : c.from_residual.result ≡ None = search rules in
    rw none (at_place.answered_lost a.plan c.requires.0 a.at c.requires.1 a.v c.requires.2 a.buf.now c.requires.3 _ all
    l.buf l.invariant.0 l.count l.k l.invariant.1
    (omega arith) (world-long t (goal.at.world-returns-in_err-count t c).Start) u (world-next t (goal.at.world-returns-in_err-count t c).After-after-next) _ lost)

pub world-overflow_add-count : goal.world-overflow_add-count
world-overflow_add-count t c =
    let a = c.args in
    let l = c.loop-k in
    let all = world-counts t (goal.at.world-overflow_add-count t c).After-submasks-outcomes in
    let f = at_place.sum_fits a.plan c.requires.0 a.at c.requires.1 a.v c.requires.2 a.buf.now c.requires.3 _ all
    l.buf l.invariant.0 l.count l.k l.invariant.1
    (omega arith) (world-long t (goal.at.world-overflow_add-count t c).Start) _ (world-next t (goal.at.world-overflow_add-count t c).After-after-next) _ _ (world-won t c) in
    let e = l.invariant.0 in
    let g = c.well_formed in
    omega arith

pub world-loop-k-preserved : goal.world-loop-k-preserved
world-loop-k-preserved t c =
    let a = c.args in
    let l = c.loop-k in
    let all = world-counts t (goal.at.world-loop-k-preserved t c).After-submasks-outcomes in
    let r = c.agent in (
      same_len_mid (3 * l.count) (length l.buf - 3 * l.count) l.buf r.new.buf r.auto.buf ∙ l.invariant.0,
      at_place.answered_next a.plan c.requires.0 a.at c.requires.1 a.v c.requires.2 a.buf.now c.requires.3 _ all
          l.buf l.invariant.0 l.count l.k l.invariant.1
          (omega (arith, c.loop-k-test.true)) (world-long t (goal.at.world-loop-k-preserved t c).Start) _ (world-next t (goal.at.world-loop-k-preserved t c).After-after-next) _ _ (world-won t c),
    )

pub world-returns : goal.world-returns
world-returns t c =
    let a = c.args in
    let l = c.loop-k in
    let all = world-counts t (goal.at.world-returns t c).After-submasks-outcomes in
    at_place.answered_all a.plan c.requires.0 a.at c.requires.1 a.v c.requires.2 a.buf.now c.requires.3 _ all
    l.buf l.invariant.0 l.count l.k l.invariant.1 (λ more. omega arith)
