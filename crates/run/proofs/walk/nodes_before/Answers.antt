-- By the laws of the walk: outcomes are passed until the one reported comes. Only the checker need believe this file.
use mathlib.Core.Path.{◌≡◌, sym, ap, ◌∙◌, subst}
use mathlib.Core.Bool.{true}
use Prim.Native.Nat.{ℕ, ◌+◌, ◌*◌, ◌≤◌}
use native.Mathlib.Omega.{arith}
use borrow.Author.Rules.{rules}
use lib.ListN.{length}
use Rattle.network.specs.Mask.{bit, submask}
use Rattle.plan.specs.Letters.{heard_by}
use Rattle.tree.specs.declared.Node.{Node}
use Rattle.tree.specs.Parts.{from_node, move_of}
use Rattle.game.specs.Carried.{position_after}
use Rattle.game.specs.Position.{state_of, is_legal}
use Rattle.game.proofs.NextLaws.{next}
use Rattle.checker.specs.Checker.{subtree_of}
use Rattle.checker.proofs.CodeLaws.{below, child_is}
use Rattle.run.specs.Told.{may_report}
use Rattle.run.proofs.WalkLaws.{Here, node_here, pass_none, pass_ends, pass_fits}
use Rattle.run.proofs.WalkLaws.{pass_more, pass_stop, pass_end}
use Rattle.run.proofs.walk.nodes_before.Goals as goal
use Rattle.run.proofs.walk.nodes_before.Goals.{After-after-next, After-node_at-v, After-numbered-outcome, After-subtree, In-Some, Start}

long : (c : Start) → length c.args.at.slots ≡ 8
long c = search rules

-- a legal move stands at the front, and the mask may be reported there
here : (c : After-node_at-v) (long_here : length c.args.at.slots ≡ 8) →
    let a = c.args in
    Here a.plan a.at a.nodes.now c.node_at-v.result a.mask
here c long_here =
    let a = c.args in
    let front = c.node_at-v.ensures in
    record {
      wf = c.requires.well_formed.0;
      ok = c.requires.well_formed.1;
      long = long_here;
      whole = c.requires.whole;
      front = front;
      legal = subst (λ (x : Node). is_legal a.plan (state_of a.plan a.at) (move_of x) ≡ true) (sym front) c.requires.legal;
      may = subst (λ (x : Node). may_report a.plan (move_of x) a.mask ≡ true) (sym front) c.requires.reported;
    }

-- the outcome of number k, and the position after it, as the code computes them
is-outcome : (c : After-numbered-outcome) →
    c.numbered-outcome.result ≡ submask 8 (bit (heard_by c.args.plan c.node_at-v.result.points)) c.loop-k.k
is-outcome c = c.numbered-outcome.ensures ∙ ap (λ (x : ℕ). submask 8 (bit x) c.loop-k.k) c.heard-heard.ensures

is-next : (c : After-after-next) (is-outcome_here : c.numbered-outcome.result ≡ submask 8 (bit (heard_by c.args.plan c.node_at-v.result.points)) c.loop-k.k) →
    let a = c.args in
    c.after-next.result ≡ next a.plan a.at c.node_at-v.result c.loop-k.k
is-next c is-outcome_here = c.after-next.ensures ∙ ap (position_after c.args.at c.node_at-v.result) is-outcome_here

is-child : (c : After-subtree) (is-next_here : let a = c.args in
    c.after-next.result ≡ next a.plan a.at c.node_at-v.result c.loop-k.k) →
    let a = c.args in
    let l = c.loop-k in
    below a.plan a.at c.node_at-v.result l.k (from_node a.nodes.now l.count) ≡ c.subtree.result
is-child c is-next_here =
    let a = c.args in
    child_is a.plan a.at c.node_at-v.result c.loop-k.k c.loop-k.count a.nodes.now c.after-next.result _ is-next_here c.subtree.ensures

-- it is sound
sound-child : (c : In-Some) (is-child_here : let a = c.args in
    let l = c.loop-k in
    below a.plan a.at c.node_at-v.result l.k (from_node a.nodes.now l.count) ≡ c.subtree.result) →
    let a = c.args in
    let l = c.loop-k in
    below a.plan a.at c.node_at-v.result l.k (from_node a.nodes.now l.count) ≡ subtree_of c.in-Some.below.nodes c.in-Some.below.kept
sound-child c is-child_here = is-child_here ∙ c.in-Some.is

child_fits : (c : In-Some) (here_here : let a = c.args in
    Here a.plan a.at a.nodes.now c.node_at-v.result a.mask) (is-outcome_here : c.numbered-outcome.result ≡ submask 8 (bit (heard_by c.args.plan c.node_at-v.result.points)) c.loop-k.k) (is-child_here : let a = c.args in
    let l = c.loop-k in
    below a.plan a.at c.node_at-v.result l.k (from_node a.nodes.now l.count) ≡ c.subtree.result) →
    3 * (c.loop-k.count + c.in-Some.below.nodes) ≤ length c.args.nodes.now
child_fits c here_here is-outcome_here is-child_here = pass_fits _ _ _ _ _ (here_here) _ _ c.loop-k.invariant _ is-outcome_here _ _ (sound-child c is-child_here)

-- ---- the needs

pub loop-k-init : goal.loop-k-init
loop-k-init c = pass_none _ _ _ _ _ (here (goal.at.loop-k-init c).After-node_at-v (long (goal.at.loop-k-init c).Start))

pub returns-then-outcome-mask : goal.returns-then-outcome-mask
returns-then-outcome-mask c =
    let at = goal.at.returns-then-outcome-mask c in
    pass_end _ _ _ _ _ (here at.After-node_at-v (long at.Start)) _ _ c.loop-k.invariant _ (is-outcome at.After-numbered-outcome) c.if-outcome-mask.true

pub subtree-requires : goal.subtree-requires
subtree-requires c =
    let at = goal.at.subtree-requires c in
    (c.requires.well_formed.0, rw (is-next at.After-after-next (is-outcome at.After-numbered-outcome)) ((node_here _ _ _ _ _ (here at.After-node_at-v (long at.Start))).proper _))

pub returns-in_default : goal.returns-in_default
returns-in_default c =
    let at = goal.at.returns-in_default c in
    let is = is-outcome at.After-numbered-outcome in
    pass_stop _ _ _ _ _ (here at.After-node_at-v (long at.Start)) _ _ c.loop-k.invariant _ is c.if-outcome-mask.false (is-child at.After-subtree (is-next at.After-after-next is) ∙ c.in_default.is)

pub overflow_add-count : goal.overflow_add-count
overflow_add-count c =
    let at = goal.at.overflow_add-count c in
    let is = is-outcome at.After-numbered-outcome in
    omega (arith, child_fits at.In-Some (here at.After-node_at-v (long at.Start)) is (is-child at.After-subtree (is-next at.After-after-next is)))

pub loop-k-preserved : goal.loop-k-preserved
loop-k-preserved c =
    let at = goal.at.loop-k-preserved c in
    let is = is-outcome at.After-numbered-outcome in
    pass_more _ _ _ _ _ (here at.After-node_at-v (long at.Start)) _ _ c.loop-k.invariant _ is _ _ c.if-outcome-mask.false (sound-child at.In-Some (is-child at.After-subtree (is-next at.After-after-next is)))

pub returns : goal.returns
returns c =
    let at = goal.at.returns c in
    pass_ends _ _ _ _ _ (here at.After-node_at-v (long at.Start)) _ _ c.loop-k.invariant (rw (← c.heard-heard.ensures) (omega arith))
