-- The proof of `subtree`, which calls itself with fewer points left. Only the checker need believe this file.
use mathlib.Core.Path.{ap, ◌≡◌, refl, sym, ◌∙◌}
use mathlib.Core.Bool.{not}
use Prim.Native.Nat.{ℕ, ◌+◌, ◌*◌, ◌≤◌}
use native.Mathlib.Omega.{arith}
use borrow.Author.Rules.{rules}
use lib.ListN.{length, drop, length-drop}
use Rattle.std.specs.Prelude.{None}
use Rattle.network.proofs.Booleans.{denied, granted}
use Rattle.game.specs.Position.{state_of}
use Rattle.game.proofs.NextLaws.{next}
use Rattle.checker.specs.Checker.{subtree_of, with_subtrees, subtree_at}
use Rattle.checker.proofs.CodeLaws.{below, child_is, AtNode, at_node, path_ends, too_short, not_legal, subtrees_none, subtrees_on, subtrees_stop}
use Rattle.checker.proofs.SoFarLaws.{kept_so_far_lem}
use Rattle.checker.proofs.+subtree.Goals as goal
use Rattle.checker.proofs.+subtree.Goals.{After-after-next, After-submasks-outcomes, After-subtree, Else-not-legal, In_ok-below, Start}

-- ---- behind a legal move

here : (t : ℕ) (c : Else-not-legal t) →
    let a = c.args in
    AtNode a.plan a.at a.nodes.now c.node_at-v.result
here t c =
    let a = c.args in
    let long : length a.at.slots ≡ 8 = search rules in
    at_node a.plan c.requires.0 a.at c.requires.1 a.nodes.now
    c.if-at-eq0.false long (omega arith) _
    c.node_at-v.ensures (granted c.legal.ensures (ap not c.if-not-legal.false))

read : (t : ℕ) (c : After-submasks-outcomes t) (here_here : let a = c.args in
    AtNode a.plan a.at a.nodes.now c.node_at-v.result) →
    let a = c.args in
    subtree_at a.plan (state_of a.plan a.at) a.nodes.now
    ≡ with_subtrees (below a.plan a.at c.node_at-v.result) a.nodes.now c.submasks-outcomes.result
read t c here_here = (here_here).read ∙ rw (c.submasks-outcomes.ensures, c.heard-heard.ensures)

-- the position after outcome k, and what is found there
is-next : (t : ℕ) (c : After-after-next t) →
    let a = c.args in
    let v = c.node_at-v.result in
    c.after-next.result ≡ next a.plan a.at v c.loop-k.k
is-next t c = c.after-next.ensures ∙ rw (c.numbered.ensures, c.heard-heard.ensures) refl

is-child : (t : ℕ) (c : After-subtree t) (is-next_here : let a = c.args in
    let v = c.node_at-v.result in
    c.after-next.result ≡ next a.plan a.at v c.loop-k.k) →
    let a = c.args in
    let l = c.loop-k in
    let v = c.node_at-v.result in
    below a.plan a.at v l.k (drop (3 * l.count) a.nodes.now) ≡ c.subtree.result
is-child t c is-next_here =
    let a = c.args in
    child_is a.plan a.at c.node_at-v.result c.loop-k.k c.loop-k.count a.nodes.now c.after-next.result _ is-next_here c.subtree.ensures

-- its nodes lie within the bytes
child_fits : (t : ℕ) (c : In_ok-below t) (here_here : let a = c.args in
    AtNode a.plan a.at a.nodes.now c.node_at-v.result) (is-child_here : let a = c.args in
    let l = c.loop-k in
    let v = c.node_at-v.result in
    below a.plan a.at v l.k (drop (3 * l.count) a.nodes.now) ≡ c.subtree.result) →
    let a = c.args in
    let l = c.loop-k in
    3 * (l.count + c.in_ok-below.below.nodes) ≤ length a.nodes.now
child_fits t c here_here is-child_here =
    let l = c.loop-k in
    let a = c.args in
    let e = is-child_here ∙ c.in_ok-below.was in
    let f = (here_here).fit l.k _ _ _ e in
    let d = length-drop (3 * l.count) a.nodes.now in
    omega arith

-- ---- the needs

pub returns-then-at-eq0 : goal.returns-then-at-eq0
returns-then-at-eq0 t c =
    let a = c.args in
    ap (subtree_of 0) c.keeps_so_far-kept_so_far.ensures
    ∙ path_ends a.plan c.requires.0 a.at c.requires.1 a.nodes.now c.if-at-eq0.true

pub returns-then-nodes-lt3 : goal.returns-then-nodes-lt3
returns-then-nodes-lt3 t c =
    let a = c.args in
    too_short a.plan c.requires.0 a.at c.requires.1 a.nodes.now c.if-at-eq0.false c.if-nodes-lt3.true

pub returns-then-not-legal : goal.returns-then-not-legal
returns-then-not-legal t c =
    let a = c.args in
    not_legal a.plan c.requires.0 a.at c.requires.1 a.nodes.now c.if-at-eq0.false _
    c.node_at-v.ensures (denied c.legal.ensures (ap not c.if-not-legal.true))

pub loop-k-init : goal.loop-k-init
loop-k-init t c = (omega arith, omega arith, subtrees_none _ _)

pub subtree-requires : goal.subtree-requires
subtree-requires t c =
    let n = here t (goal.at.subtree-requires t c).Else-not-legal in
    let e = is-next t (goal.at.subtree-requires t c).After-after-next in
    let k = c.loop-k.k in
    (rw (e, ← c.decreases) (n.fewer k), (c.requires.0, rw e (n.proper k)))

pub returns-in_err-below : goal.returns-in_err-below
returns-in_err-below t c =
    let i = c.loop-k.invariant in
    let none : c.from_residual.result ≡ None = grind arith in
    none
    ∙ sym (read t (goal.at.returns-in_err-below t c).After-submasks-outcomes (here t (goal.at.returns-in_err-below t c).Else-not-legal)
    ∙ subtrees_stop _ _ _ _ _ i.2 (is-child t (goal.at.returns-in_err-below t c).After-subtree (is-next t (goal.at.returns-in_err-below t c).After-after-next) ∙ c.in_err-below.was) _ (omega arith))

pub overflow_add-count : goal.overflow_add-count
overflow_add-count t c =
    omega (arith, child_fits t (goal.at.overflow_add-count t c).In_ok-below (here t (goal.at.overflow_add-count t c).Else-not-legal) (is-child t (goal.at.overflow_add-count t c).After-subtree (is-next t (goal.at.overflow_add-count t c).After-after-next)))

pub loop-k-preserved : goal.loop-k-preserved
loop-k-preserved t c = (
  omega arith,
  child_fits t (goal.at.loop-k-preserved t c).In_ok-below (here t (goal.at.loop-k-preserved t c).Else-not-legal) (is-child t (goal.at.loop-k-preserved t c).After-subtree (is-next t (goal.at.loop-k-preserved t c).After-after-next)),
  subtrees_on _ _ _ _ _ c.loop-k.invariant.2 _ _
      (is-child t (goal.at.loop-k-preserved t c).After-subtree (is-next t (goal.at.loop-k-preserved t c).After-after-next) ∙ c.in_ok-below.was),
)

pub returns : goal.returns
returns t c =
    let l = c.loop-k in
    let a = c.args in
    let e : c.submasks-outcomes.result ≡ l.k = omega arith in
    let is : subtree_at a.plan (state_of a.plan a.at) a.nodes.now ≡ subtree_of l.count l.kept
    = read t (goal.at.returns t c).After-submasks-outcomes (here t (goal.at.returns t c).Else-not-legal) ∙ rw e l.invariant.2 in
    let same = kept_so_far_lem a.plan c.requires.0 a.at c.requires.1 a.nodes.now l.count l.kept is in
    sym (is ∙ ap (subtree_of l.count) (sym (rw c.keeps_so_far-kept_so_far.ensures same)))
