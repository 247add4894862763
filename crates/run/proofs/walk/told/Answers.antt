-- The invariant: where the walk stands leads to what is told. Only the checker need believe this file.
use mathlib.Core.Path.{ap, ◌≡◌, refl, ◌∙◌, subst}
use mathlib.Core.Bool.{not}
use mathlib.Core.List.{List}
use Prim.Native.Nat.{ℕ, ◌+◌, ◌*◌, ◌≤◌}
use native.Mathlib.Omega.{arith}
use lib.ListN.{length, get_or, take, drop, drop_of_length-le}
use Rattle.std.proofs.lemmas.List.{drop_more}
use Rattle.network.specs.Game.{start}
use Rattle.network.proofs.Booleans.{denied, granted}
use Rattle.plan.specs.Plan.{network_of}
use Rattle.tree.specs.Parts.{move_of}
use Rattle.plan.specs.declared.Plan.{Plan}
use Rattle.run.specs.declared.History.{History}
use Rattle.run.specs.Run.{told_from}
use Rattle.run.specs.Told.{Told, may_report}
use Rattle.run.proofs.WalkLaws.{front_legal, front_may}
use Rattle.run.proofs.ToldFromLaws.{no_longer, Walked, walk_ends, walk_after_done, AtMask, walk_refused, walk_here, walk_fits, walk_on, walk_begins}
use Rattle.run.proofs.walk.told.Goals as goal
use Rattle.run.proofs.walk.told.Goals.{After-node_at-v, After-nodes_before-before, After-subset}

-- ---- at the entry

-- what is to be told, and the reports that the history holds
abbrev reports : History → List ℕ
reports history = take history.count history.masks

abbrev told_of : Plan → List ℕ → History → Told
told_of plan nodes history = told_from plan (start (network_of plan)) nodes (reports history)

-- ---- at a mask

abbrev mask_at : History → ℕ → ℕ
mask_at history i = get_or (reports history) i 0

at-mask : (c : After-node_at-v) →
    let l = c.loop-mask in
    let h = c.args.history in
    AtMask c.args.plan (told_of c.args.plan c.args.nodes.now h) l.at l.rest.now (mask_at h l.mask-index) (drop (l.mask-index + 1) (reports h))
    c.node_at-v.result
at-mask c =
    let l = c.loop-mask in
    let h = c.args.history in
    record {
      walked = subst (Walked c.args.plan (told_of c.args.plan c.args.nodes.now h) l.at l.rest.now)
          (drop_more (reports h) l.mask-index 0 c.loop-mask-test.true) l.invariant.1;
      some = c.if-at-eq0.false;
      front = c.node_at-v.ensures;
    }

-- what is tested of it
may-be : (c : After-subset) →
    let a = c.args in
    c.subset.result ≡ may_report a.plan (move_of c.node_at-v.result) (mask_at a.history c.loop-mask.mask-index)
may-be c = c.subset.ensures ∙ rw c.heard.ensures refl

fits-here : (c : After-nodes_before-before) (at-mask_here : let l = c.loop-mask in
    let h = c.args.history in
    AtMask c.args.plan (told_of c.args.plan c.args.nodes.now h) l.at l.rest.now (mask_at h l.mask-index) (drop (l.mask-index + 1) (reports h))
    c.node_at-v.result) (may-be_here : let a = c.args in
    c.subset.result ≡ may_report a.plan (move_of c.node_at-v.result) (mask_at a.history c.loop-mask.mask-index)) → 3 * c.nodes_before-before.result ≤ length c.loop-mask.rest.now
fits-here c at-mask_here may-be_here =
    let may = granted (may-be_here) (ap not c.if-not-subset.false) in
    rw c.nodes_before-before.ensures (walk_fits _ _ _ _ _ _ _ (at-mask_here) may)

-- ---- the needs

pub loop-mask-init : goal.loop-mask-init
loop-mask-init c = (omega arith, rw c.start-at.ensures (walk_begins _ _ _ c.requires.accepted))

pub returns-then-at-eq0 : goal.returns-then-at-eq0
returns-then-at-eq0 c =
    let l = c.loop-mask in
    walk_after_done _ _ _ _ _ l.invariant.1 _ _ (drop_more (reports c.args.history) l.mask-index 0 c.loop-mask-test.true) c.if-at-eq0.true

pub returns-then-not-subset : goal.returns-then-not-subset
returns-then-not-subset c =
    let at = goal.at.returns-then-not-subset c in
    walk_refused _ _ _ _ _ _ _ (at-mask at.After-node_at-v) (denied (may-be at.After-subset) (ap not c.if-not-subset.true))

pub nodes_before-before-requires : goal.nodes_before-before-requires
nodes_before-before-requires c =
    let at = goal.at.nodes_before-before-requires c in
    let h = walk_here _ _ _ _ _ _ _ (at-mask at.After-node_at-v) (granted (may-be at.After-subset) (ap not c.if-not-subset.false)) in
    record { well_formed = (h.wf, h.ok); whole = h.whole; legal = front_legal _ _ _ _ _ h; reported = front_may _ _ _ _ _ h }

pub overflow_mul-rest : goal.overflow_mul-rest
overflow_mul-rest c =
    let at = goal.at.overflow_mul-rest c in
    omega (arith, fits-here c (at-mask at.After-node_at-v) (may-be at.After-subset), c.loop-mask.invariant.0, c.well_formed)

pub slice_bounds-rest-count : goal.slice_bounds-rest-count
slice_bounds-rest-count c =
    let at = goal.at.slice_bounds-rest-count c in
    fits-here c (at-mask at.After-node_at-v) (may-be at.After-subset)

pub slice_bounds-rest-start : goal.slice_bounds-rest-start
slice_bounds-rest-start c =
    let at = goal.at.slice_bounds-rest-start c in
    fits-here c (at-mask at.After-node_at-v) (may-be at.After-subset)

pub loop-mask-preserved : goal.loop-mask-preserved
loop-mask-preserved c =
    let l = c.loop-mask in
    let n = c.nodes_before-before in
    let at = goal.at.loop-mask-preserved c in
    let may = granted (may-be at.After-subset) (ap not c.if-not-subset.false) in (
      no_longer (3 * n.result) l.rest.now _ l.invariant.0,
      walk_on _ _ _ _ _ _ _ (at-mask at.After-node_at-v) may _ _ n.ensures c.after-at.ensures,
    )

pub returns : goal.returns
returns c =
    let l = c.loop-mask in
    c.told_here.ensures ∙ walk_ends _ _ _ _ _ l.invariant.1 (drop_of_length-le (reports c.args.history) {i = l.mask-index} (omega arith))
