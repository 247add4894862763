-- By the laws of what the call says. Only the checker need believe this file.
use mathlib.Core.Path.{ap, ◌≡◌, sym, ◌∙◌, subst}
use mathlib.Core.Bool.{not}
use native.Mathlib.Omega.{arith}
use Rattle.std.specs.Prelude.{Err}
use Rattle.network.specs.Game.{State}
use Rattle.network.proofs.Booleans.{denied, granted, not_true, not_false}
use Rattle.plan.specs.Refusal.{judged_number}
use Rattle.plan.specs.WellFormed.{WellFormed}
use Rattle.judge.specs.Judge.{plan_fault}
use Rattle.judge.proofs.WellFormedLaws.{fine_exactly}
use Rattle.tree.specs.Nodes.{node_count}
use Rattle.game.specs.Position.{state_of}
use Rattle.game.proofs.PositionLaws.{start_is, start_proper}
use Rattle.checker.specs.Checker.{subtree_of, subtree_at}
use Rattle.checker.proofs.CodeLaws.{plan_refused, length_refused, Found, shape_refused, bytes_left, broken, accepted}
use Rattle.checker.proofs.check_tree.Goals as goal
use Rattle.checker.proofs.check_tree.Goals.{After-subtree, Else-found-node_count, In_ok-judge, In-Some}

pub returns-in_err-judge : goal.returns-in_err-judge
returns-in_err-judge c =
    let r = c.in_err-judge.field-0.0 in
    let same : c.from_residual.result ≡ Err r = grind arith in
    let e = ap judged_number same in
    e ∙ plan_refused c.args.plan c.args.nodes.now r c.in_err-judge.ensures

-- the judge found no fault
fine : (c : In_ok-judge) → 0 ≡ plan_fault c.args.plan
fine c = sym (ap judged_number c.in_ok-judge.was) ∙ c.judge.ensures

well_formed : (c : In_ok-judge) → WellFormed c.args.plan
well_formed c = (fine_exactly c.args.plan).0 (sym (fine c))

pub returns-then-not-legal_length : goal.returns-then-not-legal_length
returns-then-not-legal_length c =
    let a = c.args in
    length_refused a.plan a.nodes.now (fine (goal.at.returns-then-not-legal_length c).In_ok-judge) (denied c.legal_length.ensures (ap not c.if-not-legal_length.true))

pub subtree-requires : goal.subtree-requires
subtree-requires c =
    let wf = well_formed (goal.at.subtree-requires c).In_ok-judge in
    (wf, rw c.start.ensures (start_proper c.args.plan wf))

-- what was found from the start
found : (c : After-subtree) (fine_here : 0 ≡ plan_fault c.args.plan) (well_formed_here : WellFormed c.args.plan) → Found c.args.plan c.args.nodes.now c.subtree.result
found c fine_here well_formed_here =
    let a = c.args in
    let from = ap (state_of a.plan) c.start.ensures ∙ start_is a.plan (well_formed_here) in
    record {
      fine = fine_here;
      legal = granted c.legal_length.ensures (ap not c.if-not-legal_length.false);
      is = sym (c.subtree.ensures ∙ ap (λ (s : State). subtree_at a.plan s a.nodes.now) from);
    }

pub returns-in_default : goal.returns-in_default
returns-in_default c =
    let a = c.args in
    shape_refused a.plan a.nodes.now (subst (Found a.plan a.nodes.now) c.in_default.is (found (goal.at.returns-in_default c).After-subtree (fine (goal.at.returns-in_default c).In_ok-judge) (well_formed (goal.at.returns-in_default c).In_ok-judge)))

-- .. a sound tree
found-tree : (c : In-Some) (found_here : Found c.args.plan c.args.nodes.now c.subtree.result) →
    let a = c.args in
    Found a.plan a.nodes.now (subtree_of c.in-Some.found.nodes c.in-Some.found.kept)
found-tree c found_here = let a = c.args in subst (Found a.plan a.nodes.now) c.in-Some.is (found_here)

pub returns-then-found-node_count : goal.returns-then-found-node_count
returns-then-found-node_count c =
    let n = c.node_count.ensures in
    bytes_left _ _ _ _ (found-tree (goal.at.returns-then-found-node_count c).In-Some (found (goal.at.returns-then-found-node_count c).After-subtree (fine (goal.at.returns-then-found-node_count c).In_ok-judge) (well_formed (goal.at.returns-then-found-node_count c).In_ok-judge))) (λ e. omega (arith, e, n, c.if-found-node_count.true))

-- all bytes are the tree's
all_nodes : (c : Else-found-node_count) →
    let a = c.args in
    c.in-Some.found.nodes ≡ node_count a.nodes.now
all_nodes c = omega (arith, c.if-found-node_count.false, c.node_count.ensures)

pub returns-then-not-found : goal.returns-then-not-found
returns-then-not-found c = broken _ _ _ _ (found-tree (goal.at.returns-then-not-found c).In-Some (found (goal.at.returns-then-not-found c).After-subtree (fine (goal.at.returns-then-not-found c).In_ok-judge) (well_formed (goal.at.returns-then-not-found c).In_ok-judge))) (all_nodes (goal.at.returns-then-not-found c).Else-found-node_count) (not_true _ c.if-not-found.true)

pub returns : goal.returns
returns c = accepted _ _ _ _ (found-tree (goal.at.returns c).In-Some (found (goal.at.returns c).After-subtree (fine (goal.at.returns c).In_ok-judge) (well_formed (goal.at.returns c).In_ok-judge))) (all_nodes (goal.at.returns c).Else-found-node_count) (not_false _ c.if-not-found.false)
