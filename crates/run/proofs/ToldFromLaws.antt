-- Laws of the walk from mask to mask, down the bytes of a tree that the checker accepted. Only the checker need believe this file.
use mathlib.Core.Path.{◌≡◌, refl, sym, ap, ◌∙◌, subst}
use mathlib.Core.Bool.{Bool, true, false}
use mathlib.Core.List.{List, [], ◌∷◌}
use Prim.Native.Nat.{ℕ, ◌*◌, ◌^◌, ◌≤◌}
use native.Mathlib.Omega.{arith}
use lib.ListN.{length, length-drop, length-replicate}
use Rattle.std.specs.Prelude.{Ok}
use Rattle.network.specs.Mask.{bit, count}
use Rattle.network.specs.Game.{State, start, after}
use Rattle.network.proofs.Booleans.{eqb_no}
use Rattle.plan.specs.declared.Plan.{Plan}
use Rattle.plan.specs.declared.Refusal.TheVariants as refusal
use Rattle.plan.specs.Refusal.{refusal_number}
use Rattle.plan.specs.Plan.{network_of}
use Rattle.plan.specs.Letters.{heard_by}
use Rattle.plan.specs.WellFormed.{WellFormed}
use Rattle.plan.proofs.OutcomeLaws.{submasks_are_outcomes}
use Rattle.plan.proofs.SliceLaws as slice
use Rattle.plan.proofs.SliceLaws.{rest_is}
use Rattle.tree.specs.declared.Node.{Node}
use Rattle.tree.specs.Parts.{node_at}
use Rattle.tree.specs.Parts.{from_node, move_of}
use Rattle.game.specs.declared.Position.{Position}
use Rattle.game.specs.Carried.{start_position, position_after}
use Rattle.game.specs.Position.{state_of, Proper, is_legal}
use Rattle.game.proofs.PositionLaws.{start_is, start_proper, inside_is, over_is_zero, after_long, after_proper, after_is}
use Rattle.checker.specs.Checker.{subtree_of, subtree_at, check_fault}
use Rattle.checker.proofs.SubtreeLaws.{sound_node, step, within_bytes}
use Rattle.checker.proofs.CodeLaws.{below}
use Rattle.checker.proofs.FaultLaws.{described_found}
use Rattle.checker.proofs.CheckerTheorems.{yes_exactly, checked_yes_exactly}
use Rattle.run.specs.Run.{nodes_found, nodes_before, told_here, told_from}
use Rattle.run.specs.Told.{Told, refuse, may_report}
use Rattle.run.proofs.ReportLaws.{number_lt}
use Rattle.run.proofs.WalkLaws.{Apart, apart, Here, is_legal_lem, node_here, is_outcome, number, numbered_own, before_is}

-- the part `&s[n..]` of some bytes; it is no longer than they are
abbrev part : ℕ → List ℕ → List ℕ
part = slice.rest

pub no_longer : (n : ℕ) (bs : List ℕ) (m : ℕ) → length bs ≤ m → length (part n bs) ≤ m
no_longer n bs m le = rw (rest_is n bs) (let d = length-drop n bs in omega arith)

-- Where the walk stands: a sound subtree at the front of the rest of the bytes, and masks still to be followed, which lead to what is told.
pub record Walked (p : Plan) (told : Told) (at : Position) (rest os : List ℕ) : Type 0 where
  pub wf : WellFormed p
  pub ok : Proper p at
  pub long : length at.slots ≡ 8
  pub nodes : ℕ
  pub kept : Bool
  pub sound : subtree_at p (state_of p at) rest ≡ subtree_of nodes kept
  pub leads : told_from p (state_of p at) rest os ≡ told

module _ (p : Plan) (told : Told) (at : Position) (rest os : List ℕ) (w : Walked p told at rest os) where
  -- the masks end
  pub walk_ends : os ≡ [] → told_here at.left rest ≡ told
  unfolding told_from
  walk_ends e = ap (told_from p (state_of p at) rest) (sym e) ∙ w.leads

  -- the run was done before the next mask
  pub walk_after_done : (o : ℕ) (os' : List ℕ) → os ≡ o ∷ os' → at.left ≡ 0 → refuse (refusal_number refusal.AfterDone) ≡ told
  unfolding told_from
  walk_after_done o os' more e = sym (rw e) ∙ ap (told_from p (state_of p at) rest) (sym more) ∙ w.leads

-- The walk stands at a mask, with a point left: v is the node at the front.
pub record AtMask (p : Plan) (told : Told) (at : Position) (rest : List ℕ) (o : ℕ) (os : List ℕ) (v : Node) : Type 0 where
  pub walked : Walked p told at rest (o ∷ os)
  pub some : ¬ (at.left ≡ 0)
  pub front : v ≡ node_at rest 0

module _ (p : Plan) (told : Told) (at : Position) (rest : List ℕ) (o : ℕ) (os : List ℕ) (v : Node) (m : AtMask p told at rest o os v) where
  abbrev w : Walked p told at rest (o ∷ os)
  w = m.walked

  abbrev wf : WellFormed p
  wf = m.walked.wf

  -- how many nodes the walk passes
  abbrev before : ℕ
  before = nodes_before p (state_of p at) rest o

  -- what holds of the node holds of the one at the front
  at_front : (P : Node → Type 0) → P v → P (node_at rest 0)
  at_front P = subst P m.front

  -- the mask may not be reported
  pub walk_refused : may_report p (move_of v) o ≡ false → refuse (refusal_number refusal.Mask) ≡ told
  unfolding told_from
  walk_refused z = sym (rw (eqb_no at.left 0 m.some, at_front (λ x. may_report p (move_of x) o ≡ false) z)) ∙ w.leads

  -- it may: a legal move stands at the front
  module _ (y : may_report p (move_of v) o ≡ true) where
    pub walk_here : Here p at rest v o
    walk_here =
        let left = (over_is_zero p wf at w.ok).1 m.some in
        let r = sound_node p (subtree_at p) (state_of p at) rest w.nodes w.kept
        (sym (step p wf (state_of p at) (inside_is p wf at w.ok) rest left) ∙ w.sound) in
        record {
          wf = wf;
          ok = w.ok;
          long = w.long;
          whole = r.whole;
          front = m.front;
          legal = subst (λ (x : Node). is_legal p (state_of p at) (move_of x) ≡ true) (sym m.front) r.legal;
          may = y;
        }

    -- the subtrees before its child, and its own
    parts : Apart (below p at v) rest (number p at rest v o walk_here)
    parts =
        apart (below p at v) rest (2 ^ count 8 (bit (heard_by p v.points))) w.nodes w.kept
        (sym (node_here p at rest v o walk_here).read ∙ w.sound) (number p at rest v o walk_here)
        (rw (submasks_are_outcomes p wf.head.letters (move_of v)) (number_lt p wf.head.letters (move_of v) o))

    before_nodes : before ≡ parts.nodes
    before_nodes = before_is p at rest v o walk_here ∙ ap nodes_found parts.before

    pub walk_fits : 3 * before ≤ length rest
    walk_fits =
        rw before_nodes
        (within_bytes (below p at v) (node_here p at rest v o walk_here).fit rest walk_here.whole (number p at rest v o walk_here)
        parts.nodes parts.kept parts.before)

    child_leads : told_from p (after (network_of p) (state_of p at) (move_of v) o) (from_node rest before) os ≡ told
    unfolding told_from
    child_leads =
        subst (λ (x : Node). told_from p (after (network_of p) (state_of p at) (move_of x) o) (from_node rest before) os ≡ told) (sym m.front)
        (sym (rw (eqb_no at.left 0 m.some, at_front (λ x. may_report p (move_of x) o ≡ true) y)) ∙ w.leads)

    at_child : Walked p told (position_after at v o) (from_node rest before) os
    at_child =
        let lg = is_legal_lem p at rest v o walk_here in
        let out = is_outcome p at rest v o walk_here in
        record {
          wf = wf;
          ok = after_proper p wf at v o w.ok lg out;
          long = after_long p wf at v o;
          nodes = parts.own_nodes;
          kept = parts.own_kept;
          sound = ap (λ (n : ℕ). subtree_at p (state_of p (position_after at v o)) (from_node rest n)) before_nodes
              ∙ ap (λ (x : ℕ). subtree_at p (state_of p (position_after at v x)) (from_node rest parts.nodes))
              (sym (numbered_own p at rest v o walk_here))
              ∙ parts.own;
          leads = ap (λ (s : State). told_from p s (from_node rest before) os) (after_is p wf at v o w.ok lg out w.long) ∙ child_leads;
        }

    -- the mask is followed to its child, as the code goes there
    pub walk_on :
        (n : ℕ) (at' : Position) → n ≡ before → at' ≡ position_after at v o → Walked p told at' (part (3 * n) rest) os
    walk_on n at' e q =
        subst (λ (x : Position). Walked p told x (part (3 * n) rest) os) (sym q)
        (subst (λ (bs : List ℕ). Walked p told (position_after at v o) bs os) (sym (rest_is (3 * n) rest ∙ ap (from_node rest) e)) at_child)

-- ---- before the first mask

-- bytes that the checker accepts: the plan is well formed, and they describe a tree
pub accepted_plan : (p : Plan) (bs : List ℕ) → check_fault p bs ≡ 0 → WellFormed p
accepted_plan p bs e = ((checked_yes_exactly p bs (Ok tt) (sym e)).0 refl).0

pub walk_begins :
    (p : Plan) (bs os : List ℕ) → check_fault p bs ≡ 0 → Walked p (told_from p (start (network_of p)) bs os) (start_position p) bs os
walk_begins p bs os e =
    let wf = accepted_plan p bs e in
    let y = (yes_exactly p wf bs).0 e in
    let from_start = start_is p wf in
    record {
      wf = wf;
      ok = start_proper p wf;
      long = length-replicate {A = ℕ} 8 0;
      nodes = _;
      kept = _;
      sound = ap (λ (s : State). subtree_at p s bs) from_start ∙ described_found p wf bs y.0 y.1;
      leads = ap (λ (s : State). told_from p s bs os) from_start;
    }
