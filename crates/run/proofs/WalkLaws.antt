-- Laws of the walk past the subtrees of the outcomes before the one reported. Only the checker need believe this file.
use mathlib.Core.Path.{◌≡◌, sym, ap, ◌∙◌, subst}
use mathlib.Core.Logic.{by_cases}
use mathlib.Core.Bool.{Bool, true, ◌&&◌}
use mathlib.Core.List.{List}
use Prim.Native.Nat.{ℕ, zero, suc, ◌+◌, ◌*◌, ◌^◌, ◌≤◌, ◌<◌}
use native.Mathlib.Decide.{dec_lt}
use native.Mathlib.Nat.{not-suc-le-zero}
use native.Mathlib.Omega.{arith}
use lib.ListN.{length, length-drop}
use Rattle.std.specs.Prelude.{Option, None}
use Rattle.network.specs.Mask.{bit, count, submask}
use Rattle.network.specs.Below.{rank}
use Rattle.network.specs.Game.{hears, Legal, Outcome, outcome_at, after}
use Rattle.network.proofs.Booleans.{clash}
use Rattle.network.proofs.MaskLaws.{bit_zero}
use Rattle.network.proofs.SubmaskLaws.{rank_submask}
use Rattle.plan.specs.declared.Plan.{Plan}
use Rattle.plan.specs.Plan.{network_of}
use Rattle.plan.specs.Letters.{heard_by}
use Rattle.plan.specs.WellFormed.{WellFormed}
use Rattle.plan.proofs.OutcomeLaws.{numbered_is_outcome, submasks_are_outcomes}
use Rattle.tree.specs.declared.Node.{Node}
use Rattle.tree.specs.Parts.{node_at}
use Rattle.tree.specs.Parts.{from_node, move_of}
use Rattle.game.specs.declared.Position.{Position}
use Rattle.game.specs.Position.{state_of, Proper, is_legal}
use Rattle.game.proofs.LegalLaws.{legal_exactly}
use Rattle.game.proofs.PositionLaws.{inside_is}
use Rattle.game.proofs.NextLaws.{next_is}
use Rattle.checker.specs.declared.SoundSubtree.{SoundSubtree}
use Rattle.checker.specs.Checker.{subtree_of, with_subtrees, subtree_at}
use Rattle.checker.proofs.SubtreeLaws.{both}
use Rattle.checker.proofs.CodeLaws.{below, AtNode, at_node, subtrees_none, subtrees_on, subtrees_stop}
use Rattle.run.specs.Run.{nodes_found, nodes_before}
use Rattle.run.specs.Told.{may_report}
use Rattle.run.proofs.ReportLaws.{may_is, outcome_number, number_lt, number_is}

-- ---- the subtrees of the outcomes before it

-- of subtrees that are sound together, those before number k, and number k behind them
pub record Apart (sub : ℕ → List ℕ → Option SoundSubtree) (bs : List ℕ) (k : ℕ) : Type 0 where
  pub nodes : ℕ
  pub kept : Bool
  pub before : with_subtrees sub bs k ≡ subtree_of nodes kept
  pub own_nodes : ℕ
  pub own_kept : Bool
  pub own : sub k (from_node bs nodes) ≡ subtree_of own_nodes own_kept

pub apart :
    (sub : ℕ → List ℕ → Option SoundSubtree) (bs : List ℕ) (j n : ℕ) (b : Bool) → with_subtrees sub bs j ≡ subtree_of n b → (k : ℕ) → k < j →
    Apart sub bs k
unfolding with_subtrees
apart sub bs zero n b e k lt = absurd (not-suc-le-zero lt)
apart sub bs (suc j) n b e k lt =
    let r = both (with_subtrees sub bs j) (λ i. sub j (from_node bs i)) n b e in
    by_cases (dec_lt k j)
    (apart sub bs j r.n₁ r.b₁ r.first_is k)
    (λ ge. let q : j ≡ k = omega arith in
    subst (Apart sub bs) q
    (record { nodes = r.n₁; kept = r.b₁; before = r.first_is; own_nodes = r.n₂; own_kept = r.b₂; own = r.next_is }))

-- what holds while outcomes are passed: k of them, with n nodes in all, the front one included
pub record Passed (p : Plan) (at : Position) (bs : List ℕ) (v : Node) (o k n : ℕ) : Type 0 where
  pub kept : Bool
  pub so_far : with_subtrees (below p at v) bs k ≡ subtree_of n kept
  pub fits : 3 * n ≤ length bs
  pub within : k ≤ rank p.letters (hears (network_of p) (move_of v)) o

-- a position whose legal move stands at the front of the bytes, and a report that may be made there
pub record Here (p : Plan) (at : Position) (bs : List ℕ) (v : Node) (o : ℕ) : Type 0 where
  pub wf : WellFormed p
  pub ok : Proper p at
  pub long : length at.slots ≡ 8
  pub whole : 3 ≤ length bs
  pub front : v ≡ node_at bs 0
  pub legal : is_legal p (state_of p at) (move_of v) ≡ true
  pub may : may_report p (move_of v) o ≡ true

module _ (p : Plan) (at : Position) (bs : List ℕ) (v : Node) (o : ℕ) (here : Here p at bs v o) where
  pub is_legal_lem : Legal (network_of p) (state_of p at) (move_of v)
  is_legal_lem = (legal_exactly p here.wf (state_of p at) (inside_is p here.wf at here.ok) (move_of v)).0 here.legal

  pub is_outcome : Outcome (network_of p) (move_of v) o
  is_outcome = (may_is p here.wf.head.letters (move_of v) o).0 here.may

  -- the same of the node at the front
  pub front_legal : is_legal p (state_of p at) (move_of (node_at bs 0)) ≡ true
  front_legal = subst (λ (x : Node). is_legal p (state_of p at) (move_of x) ≡ true) here.front here.legal

  pub front_may : may_report p (move_of (node_at bs 0)) o ≡ true
  front_may = subst (λ (x : Node). may_report p (move_of x) o ≡ true) here.front here.may

  -- a legal move performs a point that is left
  some_left : ¬ (at.left ≡ 0)
  some_left e = let x = is_legal_lem.some in clash (is_legal_lem.not_yet x.0 x.2) (ap (λ (l : ℕ). bit l x.0) e ∙ bit_zero x.0)

  pub node_here : AtNode p at bs v
  node_here = at_node p here.wf at here.ok bs some_left here.long here.whole v here.front here.legal

  -- the number of the outcome that is reported, and the outcome numbered so, as the code numbers them
  abbrev pub number : ℕ
  number = outcome_number p here.wf.head.letters (move_of v) o

  pub numbered_own : submask 8 (bit (heard_by p v.points)) number ≡ o
  numbered_own = numbered_is_outcome p here.wf.head.letters (move_of v) number ∙ number_is p here.wf.head.letters (move_of v) o is_outcome

  -- the definition, at a position
  pub before_is : nodes_before p (state_of p at) bs o ≡ nodes_found (with_subtrees (below p at v) bs number)
  unfolding nodes_before
  before_is =
      subst
      (λ (x : Node). nodes_found (with_subtrees (λ k. subtree_at p (after (network_of p) (state_of p at) (move_of x) (outcome_at (network_of p)
      (move_of x) k))) bs (rank p.letters (hears (network_of p) (move_of x)) o))
      ≡ nodes_found (with_subtrees (below p at v) bs number))
      here.front
      (ap (λ (sub : ℕ → List ℕ → Option SoundSubtree). nodes_found (with_subtrees sub bs number))
      (λ i k. subtree_at p (sym (next_is p here.wf at here.ok v is_legal_lem k here.long) i)))

  pub pass_none : Passed p at bs v o 0 1
  pass_none =
      let whole = here.whole in
      record { kept = true; so_far = subtrees_none (below p at v) bs; fits = omega arith; within = omega arith }

  module _ (k n : ℕ) (r : Passed p at bs v o k n) where
    -- its own outcome comes before the numbers end
    pub pass_ends : {C : Type 0} → 2 ^ count 8 (bit (heard_by p v.points)) ≤ k → C
    pass_ends past =
        let w = r.within in
        let lt = number_lt p here.wf.head.letters (move_of v) o in
        let all = submasks_are_outcomes p here.wf.head.letters (move_of v) in
        absurd (omega (arith, past, w, lt, all))

    -- the outcome whose number is k
    module _ (outcome : ℕ) (is : outcome ≡ submask 8 (bit (heard_by p v.points)) k) where
      -- another outcome: its number is less
      pub pass_less : ¬ (outcome ≡ o) → k < number
      pass_less ne =
          let w = r.within in
          by_cases (dec_lt k number)
          (λ lt. lt)
          (λ ge. let e : k ≡ number = omega arith in
          absurd (ne (is ∙ ap (submask 8 (bit (heard_by p v.points))) e ∙ numbered_own)))

      -- its subtree lies within the bytes
      pub pass_fits : (m : ℕ) (b : Bool) → below p at v k (from_node bs n) ≡ subtree_of m b → 3 * (n + m) ≤ length bs
      pass_fits m b e =
          let f = node_here.fit k (from_node bs n) m b e in
          let d = length-drop (3 * n) bs in
          let w = r.fits in
          omega arith

      pub pass_more :
          (m : ℕ) (b : Bool) → ¬ (outcome ≡ o) → below p at v k (from_node bs n) ≡ subtree_of m b → Passed p at bs v o (k + 1) (n + m)
      pass_more m b ne e =
          let lt = pass_less ne in
          record {
            kept = r.kept && b;
            so_far = subtrees_on (below p at v) bs k n r.kept r.so_far m b e;
            fits = pass_fits m b e;
            within = omega arith;
          }

      pub pass_stop : ¬ (outcome ≡ o) → below p at v k (from_node bs n) ≡ None → 0 ≡ nodes_before p (state_of p at) bs o
      pass_stop ne e =
          sym (before_is ∙ ap nodes_found (subtrees_stop (below p at v) bs k n r.kept r.so_far e number (pass_less ne)))

      -- the one reported
      pub pass_end : outcome ≡ o → n ≡ nodes_before p (state_of p at) bs o
      pass_end e =
          let w = r.within in
          let lt = number_lt p here.wf.head.letters (move_of v) o in
          let is-k : number ≡ k
          = ap (rank p.letters (hears (network_of p) (move_of v)))
          (sym e ∙ is ∙ numbered_is_outcome p here.wf.head.letters (move_of v) k)
          ∙ rank_submask p.letters (hears (network_of p) (move_of v)) k (omega arith) in
          sym (before_is ∙ rw (is-k, r.so_far))
