-- Laws of the code: the loop of `subtree` over outcomes, what it finds at a position, what the call says. Only the checker need believe
-- this file.
use mathlib.Core.Path.{◌≡◌, refl, sym, ap, ◌∙◌, subst}
use mathlib.Core.Logic.{by_cases}
use mathlib.Core.Bool.{Bool, true, false, ◌&&◌, and-false}
use mathlib.Core.List.{List}
use Prim.Native.Nat.{ℕ, zero, suc, ◌+◌, ◌*◌, ◌^◌, ◌≤◌, ◌<◌}
use native.Mathlib.Decide.{dec_lt}
use native.Mathlib.Nat.{not-suc-le-zero}
use native.Mathlib.Numerals.{add-one}
use native.Mathlib.Omega.{arith}
use borrow.Author.Tests.{lt-leb}
use lib.ListN.{length}
use Rattle.std.specs.Prelude.{Option, None}
use Rattle.network.specs.Mask.{bit, count}
use Rattle.network.specs.Game.{start, Legal, outcomes, outcome_at, after}
use Rattle.network.proofs.Booleans.{eqb_yes, eqb_no}
use Rattle.plan.specs.declared.Plan.{Plan}
use Rattle.plan.specs.declared.Refusal.{Refusal}
use Rattle.plan.specs.declared.Refusal.TheVariants as refusal
use Rattle.plan.specs.Refusal.{refusal_number}
use Rattle.plan.specs.Faults.{unless, first}
use Rattle.plan.specs.Plan.{network_of}
use Rattle.plan.specs.Letters.{heard_by}
use Rattle.plan.specs.WellFormed.{WellFormed}
use Rattle.plan.proofs.RefusalLaws.{some_number}
use Rattle.plan.proofs.OutcomeLaws.{submasks_are_outcomes}
use Rattle.plan.proofs.SliceLaws.{rest, rest_is}
use Rattle.judge.specs.Judge.{plan_fault}
use Rattle.tree.specs.declared.Node.{Node}
use Rattle.tree.specs.Nodes.{legal_length, node_count}
use Rattle.tree.specs.Parts.{node_at}
use Rattle.tree.specs.Parts.{from_node, move_of}
use Rattle.game.specs.declared.Position.{Position}
use Rattle.game.specs.Position.{state_of, Proper, is_legal, keeps_so_far_in}
use Rattle.game.proofs.LegalLaws.{legal_exactly}
use Rattle.game.proofs.PositionLaws.{inside_is, over_is_zero}
use Rattle.game.proofs.SoFarLaws.{end_is}
use Rattle.game.proofs.NextLaws.{next, next_is, next_proper, next_fewer}
use Rattle.checker.specs.declared.SoundSubtree.{SoundSubtree}
use Rattle.checker.specs.Checker.{subtree_of, with_subtrees, node_and_below, subtree_at, tree_fault, check_fault}
use Rattle.checker.proofs.SubtreeLaws.{sound_together, legal_node, step, at_end_lem, fits}

-- ---- the loop

-- no subtree yet
pub subtrees_none : (sub : ℕ → List ℕ → Option SoundSubtree) (bs : List ℕ) → with_subtrees sub bs 0 ≡ subtree_of 1 true
unfolding with_subtrees
subtrees_none sub bs = refl

module _ (sub : ℕ → List ℕ → Option SoundSubtree) (bs : List ℕ) (k n : ℕ) (b : Bool) (so_far : with_subtrees sub bs k ≡ subtree_of n b) where
  -- one more subtree
  pub subtrees_on :
      (m : ℕ) (c : Bool) → sub k (from_node bs n) ≡ subtree_of m c → with_subtrees sub bs (k + 1) ≡ subtree_of (n + m) (b && c)
  unfolding with_subtrees
  subtrees_on m c e = rw (add-one k) (sound_together (with_subtrees sub bs k) (λ i. sub k (from_node bs i)) n m (n + m) b c so_far e refl)

  -- one that is not sound: those behind it change nothing
  pub subtrees_stop : sub k (from_node bs n) ≡ None → (j : ℕ) → k < j → with_subtrees sub bs j ≡ None
  unfolding with_subtrees
  subtrees_stop e zero lt = absurd (not-suc-le-zero lt)
  subtrees_stop e (suc j) lt =
      by_cases (dec_lt k j)
      (λ h. rw (subtrees_stop e j h))
      (λ h. let q : j ≡ k = omega arith in rw (q, so_far, e))

-- ---- at a position

-- what is found at the place of the subtree of outcome number k
abbrev pub below : Plan → Position → Node → ℕ → List ℕ → Option SoundSubtree
below p at v k = subtree_at p (state_of p (next p at v k))

-- .. as the code finds it: behind n nodes, from the position after that outcome
pub child_is :
    (p : Plan) (at : Position) (v : Node) (k n : ℕ) (bs : List ℕ) (u : Position) (r : Option SoundSubtree) → u ≡ next p at v k →
    r ≡ subtree_at p (state_of p u) (rest (3 * n) bs) → below p at v k (from_node bs n) ≡ r
child_is p at v k n bs u r e is =
    sym (is ∙ ap (λ (x : Position). subtree_at p (state_of p x) (rest (3 * n) bs)) e ∙ ap (below p at v k) (rest_is (3 * n) bs))

-- what holds at a node whose move is legal
pub record AtNode (p : Plan) (at : Position) (bs : List ℕ) (v : Node) : Type 0 where
  pub read : subtree_at p (state_of p at) bs ≡ with_subtrees (below p at v) bs (2 ^ count 8 (bit (heard_by p v.points)))
  pub proper : (k : ℕ) → Proper p (next p at v k)
  pub fewer : (k : ℕ) → count 8 (bit (next p at v k).left) < count 8 (bit at.left)
  pub fit : (k : ℕ) (cs : List ℕ) (n : ℕ) (b : Bool) → below p at v k cs ≡ subtree_of n b → 3 * n ≤ length cs

module _ (p : Plan) (wf : WellFormed p) (at : Position) (ok : Proper p at) (bs : List ℕ) where
  -- no point is left: what is kept so far is kept
  pub path_ends : at.left ≡ 0 → subtree_of 0 (keeps_so_far_in p at) ≡ subtree_at p (state_of p at) bs
  path_ends e = sym (at_end_lem p (state_of p at) bs ((over_is_zero p wf at ok).0 e) ∙ ap (subtree_of 0) (sym (end_is p wf at ok e)))

  module _ (some : ¬ (at.left ≡ 0)) where
    goes_on : subtree_at p (state_of p at) bs ≡ node_and_below (subtree_at p) p (state_of p at) bs
    goes_on = step p wf (state_of p at) (inside_is p wf at ok) bs ((over_is_zero p wf at ok).1 some)

    refused : is_legal p (state_of p at) (move_of (node_at bs 0)) ≡ false → None ≡ subtree_at p (state_of p at) bs
    unfolding node_and_below
    refused z = sym (goes_on ∙ rw (z, and-false))

    -- too few bytes for a node; a move that is not legal
    pub too_short : length bs < 3 → None ≡ subtree_at p (state_of p at) bs
    unfolding node_and_below
    too_short h = sym (goes_on ∙ rw (lt-leb 3 (length bs) h))

    pub not_legal :
        (v : Node) → v ≡ node_at bs 0 → is_legal p (state_of p at) (move_of v) ≡ false → None ≡ subtree_at p (state_of p at) bs
    not_legal v front z = refused (subst (λ (x : Node). is_legal p (state_of p at) (move_of x) ≡ false) front z)

    -- a node and the subtrees of its outcomes, as the definition has them
    abbrev subtrees_of : Node → Option SoundSubtree
    subtrees_of v =
        let m = move_of v in
        with_subtrees (λ k. subtree_at p (after (network_of p) (state_of p at) m (outcome_at (network_of p) m k))) bs (outcomes (network_of p) m)

    is_read :
        3 ≤ length bs → is_legal p (state_of p at) (move_of (node_at bs 0)) ≡ true → subtree_at p (state_of p at) bs ≡ subtrees_of (node_at bs 0)
    is_read whole legal = goes_on ∙ legal_node p (subtree_at p) (state_of p at) bs whole legal

    -- a legal move
    module _
        (long : length at.slots ≡ 8) (whole : 3 ≤ length bs) (v : Node) (front : v ≡ node_at bs 0)
        (legal : is_legal p (state_of p at) (move_of v) ≡ true) where
      is_legal_lem : Legal (network_of p) (state_of p at) (move_of v)
      is_legal_lem = (legal_exactly p wf (state_of p at) (inside_is p wf at ok) (move_of v)).0 legal

      pub at_node : AtNode p at bs v
      at_node =
          record {
            read =
                subst (λ (x : Node). is_legal p (state_of p at) (move_of x) ≡ true → subtree_at p (state_of p at) bs ≡ subtrees_of x) (sym front)
                (is_read whole) legal
                ∙ rw (submasks_are_outcomes p wf.head.letters (move_of v))
                (ap (λ (sub : ℕ → List ℕ → Option SoundSubtree). with_subtrees sub bs (outcomes (network_of p) (move_of v)))
                (λ i k. subtree_at p (sym (next_is p wf at ok v is_legal_lem k long) i)));
            proper = λ k. next_proper p wf at ok v is_legal_lem k;
            fewer = λ k. next_fewer p wf at ok v is_legal_lem k;
            fit = λ k cs. fits p (state_of p (next p at v k)) cs;
          }

-- ---- the call

module _ (p : Plan) (bs : List ℕ) where
  pub plan_refused : (r : Refusal) → refusal_number r ≡ plan_fault p → refusal_number r ≡ check_fault p bs
  unfolding check_fault first
  plan_refused r e = rw (← e, some_number r)

  pub length_refused : 0 ≡ plan_fault p → legal_length (length bs) ≡ false → refusal_number refusal.Shape ≡ check_fault p bs
  unfolding check_fault tree_fault first unless
  length_refused fine z = rw (← fine, z)

  -- the plan and the length are fine, and this is what was found
  pub record Found (r : Option SoundSubtree) : Type 0 where
    pub fine : 0 ≡ plan_fault p
    pub legal : legal_length (length bs) ≡ true
    pub is : subtree_at p (start (network_of p)) bs ≡ r

  pub shape_refused : Found None → refusal_number refusal.Shape ≡ check_fault p bs
  unfolding check_fault tree_fault first unless
  shape_refused f = rw (← f.fine, f.legal, f.is)

  module _ (n : ℕ) (b : Bool) (f : Found (subtree_of n b)) where
    pub bytes_left : ¬ (n ≡ node_count bs) → refusal_number refusal.Shape ≡ check_fault p bs
    unfolding check_fault tree_fault first unless
    bytes_left ne = rw (← f.fine, f.legal, f.is, eqb_no n (node_count bs) ne)

    pub broken : n ≡ node_count bs → b ≡ false → refusal_number refusal.Broken ≡ check_fault p bs
    unfolding check_fault tree_fault first unless
    broken all z = rw (← f.fine, f.legal, f.is, eqb_yes n (node_count bs) all, z)

    pub accepted : n ≡ node_count bs → b ≡ true → 0 ≡ check_fault p bs
    unfolding check_fault tree_fault first unless
    accepted all y = rw (← f.fine, f.legal, f.is, eqb_yes n (node_count bs) all, y)
