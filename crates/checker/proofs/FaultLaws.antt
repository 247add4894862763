-- Laws of the checker's faults, for a well-formed plan: what is said of a tree's bytes, and 6 for all others. Only the checker need believe
-- this file.
use mathlib.Core.Path.{◌≡◌, refl, sym, ap, ◌∙◌, subst}
use mathlib.Core.Logic.{◌⊎◌, inl, inr, ⊎_elim}
use mathlib.Core.Bool.{Bool, true}
use mathlib.Core.List.{List, [], append-nil}
use Prim.Native.Nat.{ℕ, ◌+◌, ◌*◌, ◌≤◌}
use native.Mathlib.Omega.{arith}
use lib.Dec.{eqb}
use lib.ListN.{length, drop, length-append}
use lib.Seq.{drop-length}
use Rattle.std.specs.Prelude.{Option, None, Some}
use Rattle.network.specs.Network.{Network}
use Rattle.network.specs.Strategy.{Viable}
use Rattle.network.specs.Game.{start}
use Rattle.network.specs.Tree.{Tree, done, node, Sound, Shaped, strategy_of}
use Rattle.network.specs.Sizes.{nodes}
use Rattle.network.proofs.Booleans.{by_test, clash, eqb_yes, eqb_is}
use Rattle.network.proofs.GameLaws.{all_left, start_inside}
use Rattle.network.proofs.Theorems.{tree_viable_exactly}
use Rattle.plan.specs.declared.Plan.{Plan}
use Rattle.plan.specs.declared.Refusal.TheVariants as refusal
use Rattle.plan.specs.Refusal.{refusal_number}
use Rattle.plan.specs.Faults.{unless, first}
use Rattle.plan.specs.Plan.{network_of}
use Rattle.plan.specs.WellFormed.{WellFormed}
use Rattle.plan.proofs.PlanTheorems.{is_network, at_most_191}
use Rattle.judge.proofs.WellFormedLaws.{fine_exactly}
use Rattle.tree.specs.Nodes.{legal_length, node_count}
use Rattle.tree.specs.Trees.{tree_bytes, Describes}
use Rattle.tree.proofs.NodeLaws.{legal_is, legal_make}
use Rattle.tree.proofs.TreeLaws.{tree_length}
use Rattle.checker.specs.declared.SoundSubtree.{SoundSubtree}
use Rattle.checker.specs.Checker.{subtree_of, subtree_at, tree_fault, check_fault}
use Rattle.checker.proofs.CompleteLaws.{all_kept, kept_exactly, complete}
use Rattle.checker.proofs.FoundLaws.{found}

-- Well-formed bytes: they describe some tree. (There is one only: `one_tree` of the checker's theorems.)
pub record WellFormedBytes (net : Network) (bs : List ℕ) : Type 0 where
  pub tree : Tree
  pub described : Describes net bs tree

no_bytes : (bs : List ℕ) → length bs ≡ 0 → bs ≡ []
no_bytes bs e = subst (λ (n : ℕ). drop n bs ≡ []) e (drop-length bs)

module _ (p : Plan) (wf : WellFormed p) (bs : List ℕ) where
  abbrev net : Network
  net = network_of p

  no_plan_fault : check_fault p bs ≡ tree_fault p bs
  unfolding check_fault first
  no_plan_fault = rw ((fine_exactly p).1 wf)

  -- ---- bytes that describe a tree

  -- the plan has a point, so the tree has a node
  some_node : (t : Tree) → Shaped net t → 1 ≤ nodes net t
  unfolding Sound nodes
  some_node done sd = clash (all_left net 0 wf.head.some_point) (sd.0 0 wf.head.some_point)
  some_node (node m next) sd = omega arith

  described_length : (t : Tree) → Describes net bs t → length bs ≡ 3 * nodes net t
  described_length t d = ap length d.all_bytes ∙ tree_length net t

  pub described_found : (t : Tree) → Describes net bs t → subtree_at p (start net) bs ≡ subtree_of (nodes net t) (all_kept net t (start net))
  described_found t d =
      ap (subtree_at p (start net)) (d.all_bytes ∙ sym (append-nil (tree_bytes net t)))
      ∙ complete p wf t _ (start net) [] (start_inside net) (omega arith) d.shaped

  pub described_legal : (t : Tree) → Describes net bs t → legal_length (length bs) ≡ true
  described_legal t d =
      rw (described_length t d) (legal_make (nodes net t) (some_node t d.shaped) (at_most_191 p wf t d.shaped))

  described_fault : (t : Tree) → Describes net bs t → check_fault p bs ≡ unless (all_kept net t (start net)) refusal.Broken
  unfolding tree_fault unless first
  described_fault t d =
      let long = described_length t d in
      no_plan_fault ∙ rw (described_legal t d, described_found t d, eqb_yes (nodes net t) (node_count bs) (omega arith))

  -- yes where the strategy is viable, else 7
  pub yes_or_seven :
      (t : Tree) → Describes net bs t →
      ((check_fault p bs ≡ 0) × Viable net (strategy_of net t))
      ⊎ ((check_fault p bs ≡ refusal_number refusal.Broken) × (¬ Viable net (strategy_of net t)))
  unfolding unless
  yes_or_seven t d =
      let viable = tree_viable_exactly net (is_network p wf) t d.shaped in
      let kept = kept_exactly net t (start net) d.shaped in
      by_test (all_kept net t (start net))
      (λ y. inl (described_fault t d ∙ rw y, viable.1 (kept.0 y)))
      (λ z. inr (described_fault t d ∙ rw z, λ v. clash (kept.1 (viable.0 v)) z))

  -- ---- bytes that describe none

  -- as many nodes found as all the bytes have
  whole_tree : (n : ℕ) (b : Bool) → legal_length (length bs) ≡ true → n ≡ node_count bs → subtree_at p (start net) bs ≡ subtree_of n b →
      WellFormedBytes net bs
  whole_tree n b legal all e =
      let f = found p wf _ (start net) bs n b (start_inside net) e in
      let threes = (legal_is (length bs) legal).threes in
      let c = f.count in
      let l = tree_length net f.tree in
      let parts : length bs ≡ length (tree_bytes net f.tree) + length f.behind
      = ap length f.is ∙ length-append (tree_bytes net f.tree) f.behind in
      let none = no_bytes f.behind (omega arith) in
      record {
        tree = f.tree;
        described = record {
          shaped = f.sound;
          all_bytes = f.is ∙ rw none (append-nil (tree_bytes net f.tree));
        };
      }

  well_formed_or_six : WellFormedBytes net bs ⊎ (check_fault p bs ≡ refusal_number refusal.Shape)
  unfolding tree_fault unless first
  well_formed_or_six =
      by_test (legal_length (length bs))
      (λ y. judged y (subtree_at p (start net) bs) refl)
      (λ z. inr (no_plan_fault ∙ rw z))
    where
      judged :
          legal_length (length bs) ≡ true → (r : Option SoundSubtree) → subtree_at p (start net) bs ≡ r →
          WellFormedBytes net bs ⊎ (check_fault p bs ≡ refusal_number refusal.Shape)
      judged y None e = inr (no_plan_fault ∙ rw (y, e))
      judged y (Some t) e =
          by_test (eqb t.nodes (node_count bs))
          (λ all. inl (whole_tree t.nodes t.kept y (eqb_is t.nodes (node_count bs) all) e))
          (λ z. inr (no_plan_fault ∙ rw (y, e, z)))

  -- ---- what is said, and of which bytes

  pub by_answer :
      {C : Type 0} → ((t : Tree) → Describes net bs t → check_fault p bs ≡ 0 → Viable net (strategy_of net t) → C) →
      ((t : Tree) → Describes net bs t → check_fault p bs ≡ refusal_number refusal.Broken → ¬ Viable net (strategy_of net t) → C) →
      (check_fault p bs ≡ refusal_number refusal.Shape → C) → C
  by_answer fine seven six =
      ⊎_elim
      (λ w. let t = w.tree in
      let d = w.described in
      ⊎_elim (λ h. fine t d h.0 h.1) (λ h. seven t d h.0 h.1) (yes_or_seven t d))
      six
      well_formed_or_six
