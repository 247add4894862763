-- Laws: what is found at the front of some bytes is a tree that is sound in shape, and they begin with its bytes. Only the checker need
-- believe this file.
use mathlib.Core.Path.{◌≡◌, refl, sym, ap, ◌∙◌, subst}
use mathlib.Core.Logic.{by_cases}
use mathlib.Core.Bool.{Bool, true, cond}
use mathlib.Core.List.{List, ◌++◌, append_assoc}
use Prim.Native.Nat.{ℕ, zero, suc, ◌+◌, ◌*◌, ◌≤◌, ◌<◌}
use native.Mathlib.Omega.{arith}
use native.Mathlib.Nat.{not-suc-le-zero}
use native.Mathlib.Decide.{dec_lt}
use lib.Dec.{ltb}
use lib.ListN.{length, drop}
use lib.Seq.{drop_at}
use Rattle.std.specs.Prelude.{Option}
use Rattle.network.specs.Mask.{join_below}
use Rattle.network.specs.Below.{sum_below, rank}
use Rattle.network.specs.Network.{Network}
use Rattle.network.specs.Game.{State, hears, Legal, outcomes, outcome_at, after, kept}
use Rattle.network.specs.Tree.{Tree, done, node, Sound}
use Rattle.network.specs.Sizes.{nodes}
use Rattle.network.specs.Search.{over}
use Rattle.network.proofs.Booleans.{by_test, ltb_yes, ltb_no}
use Rattle.network.proofs.BelowLaws.{sum_cong}
use Rattle.network.proofs.JoinLaws.{join_cong, join_lengths}
use Rattle.network.proofs.SubmaskLaws.{rank_submask}
use Rattle.network.proofs.GameLaws.{Inside, outcome_numbered, after_inside}
use Rattle.network.proofs.SearchLaws.{over_is}
use Rattle.plan.specs.declared.Plan.{Plan}
use Rattle.plan.specs.Plan.{network_of}
use Rattle.plan.specs.WellFormed.{WellFormed}
use Rattle.tree.specs.Parts.{node_bytes, node_at}
use Rattle.tree.specs.Trees.{tree_bytes}
use Rattle.tree.specs.Parts.{node_of}
use Rattle.tree.proofs.NodeLaws.{front_node}
use Rattle.tree.proofs.TreeLaws.{tree_length, done_bytes, node_bytes_front}
use Rattle.game.proofs.LegalLaws.{legal_exactly}
use Rattle.checker.specs.declared.SoundSubtree.{SoundSubtree}
use Rattle.checker.specs.Checker.{subtree_of, with_subtrees, subtree_in}
use Rattle.checker.proofs.CompleteLaws.{ShapedFrom}
use Rattle.checker.proofs.SubtreeLaws.{unsound_is_not, same_nodes, both, front_move, subtrees_below, sound_node}

-- ---- families of trees

-- the first k trees of a family, then another
unfoldable then : (ℕ → Tree) → ℕ → Tree → ℕ → Tree
then f k t i = cond (ltb i k) (f i) t

then_before : (f : ℕ → Tree) (k : ℕ) (t : Tree) (i : ℕ) → i < k → then f k t i ≡ f i
unfolding then
then_before f k t i lt = rw (ltb_yes i k lt)

then_last : (f : ℕ → Tree) (k : ℕ) (t : Tree) → then f k t k ≡ t
unfolding then
then_last f k t = rw (ltb_no k k (λ lt. absurd (omega arith)))

module _ (net : Network) where
  -- a tree of n nodes that is sound in shape from the state s, at the front of the bytes
  pub record FoundTree (s : State) (bs : List ℕ) (n : ℕ) : Type 0 where
    pub tree : Tree
    pub behind : List ℕ
    pub sound : ShapedFrom net tree s
    pub is : bs ≡ tree_bytes net tree ++ behind
    pub count : n ≡ nodes net tree

  -- the front node, and behind it k trees that are sound in shape from their states
  record FoundTrees (at : ℕ → State) (bs : List ℕ) (k n : ℕ) : Type 0 where
    trees : ℕ → Tree
    behind : List ℕ
    sound : (i : ℕ) → i < k → ShapedFrom net (trees i) (at i)
    is : bs ≡ node_bytes (node_at bs 0) ++ (join_below k (λ i. tree_bytes net (trees i)) ++ behind)
    count : n ≡ suc (sum_below k (λ i. nodes net (trees i)))

  -- no tree yet
  no_trees : (at : ℕ → State) (bs : List ℕ) → 3 ≤ length bs → FoundTrees at bs 0 1
  unfolding join_below sum_below
  no_trees at bs h =
      record {
        trees = λ i. done;
        behind = drop 3 bs;
        sound = λ i lt. absurd (not-suc-le-zero lt);
        is = front_node bs h;
        count = refl;
      }

  -- one more
  more_trees :
      (at : ℕ → State) (bs : List ℕ) (k n m : ℕ) → FoundTrees at bs k n → FoundTree (at k) (drop (3 * n) bs) m →
      FoundTrees at bs (suc k) (n + m)
  unfolding join_below sum_below
  more_trees at bs k n m f t =
      let trees = then f.trees k t.tree in
      let old : (i : ℕ) → i < k → trees i ≡ f.trees i = then_before f.trees k t.tree in
      let new : trees k ≡ t.tree = then_last f.trees k t.tree in
      let pieces = join_below k (λ i. tree_bytes net (f.trees i)) in
      let front = node_bytes (node_at bs 0) ++ pieces in
      let long : length pieces ≡ 3 * sum_below k (λ i. nodes net (f.trees i))
      = join_lengths k 3 _ _ (λ i lt. tree_length net (f.trees i)) in
      let c = f.count in
      let there : f.behind ≡ tree_bytes net t.tree ++ t.behind
      = sym (drop_at front f.behind (3 * n) (omega arith)) ∙ ap (drop (3 * n)) (sym f.is) ∙ t.is in
      let joined : join_below (suc k) (λ i. tree_bytes net (trees i)) ≡ pieces ++ tree_bytes net t.tree
      = rw (join_cong k _ _ (λ i lt. ap (tree_bytes net) (old i lt)), new) in
      let nodes-before = sum_cong k (λ i. nodes net (trees i)) (λ i. nodes net (f.trees i)) (λ i lt. ap (nodes net) (old i lt)) in
      let nodes-last = ap (nodes net) new in
      let d = t.count in
      record {
        trees = trees;
        behind = t.behind;
        sound = λ i lt. by_cases (dec_lt i k)
            (λ l. subst (λ (x : Tree). ShapedFrom net x (at i)) (sym (old i l)) (f.sound i l))
            (λ ge. let e : k ≡ i = omega arith in
            subst (λ (j : ℕ). ShapedFrom net (trees j) (at j)) e
            (subst (λ (x : Tree). ShapedFrom net x (at k)) (sym new) t.sound));
        is = f.is
            ∙ ap (λ (x : List ℕ). node_bytes (node_at bs 0) ++ x)
            (ap (λ (x : List ℕ). pieces ++ x) there ∙ sym (append_assoc pieces (tree_bytes net t.tree) t.behind)
            ∙ ap (λ (x : List ℕ). x ++ t.behind) (sym joined));
        count = omega arith;
      }

  -- what is found below a node, where each subtree that is found is a tree
  trees_found :
      (at : ℕ → State) (sub : ℕ → List ℕ → Option SoundSubtree) →
      ((k : ℕ) (bs : List ℕ) (n : ℕ) (b : Bool) → sub k bs ≡ subtree_of n b → FoundTree (at k) bs n) → (bs : List ℕ) →
      3 ≤ length bs → (k n : ℕ) (b : Bool) → with_subtrees sub bs k ≡ subtree_of n b → FoundTrees at bs k n
  unfolding with_subtrees
  trees_found at sub found bs h zero n b e = let q : 1 ≡ n = same_nodes 1 n true b e in subst (FoundTrees at bs 0) q (no_trees at bs h)
  trees_found at sub found bs h (suc k) n b e =
      let r = both (with_subtrees sub bs k) (λ i. sub k (drop (3 * i) bs)) n b e in
      subst (FoundTrees at bs (suc k)) (sym r.nodes)
      (more_trees at bs k r.n₁ r.n₂ (trees_found at sub found bs h k r.n₁ r.b₁ r.first_is)
      (found k (drop (3 * r.n₁) bs) r.n₂ r.b₂ r.next_is))

  -- a legal move at the front, and a tree for each number of an outcome, make a tree
  tree_made :
      (s : State) (bs : List ℕ) (n : ℕ) → Legal net s (front_move bs) →
      FoundTrees (λ k. after net s (front_move bs) (outcome_at net (front_move bs) k)) bs (outcomes net (front_move bs)) n → FoundTree s bs n
  unfolding Sound nodes
  tree_made s bs n lg f =
      let m = front_move bs in
      let next : ℕ → Tree = λ o. f.trees (rank net.letters (hears net m) o) in
      let is : (k : ℕ) → k < outcomes net m → next (outcome_at net m k) ≡ f.trees k
      = λ k lt. ap f.trees (rank_submask net.letters (hears net m) k lt) in
      let each : (k : ℕ) → k < outcomes net m → ShapedFrom net (next (outcome_at net m k)) (after net s m (outcome_at net m k))
      = λ k lt. subst (λ (x : Tree). ShapedFrom net x (after net s m (outcome_at net m k))) (sym (is k lt)) (f.sound k lt) in
      record {
        tree = node m next;
        behind = f.behind;
        sound = (
          lg,
          λ o ok. let k = outcome_numbered net m o ok in
              subst (λ (x : ℕ). ShapedFrom net (next x) (after net s m x)) k.2 (each k.0 k.1),
        );
        is = f.is
            ∙ ap (λ (x : List ℕ). node_bytes (node_of m) ++ (x ++ f.behind))
            (join_cong (outcomes net m) _ _ (λ k lt. ap (tree_bytes net) (sym (is k lt))))
            ∙ sym (node_bytes_front net m next f.behind);
        count = f.count ∙ ap (λ (x : ℕ). suc x) (sum_cong (outcomes net m) _ _ (λ k lt. ap (nodes net) (sym (is k lt))));
      }

  -- where no point is left, the tree without a node
  tree_ended : (s : State) (bs : List ℕ) → over net s ≡ true → FoundTree s bs 0
  unfolding Sound nodes
  tree_ended s bs y =
      record { tree = done; behind = bs; sound = ((over_is net s).0 y, tt); is = rw (done_bytes net); count = refl }

pub found :
    (p : Plan) → WellFormed p → (i : ℕ) (s : State) (bs : List ℕ) (n : ℕ) (b : Bool) → Inside (network_of p) s →
    subtree_in i p s bs ≡ subtree_of n b → FoundTree (network_of p) s bs n
unfolding subtree_in
found p wf zero s bs n b in-s e = unsound_is_not n b e
found p wf (suc i) s bs n b in-s e =
    let net = network_of p in
    by_test (over net s)
    (λ y. let z : 0 ≡ n = same_nodes 0 n (kept net s) b (rw y at e) in
    subst (FoundTree net s bs) z (tree_ended net s bs y))
    (λ z. let r = sound_node p (subtree_in i p) s bs n b (rw z at e) in
    let m = front_move bs in
    tree_made net s bs n ((legal_exactly p wf s in-s m).0 r.legal)
    (trees_found net _ (subtrees_below p (subtree_in i p) s bs)
    (λ k cs c d. found p wf i (after net s m (outcome_at net m k)) cs c d (after_inside net s m (outcome_at net m k))) bs r.whole
    (outcomes net m) n b r.below))
