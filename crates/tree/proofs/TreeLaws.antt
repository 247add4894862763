-- Laws of a tree's bytes: three to a node, and no other sound tree has them. Only the checker need believe this file.
use mathlib.Core.Path.{◌≡◌, refl, sym, ap, ◌∙◌, subst}
use mathlib.Core.List.{List, [], ◌∷◌, ◌++◌}
use Prim.Native.Nat.{ℕ, zero, suc, ◌*◌}
use native.Mathlib.Omega.{arith}
use lib.ListN.{length}
use Rattle.network.specs.Mask.{join_below}
use Rattle.network.specs.Below.{sum_below}
use Rattle.network.specs.Network.{Network}
use Rattle.network.specs.Game.{State, Move, outcomes, outcome_at, after}
use Rattle.network.specs.Tree.{Tree, done, node, Sound, preorder}
use Rattle.network.specs.Sizes.{nodes}
use Rattle.network.specs.Walks.{SameTree}
use Rattle.network.proofs.JoinLaws.{join_cong, join_lengths, join_parse}
use Rattle.network.proofs.GameLaws.{not_over, outcome_at_is, outcome_numbered}
use Rattle.tree.specs.Parts.{node_bytes}
use Rattle.tree.specs.Trees.{moves_bytes, tree_bytes}
use Rattle.tree.specs.Parts.{node_of}

-- ---- moves one after the other

moves_append : (ms ks : List Move) → moves_bytes (ms ++ ks) ≡ moves_bytes ms ++ moves_bytes ks
unfolding moves_bytes
moves_append [] ks = refl
moves_append (m ∷ ms) ks = rw (moves_append ms ks)

moves_join : (n : ℕ) (f : ℕ → List Move) → moves_bytes (join_below n f) ≡ join_below n (λ k. moves_bytes (f k))
unfolding moves_bytes join_below
moves_join zero f = refl
moves_join (suc n) f = moves_append (join_below n f) (f n) ∙ rw (moves_join n f)

module _ (net : Network) where
  -- ---- a tree's bytes

  -- the bytes of the subtrees of all outcomes
  abbrev pub subtrees_bytes : Move → (ℕ → Tree) → List ℕ
  subtrees_bytes m next = join_below (outcomes net m) (λ k. tree_bytes net (next (outcome_at net m k)))

  pub done_bytes : tree_bytes net done ≡ []
  unfolding preorder moves_bytes
  done_bytes = refl

  pub node_bytes_lem : (m : Move) (next : ℕ → Tree) → tree_bytes net (node m next) ≡ node_bytes (node_of m) ++ subtrees_bytes m next
  unfolding preorder moves_bytes
  node_bytes_lem m next = ap (λ (bs : List ℕ). node_bytes (node_of m) ++ bs) (moves_join (outcomes net m) _)

  -- .. with more behind them
  pub node_bytes_front :
      (m : Move) (next : ℕ → Tree) (u : List ℕ) →
      tree_bytes net (node m next) ++ u ≡ node_bytes (node_of m) ++ (subtrees_bytes m next ++ u)
  node_bytes_front m next u = ap (λ (bs : List ℕ). bs ++ u) (node_bytes_lem m next)

  pub tree_length : (t : Tree) → length (tree_bytes net t) ≡ 3 * nodes net t
  unfolding nodes
  tree_length done = rw done_bytes
  tree_length (node m next) =
      let below : length (subtrees_bytes m next) ≡ 3 * sum_below (outcomes net m) (λ k. nodes net (next (outcome_at net m k)))
      = join_lengths (outcomes net m) 3 _ _ (λ k lt. tree_length (next (outcome_at net m k))) in
      rw (node_bytes_lem m next) (omega arith)

  -- ---- sound trees that are played from one state can be told apart by their bytes, whatever stands behind them

  same_front :
      (m k : Move) (u v : List ℕ) → node_bytes (node_of m) ++ u ≡ node_bytes (node_of k) ++ v → (m ≡ k) × (u ≡ v)
  same_front m k u v e =
      let a : m.slot ≡ k.slot = cc in
      let b : m.points ≡ k.points = cc in
      let c : m.choices ≡ k.choices = cc in
      (λ i. record { slot = a i; points = b i; choices = c i }, cc)

  pub unique :
      (E E' : State → Type 0) (t t' : Tree) (s : State) (u v : List ℕ) → Sound net E t s → Sound net E' t' s →
      tree_bytes net t ++ u ≡ tree_bytes net t' ++ v → SameTree net t t' × (u ≡ v)
  unfolding Sound SameTree
  unique E E' done done s u v sd sd' e = (tt, rw done_bytes at e)
  unique E E' done (node m next) s u v sd sd' e = not_over net s m sd'.0 sd.0
  unique E E' (node m next) done s u v sd sd' e = not_over net s m sd.0 sd'.0
  unique E E' (node m next) (node m' next') s u v sd sd' e =
      let front = same_front m m' (subtrees_bytes m next ++ u) (subtrees_bytes m' next' ++ v)
      (sym (node_bytes_front m next u) ∙ e ∙ node_bytes_front m' next' v) in
      let sm : Sound net E' (node m next') s = subst (λ (x : Move). Sound net E' (node x next') s) (sym front.0) sd' in
      let below : subtrees_bytes m next ++ u ≡ subtrees_bytes m next' ++ v
      = front.1 ∙ ap (λ (x : Move). subtrees_bytes x next' ++ v) (sym front.0) in
      let each = join_parse (λ k. SameTree net (next (outcome_at net m k)) (next' (outcome_at net m k))) (outcomes net m) _ _
      (λ k lt u v. let o = outcome_at net m k in let ok = outcome_at_is net m k in
      unique E E' (next o) (next' o) (after net s m o) u v (sd.1 o ok) (sm.1 o ok)) u v below in (
        (
          front.0,
          λ o ok. let n = outcome_numbered net m o ok in
              subst (λ (x : ℕ). SameTree net (next x) (next' x)) n.2 (each.0 n.0 n.1),
        ),
        each.1,
      )

  -- ---- trees that are the same have the same bytes, and as many nodes

  pub same_bytes : (t t' : Tree) → SameTree net t t' → tree_bytes net t ≡ tree_bytes net t'
  unfolding SameTree
  same_bytes done done same = refl
  same_bytes done (node m' next') same = elim same [ ]
  same_bytes (node m next) done same = elim same [ ]
  same_bytes (node m next) (node m' next') same =
      node_bytes_lem m next
      ∙ ap (λ (bs : List ℕ). node_bytes (node_of m) ++ bs)
      (join_cong (outcomes net m) _ _ (λ k lt. same_bytes (next (outcome_at net m k)) (next' (outcome_at net m k))
      (same.1 (outcome_at net m k) (outcome_at_is net m k))))
      ∙ sym (node_bytes_lem m next')
      ∙ ap (λ (x : Move). tree_bytes net (node x next')) same.0

  pub same_nodes : (t t' : Tree) → SameTree net t t' → nodes net t ≡ nodes net t'
  same_nodes t t' same =
      let a = tree_length t in
      let b = tree_length t' in
      let c = ap length (same_bytes t t' same) in
      omega arith
