-- Laws: every tree that is sound in shape is found at the front of its bytes, with its number of nodes and whether all its paths keep the
-- constraints. Only the checker need believe this file.
use mathlib.Core.Path.{◌≡◌, refl, ap, ◌∙◌, subst}
use mathlib.Core.Logic.{◌↔◌}
use mathlib.Core.Bool.{Bool, true}
use mathlib.Core.List.{List, ◌++◌, append_assoc}
use Prim.Native.Nat.{ℕ, zero, suc, ◌*◌, ◌<◌}
use native.Mathlib.Omega.{arith}
use native.Mathlib.Nat.{not-suc-le-zero}
use lib.ListN.{length, drop}
use lib.Seq.{drop_at}
use Rattle.std.specs.Prelude.{Option}
use Rattle.network.specs.Mask.{all_below, join_below}
use Rattle.network.specs.Below.{sum_below}
use Rattle.network.specs.Network.{Network}
use Rattle.network.specs.Game.{State, Move, outcomes, outcome_at, after, kept, Kept}
use Rattle.network.specs.Tree.{Tree, done, node, Sound}
use Rattle.network.specs.Sizes.{nodes, points_left}
use Rattle.network.proofs.BelowLaws.{all_at, all_make}
use Rattle.network.proofs.JoinLaws.{join_lengths}
use Rattle.network.proofs.GameLaws.{Inside, outcome_at_is, outcome_numbered, after_inside, fewer_left}
use Rattle.network.proofs.SearchLaws.{over_is}
use Rattle.network.proofs.FirstLaws.{is_not_over}
use Rattle.plan.specs.declared.Plan.{Plan}
use Rattle.plan.specs.Plan.{network_of}
use Rattle.plan.specs.WellFormed.{WellFormed}
use Rattle.tree.specs.Parts.{node_bytes}
use Rattle.tree.specs.Trees.{tree_bytes}
use Rattle.tree.specs.Parts.{node_of}
use Rattle.tree.proofs.TreeLaws.{tree_length, node_bytes_front}
use Rattle.game.proofs.LegalLaws.{legal_exactly}
use Rattle.checker.specs.declared.SoundSubtree.{SoundSubtree}
use Rattle.checker.specs.Checker.{subtree_of, with_subtrees, node_and_below, subtree_in}
use Rattle.checker.proofs.SubtreeLaws.{sound_together, legal_node}

-- sound in shape, from any state
abbrev pub ShapedFrom : Network → Tree → State → Type 0
ShapedFrom net t s = Sound net (λ s. Unit {0}) t s

-- ---- all paths of a tree keep the constraints

unfoldable pub all_kept : Network → Tree → State → Bool
all_kept net done s = kept net s
all_kept net (node m next) s =
    all_below (outcomes net m) (λ k. all_kept net (next (outcome_at net m k)) (after net s m (outcome_at net m k)))

pub kept_exactly :
    (net : Network) (t : Tree) (s : State) → ShapedFrom net t s → (all_kept net t s ≡ true) ↔ Sound net (Kept net) t s
unfolding all_kept Sound
kept_exactly net done s sd = (λ y. (sd.0, y), λ w. w.1)
kept_exactly net (node m next) s sd = (
  λ y. (
    sd.0,
    λ o ok. let n = outcome_numbered net m o ok in
        (kept_exactly net (next o) (after net s m o) (sd.1 o ok)).0
        (subst (λ (x : ℕ). all_kept net (next x) (after net s m x) ≡ true) n.2 (all_at (outcomes net m) _ y n.0 n.1)),
  ),
  λ w. all_make (outcomes net m) _ (λ k lt. let o = outcome_at net m k in
      let ok = outcome_at_is net m k in
      (kept_exactly net (next o) (after net s m o) (sd.1 o ok)).1 (w.1 o ok)),
)

-- ---- a node, and subtrees each of which is found, whatever stands behind it

pub subtrees_found :
    (sub : ℕ → List ℕ → Option SoundSubtree) (m : Move) (piece : ℕ → List ℕ) (n : ℕ → ℕ) (b : ℕ → Bool) →
    ((k : ℕ) → length (piece k) ≡ 3 * n k) → ((k : ℕ) (u : List ℕ) → sub k (piece k ++ u) ≡ subtree_of (n k) (b k)) →
    (k : ℕ) (u : List ℕ) →
    with_subtrees sub (node_bytes (node_of m) ++ (join_below k piece ++ u)) k ≡ subtree_of (suc (sum_below k n)) (all_below k b)
unfolding with_subtrees join_below sum_below all_below
subtrees_found sub m piece n b long found zero u = refl
subtrees_found sub m piece n b long found (suc k) u =
    let front = node_bytes (node_of m) ++ join_below k piece in
    let bs = node_bytes (node_of m) ++ (join_below (suc k) piece ++ u) in
    let parts : bs ≡ front ++ (piece k ++ u)
    = ap (λ (x : List ℕ). node_bytes (node_of m) ++ x) (append_assoc (join_below k piece) (piece k) u) in
    let before : length front ≡ 3 * suc (sum_below k n) = let l = join_lengths k 3 piece n (λ i lt. long i) in omega arith in
    let there : drop (3 * suc (sum_below k n)) bs ≡ piece k ++ u
    = ap (drop (3 * suc (sum_below k n))) parts ∙ drop_at front (piece k ++ u) (3 * suc (sum_below k n)) before in
    sound_together (with_subtrees sub bs k) (λ i. sub k (drop (3 * i) bs)) (suc (sum_below k n)) (n k) _ (all_below k b) (b k)
    (ap (λ (x : List ℕ). with_subtrees sub x k) parts ∙ subtrees_found sub m piece n b long found k (piece k ++ u))
    (ap (sub k) there ∙ found k u)
    (omega arith)

module _ (p : Plan) (wf : WellFormed p) where
  abbrev net : Network
  net = network_of p

  -- n is more than the moves on any path
  pub complete :
      (t : Tree) (n : ℕ) (s : State) (u : List ℕ) → Inside net s → points_left net s < n → ShapedFrom net t s →
      subtree_in n p s (tree_bytes net t ++ u) ≡ subtree_of (nodes net t) (all_kept net t s)
  unfolding subtree_in Sound nodes all_kept
  complete t zero s u in-s h sd = absurd (not-suc-le-zero h)
  complete done (suc n) s u in-s h sd = rw ((over_is net s).1 sd.0)
  complete (node m next) (suc n) s u in-s h sd =
      let lg = sd.0 in
      rw (is_not_over net s m lg)
      (ap (node_and_below (subtree_in n p) p s) (node_bytes_front net m next u)
      ∙ legal_node p (subtree_in n p) s _ (omega arith) ((legal_exactly p wf s in-s m).1 lg)
      ∙ subtrees_found _ m (λ k. tree_bytes net (next (outcome_at net m k))) _ _ (λ k. tree_length net (next (outcome_at net m k)))
      (λ k v. let o = outcome_at net m k in
      let f = fewer_left net s m o lg in
      complete (next o) n (after net s m o) v (after_inside net s m o) (omega arith) (sd.1 o (outcome_at_is net m k)))
      (outcomes net m) u)
