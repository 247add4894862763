-- Laws of the subtree at the front of some bytes: as many moves as points are left are enough, and what is found lies within the bytes.
-- Only the checker need believe this file.
use mathlib.Core.Path.{◌≡◌, refl, ap}
use mathlib.Core.Bool.{Bool, true, false, ◌&&◌}
use mathlib.Core.List.{List}
use Prim.Native.Nat.{ℕ, zero, suc, ◌+◌, ◌*◌, ◌≤◌, ◌<◌}
use native.Mathlib.Omega.{arith}
use native.Mathlib.Nat.{not-suc-le-zero}
use lib.Dec.{leb}
use lib.ListN.{length, drop, length-drop}
use Rattle.std.specs.Prelude.{Option, None, Some}
use Rattle.network.specs.Network.{Network}
use Rattle.network.specs.Game.{State, Move, Legal, outcomes, outcome_at, after, kept}
use Rattle.network.specs.Sizes.{points_left}
use Rattle.network.specs.Search.{over}
use Rattle.network.proofs.Booleans.{by_test, and_left, and_right, leb_yes, leb_is}
use Rattle.network.proofs.GameLaws.{Inside, after_inside, fewer_left}
use Rattle.plan.specs.declared.Plan.{Plan}
use Rattle.plan.specs.Plan.{network_of}
use Rattle.plan.specs.WellFormed.{WellFormed}
use Rattle.tree.specs.Parts.{node_at}
use Rattle.tree.specs.Parts.{move_of}
use Rattle.game.specs.Position.{is_legal}
use Rattle.game.proofs.LegalLaws.{legal_exactly}
use Rattle.checker.specs.declared.SoundSubtree.{SoundSubtree}
use Rattle.checker.specs.Checker.{subtree_of, behind, with_subtrees, node_and_below, subtree_in, subtree_at}

-- ---- answers

pub unsound_is_not : {C : Type 0} (n : ℕ) (b : Bool) → None ≡ subtree_of n b → C
unsound_is_not n b e = let z : ◌≡◌ {A = ℕ} 0 1 = cc in absurd (omega arith)

-- what two sound answers say, where they are one
abbrev nodes_in : Option SoundSubtree → ℕ
nodes_in None = 0
nodes_in (Some t) = t.nodes

abbrev kept_in : Option SoundSubtree → Bool
kept_in None = false
kept_in (Some t) = t.kept

pub same_nodes : (n m : ℕ) (b c : Bool) → subtree_of n b ≡ subtree_of m c → n ≡ m
same_nodes n m b c e = ap nodes_in e

pub same_kept : (n m : ℕ) (b c : Bool) → subtree_of n b ≡ subtree_of m c → b ≡ c
same_kept n m b c e = ap kept_in e

-- a sound run of bytes behind another
pub sound_together :
    (first : Option SoundSubtree) (next : ℕ → Option SoundSubtree) (n₁ n₂ n : ℕ) (b₁ b₂ : Bool) → first ≡ subtree_of n₁ b₁ → next n₁ ≡ subtree_of n₂ b₂ →
    n₁ + n₂ ≡ n → behind first next ≡ subtree_of n (b₁ && b₂)
sound_together first next n₁ n₂ n b₁ b₂ e₁ e₂ e = rw (e₁, e₂, e)

-- what was found of each, where two runs of bytes are sound together
pub record Both (first : Option SoundSubtree) (next : ℕ → Option SoundSubtree) (n : ℕ) : Type 0 where
  pub n₁ : ℕ
  pub n₂ : ℕ
  pub b₁ : Bool
  pub b₂ : Bool
  pub first_is : first ≡ subtree_of n₁ b₁
  pub next_is : next n₁ ≡ subtree_of n₂ b₂
  pub nodes : n ≡ n₁ + n₂

pub both : (first : Option SoundSubtree) (next : ℕ → Option SoundSubtree) (n : ℕ) (b : Bool) → behind first next ≡ subtree_of n b → Both first next n
both None next n b e = unsound_is_not n b e
both (Some t) next n b e = go (next t.nodes) refl e
  where
    go : (r : Option SoundSubtree) → next t.nodes ≡ r → behind (Some t) (λ k. r) ≡ subtree_of n b → Both (Some t) next n
    go None q e = unsound_is_not n b e
    go (Some u) q e =
        let s = same_nodes _ _ _ _ e in
        record { n₁ = t.nodes; n₂ = u.nodes; b₁ = t.kept; b₂ = u.kept; first_is = refl; next_is = q; nodes = omega arith }

-- ---- a node and what is below it

abbrev pub front_move : List ℕ → Move
front_move bs = move_of (node_at bs 0)

module _ (p : Plan) (sub : State → List ℕ → Option SoundSubtree) (s : State) (bs : List ℕ) where
  -- what is found at the place of the subtree of each outcome
  abbrev pub subtrees_below : ℕ → List ℕ → Option SoundSubtree
  subtrees_below k = sub (after (network_of p) s (front_move bs) (outcome_at (network_of p) (front_move bs) k))

  pub legal_node :
      3 ≤ length bs → is_legal p s (front_move bs) ≡ true →
      node_and_below sub p s bs ≡ with_subtrees subtrees_below bs (outcomes (network_of p) (front_move bs))
  unfolding node_and_below
  legal_node whole legal = rw (leb_yes 3 (length bs) whole, legal)

  -- a sound answer: a whole node, a legal move, sound subtrees
  pub record SoundNode (n : ℕ) (b : Bool) : Type 0 where
    pub whole : 3 ≤ length bs
    pub legal : is_legal p s (front_move bs) ≡ true
    pub below : with_subtrees subtrees_below bs (outcomes (network_of p) (front_move bs)) ≡ subtree_of n b

  pub sound_node : (n : ℕ) (b : Bool) → node_and_below sub p s bs ≡ subtree_of n b → SoundNode n b
  unfolding node_and_below
  sound_node n b e =
      by_test (leb 3 (length bs) && is_legal p s (front_move bs))
      (λ y. record {
        whole = leb_is 3 (length bs) (and_left (leb 3 (length bs)) (is_legal p s (front_move bs)) y);
        legal = and_right (leb 3 (length bs)) (is_legal p s (front_move bs)) y;
        below = rw y at e;
      })
      (λ z. unsound_is_not n b (rw z at e))

-- ---- what is found lies within the bytes

pub within_bytes :
    (sub : ℕ → List ℕ → Option SoundSubtree) →
    ((k : ℕ) (bs : List ℕ) (n : ℕ) (b : Bool) → sub k bs ≡ subtree_of n b → 3 * n ≤ length bs) → (bs : List ℕ) →
    3 ≤ length bs → (k n : ℕ) (b : Bool) → with_subtrees sub bs k ≡ subtree_of n b → 3 * n ≤ length bs
unfolding with_subtrees
within_bytes sub fit bs h zero n b e = let q = same_nodes _ _ _ _ e in omega arith
within_bytes sub fit bs h (suc k) n b e =
    let r = both (with_subtrees sub bs k) (λ i. sub k (drop (3 * i) bs)) n b e in
    let c = r.nodes in
    let before = within_bytes sub fit bs h k r.n₁ r.b₁ r.first_is in
    let last = fit k (drop (3 * r.n₁) bs) r.n₂ r.b₂ r.next_is in
    let d = length-drop (3 * r.n₁) bs in
    omega arith

fits_in : (p : Plan) (i : ℕ) (s : State) (bs : List ℕ) (n : ℕ) (b : Bool) → subtree_in i p s bs ≡ subtree_of n b → 3 * n ≤ length bs
unfolding subtree_in
fits_in p zero s bs n b e = unsound_is_not n b e
fits_in p (suc i) s bs n b e =
    by_test (over (network_of p) s)
    (λ y. let z : 0 ≡ n = same_nodes 0 n (kept (network_of p) s) b (rw y at e) in omega arith)
    (λ z. let r = sound_node p (subtree_in i p) s bs n b (rw z at e) in
    within_bytes (subtrees_below p (subtree_in i p) s bs) (λ k. fits_in p i _) bs r.whole (outcomes (network_of p) (front_move bs)) n b
    r.below)

module _ (p : Plan) (s : State) (bs : List ℕ) where
  pub fits : (n : ℕ) (b : Bool) → subtree_at p s bs ≡ subtree_of n b → 3 * n ≤ length bs
  fits n b e = fits_in p (suc (points_left (network_of p) s)) s bs n b e

  -- ---- where no point is left, and where one is

  pub at_end_lem : over (network_of p) s ≡ true → subtree_at p s bs ≡ subtree_of 0 (kept (network_of p) s)
  unfolding subtree_in
  at_end_lem y = rw y

module _ (p : Plan) (wf : WellFormed p) where
  abbrev net : Network
  net = network_of p

  -- two ways to judge subtrees that agree after each legal move
  below_cong :
      (f g : State → List ℕ → Option SoundSubtree) (s : State) (bs : List ℕ) → Inside net s →
      ((m : Move) (o : ℕ) (cs : List ℕ) → Legal net s m → f (after net s m o) cs ≡ g (after net s m o) cs) →
      node_and_below f p s bs ≡ node_and_below g p s bs
  unfolding node_and_below
  below_cong f g s bs in-s h =
      let m = front_move bs in
      by_test (leb 3 (length bs) && is_legal p s m)
      (λ y. let lg = (legal_exactly p wf s in-s m).0 (and_right (leb 3 (length bs)) (is_legal p s m) y) in
      rw y (ap (λ (sub : ℕ → List ℕ → Option SoundSubtree). with_subtrees sub bs (outcomes net m)) (λ i k cs. h m (outcome_at net m k) cs lg i)))
      (λ z. rw z)

  -- Each move performs a point, so any two bounds on the moves that are more than the points left find the same.
  pub enough :
      (n m : ℕ) (s : State) (bs : List ℕ) → Inside net s → points_left net s < n → points_left net s < m →
      subtree_in n p s bs ≡ subtree_in m p s bs
  unfolding subtree_in
  enough zero m s bs in-s hn hm = absurd (not-suc-le-zero hn)
  enough (suc n) zero s bs in-s hn hm = absurd (not-suc-le-zero hm)
  enough (suc n) (suc m) s bs in-s hn hm =
      by_test (over net s)
      (λ y. rw y)
      (λ z. rw z (below_cong (subtree_in n p) (subtree_in m p) s bs in-s (λ v o cs lg.
      let f = fewer_left net s v o lg in
      enough n m (after net s v o) cs (after_inside net s v o) (omega arith) (omega arith))))

  -- the bound is gone: these three are all that the code's proof needs
  pub step :
      (s : State) → Inside net s → (bs : List ℕ) → over net s ≡ false → subtree_at p s bs ≡ node_and_below (subtree_at p) p s bs
  unfolding subtree_in
  step s in-s bs z =
      rw z (below_cong (subtree_in (points_left net s) p) (subtree_at p) s bs in-s (λ v o cs lg.
      let f = fewer_left net s v o lg in
      enough (points_left net s) (suc (points_left net (after net s v o))) (after net s v o) cs (after_inside net s v o) f (omega arith)))
