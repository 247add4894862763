-- Theorem 3: the computed search decides whether the game can be won, and its tree is the only tree of first moves. Only the checker need
-- believe this file.
use mathlib.Core.Path.{◌≡◌, sym, subst}
use mathlib.Core.Logic.{◌↔◌, ◌⊎◌, inl, inr, ⊎_elim, by_cases}
use mathlib.Core.Bool.{true, false}
use Prim.Native.Nat.{ℕ, zero, suc, ◌≤◌, ◌<◌}
use native.Mathlib.Omega.{arith}
use native.Mathlib.Decide.{dec_lt}
use Rattle.network.specs.Mask.{bit, count}
use Rattle.network.specs.Network.{Network}
use Rattle.network.specs.IsNetwork.{IsNetwork}
use Rattle.network.specs.Strategy.{DynamicallyConsistent}
use Rattle.network.specs.Game.{State, start, Move, Legal, after, kept, Kept}
use Rattle.network.specs.Tree.{Tree, done, node, Sound}
use Rattle.network.specs.FirstMoves.{CanBeWon, Winning, Before, FirstMoves}
use Rattle.network.specs.Walks.{SameTree}
use Rattle.network.specs.Search.{over, winnable, first_move, first_tree_from, first_tree, hopeless}
use Rattle.network.proofs.Booleans.{by_test, clash, and_left, and_right, and_make, not_false}
use Rattle.network.proofs.BelowLaws.{count_le, count_none}
use Rattle.network.proofs.GameLaws.{Inside, not_over, start_inside, after_inside, fewer_left}
use Rattle.network.proofs.SearchLaws.{over_is, wins_by_is, some_wins, first_wins, first_least}
use Rattle.network.proofs.TreeStrategy.{wins→consistent}
use Rattle.network.proofs.StrategyTree.{consistent→won}

-- a case split on the order of two numbers
by_order : {C : Type 0} (a b : ℕ) → (a < b → C) → (a ≡ b → C) → (b < a → C) → C
by_order a b f g h = by_cases (dec_lt a b) f (λ ge. by_cases (dec_lt b a) h (λ le. g (omega arith)))

-- the order of moves is total
pub before_cases : (m k : Move) → Before m k ⊎ ((m ≡ k) ⊎ Before k m)
before_cases m k =
    by_order m.slot k.slot
    (λ l. inl (inl l))
    (λ t. by_order m.points k.points
    (λ l. inl (inr (t, inl l)))
    (λ q. by_order m.choices k.choices
    (λ l. inl (inr (t, inr (q, l))))
    (λ c. inr (inl (λ i. record { slot = t i; points = q i; choices = c i })))
    (λ l. inr (inr (inr (sym t, inr (sym q, l))))))
    (λ l. inr (inr (inr (sym t, inl l)))))
    (λ l. inr (inr (inl l)))

module _ (net : Network) where
  pub is_not_over : (s : State) (m : Move) → Legal net s m → over net s ≡ false
  is_not_over s m lg = by_test (over net s) (λ y. not_over net s m lg ((over_is net s).0 y)) (λ z. z)

  -- ---- the search finds what can be won, and nothing else

  -- its tree wins
  pub found→sound : (n : ℕ) (s : State) → winnable net n s ≡ true → Sound net (Kept net) (first_tree_from net n s) s
  unfolding winnable first_tree_from Sound
  found→sound zero s t = ((over_is net s).0 (and_left (over net s) (kept net s) t), and_right (over net s) (kept net s) t)
  found→sound (suc n) s t =
      by_test (over net s)
      (λ y. rw y ((over_is net s).0 y, rw y at t))
      (λ z. let m = first_move net (winnable net n) s in
      let f = first_wins net (winnable net n) s (rw z at t) in
      rw z (f.0, λ o k. found→sound n (after net s m o) ((wins_by_is net (winnable net n) s m).0 f.1 o k)))

  -- where some tree wins, the search finds that the game can be won
  pub sound→found :
      (t : Tree) (n : ℕ) (s : State) → Inside net s → count net.points (bit s.left) ≤ n → Sound net (Kept net) t s →
      winnable net n s ≡ true
  unfolding winnable Sound
  sound→found done zero s in-s c sd = and_make ((over_is net s).1 sd.0) sd.1
  sound→found done (suc n) s in-s c sd = rw ((over_is net s).1 sd.0) sd.1
  sound→found (node m next) zero s in-s c sd = not_over net s m sd.0 (count_none net.points (bit s.left) c)
  sound→found (node m next) (suc n) s in-s c sd =
      let lg = sd.0 in
      rw (is_not_over s m lg)
      (some_wins net (winnable net n) s m in-s lg ((wins_by_is net (winnable net n) s m).1
      (λ o ok. sound→found (next o) n (after net s m o) (after_inside net s m o)
      (let f = fewer_left net s m o lg in omega arith) (sd.1 o ok))))

  pub winnable_exactly :
      (n : ℕ) (s : State) → Inside net s → count net.points (bit s.left) ≤ n → (winnable net n s ≡ true) ↔ CanBeWon net s
  winnable_exactly n s in-s c = (
    λ t. record { tree = first_tree_from net n s; sound = found→sound n s t },
    λ w. sound→found w.tree n s in-s c w.sound,
  )

  -- ---- its tree is a tree of first moves

  least :
      (n : ℕ) (s : State) → Inside net s → count net.points (bit s.left) ≤ suc n → (k : Move) → Winning net s k →
      ¬ Before k (first_move net (winnable net n) s)
  least n s in-s c k w =
      first_least net (winnable net n) s k in-s w.legal ((wins_by_is net (winnable net n) s k).1
      (λ o ok. (winnable_exactly n (after net s k o) (after_inside net s k o)
      (let q = fewer_left net s k o w.legal in omega arith)).1 (w.answered o ok)))

  pub found→first :
      (n : ℕ) (s : State) → Inside net s → count net.points (bit s.left) ≤ n → winnable net n s ≡ true →
      FirstMoves net (first_tree_from net n s) s
  unfolding winnable first_tree_from FirstMoves
  found→first zero s in-s c t = (over_is net s).0 (and_left (over net s) (kept net s) t)
  found→first (suc n) s in-s c t =
      by_test (over net s)
      (λ y. rw y ((over_is net s).0 y))
      (λ z. let m = first_move net (winnable net n) s in
      let f = first_wins net (winnable net n) s (rw z at t) in
      let g = (wins_by_is net (winnable net n) s m).0 f.1 in
      rw z (
        record {
          legal = f.0;
          answered = λ o ok. record { tree = first_tree_from net n (after net s m o); sound = found→sound n (after net s m o) (g o ok) };
        },
        least n s in-s c,
        λ o ok. found→first n (after net s m o) (after_inside net s m o)
            (let q = fewer_left net s m o f.0 in omega arith) (g o ok),
      ))

  -- ---- there is only one tree of first moves, and it wins where the game can be won

  same_move : (m k : Move) → ¬ Before m k → ¬ Before k m → m ≡ k
  same_move m k a b = ⊎_elim (λ l. absurd (a l)) (⊎_elim (λ e. e) (λ l. absurd (b l))) (before_cases m k)

  pub first_unique : (t t' : Tree) (s : State) → FirstMoves net t s → FirstMoves net t' s → SameTree net t t'
  unfolding FirstMoves SameTree
  first_unique done done s f f' = tt
  first_unique done (node m next) s f f' = not_over net s m f'.0.legal f
  first_unique (node m next) done s f f' = not_over net s m f.0.legal f'
  first_unique (node m next) (node m' next') s f f' =
      let e : m ≡ m' = same_move m m' (λ b. f'.1 m f.0 b) (λ b. f.1 m' f'.0 b) in
      let g : FirstMoves net (node m next') s = subst (λ (x : Move). FirstMoves net (node x next') s) (sym e) f' in
      (e, λ o ok. first_unique (next o) (next' o) (after net s m o) (f.2 o ok) (g.2 o ok))

  pub first→sound : (t : Tree) (s : State) → FirstMoves net t s → CanBeWon net s → Sound net (Kept net) t s
  unfolding FirstMoves Sound
  first→sound done s f w = (f, ended w.tree w.sound)
    where
      ended : (t : Tree) → Sound net (Kept net) t s → Kept net s
      ended done sd = sd.1
      ended (node m next) sd = not_over net s m sd.0 f
  first→sound (node m next) s f w =
      (f.0.legal, λ o ok. first→sound (next o) (after net s m o) (f.2 o ok) (f.0.answered o ok))

  -- ---- from the start

  pub won_exactly : (hopeless net ≡ false) ↔ CanBeWon net (start net)
  won_exactly =
      let w = winnable_exactly net.points (start net) (start_inside net) (count_le net.points _) in
      (λ e. w.0 (not_false (winnable net net.points (start net)) e), λ c. rw (w.1 c))

  pub tree_of_first_moves : hopeless net ≡ false → FirstMoves net (first_tree net) (start net)
  tree_of_first_moves e =
      found→first net.points (start net) (start_inside net) (count_le net.points _)
      (not_false (winnable net net.points (start net)) e)

  module _ (wf : IsNetwork net) where
    pub consistent_exactly : DynamicallyConsistent net ↔ CanBeWon net (start net)
    consistent_exactly = (consistent→won net wf, λ w. wins→consistent net wf w.tree w.sound)

    pub hopeless_exactly : (hopeless net ≡ true) ↔ (¬ DynamicallyConsistent net)
    hopeless_exactly = (
      λ t c. clash t (won_exactly.1 (consistent_exactly.0 c)),
      λ n. by_test (hopeless net) (λ y. y) (λ z. absurd (n (consistent_exactly.1 (won_exactly.0 z)))),
    )

    -- it is decided, so `¬` loses nothing
    pub decided : Dec (DynamicallyConsistent net)
    decided =
        by_test (hopeless net)
        (λ y. no (hopeless_exactly.0 y))
        (λ z. yes (consistent_exactly.1 (won_exactly.0 z)))
