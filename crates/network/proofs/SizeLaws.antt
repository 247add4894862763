-- Theorem 4: a sound tree has at most 191 nodes. With c conditions left to hear and d other points left it has fewer than 2 ^ c * (d + 1).
-- Only the checker need believe this file.
use mathlib.Core.Path.{◌≡◌, refl, sym, ap, ◌∙◌}
use mathlib.Core.Logic.{by_cases}
use mathlib.Core.Bool.{Bool, true, not, ◌&&◌, and-false, and-true}
use Prim.Native.Nat.{ℕ, zero, suc, ◌+◌, ◌-◌, ◌*◌, ◌≤◌, ◌<◌, ◌^◌}
use native.Mathlib.Omega.{arith}
use native.Mathlib.Nat.{not-suc-le-zero, pow-suc, mul-le-mul_left}
use native.Mathlib.Decide.{dec_lt}
use lib.Pow.{pow-add, pow_pos}
use lib.ListN.{length}
use Rattle.network.specs.Mask.{bit, count, join_below}
use Rattle.network.specs.Below.{sum_below}
use Rattle.network.specs.Network.{Network, condition}
use Rattle.network.specs.IsNetwork.{IsNetwork}
use Rattle.network.specs.Game.{State, start, Move, hears, Legal, outcomes, outcome_at, after}
use Rattle.network.specs.Tree.{Tree, done, node, Sound, preorder}
use Rattle.network.specs.Sizes.{nodes, points_left, conditions_left, room}
use Rattle.network.proofs.Booleans.{by_test, and_right, and_make}
use Rattle.network.proofs.BelowLaws.{count_le, count_cong, count_split, count_inj, count_some, sum_le}
use Rattle.network.proofs.JoinLaws.{join_lengths}
use Rattle.network.proofs.GameLaws.{heard_point, left_is, outcome_at_is}

-- the number of nodes is how many there are in order
pub nodes_in_order : (net : Network) (t : Tree) → nodes net t ≡ length (preorder net t)
unfolding nodes preorder
nodes_in_order net done = refl
nodes_in_order net (node m next) =
    let below : length (join_below (outcomes net m) (λ k. preorder net (next (outcome_at net m k))))
    ≡ 1 * sum_below (outcomes net m) (λ k. nodes net (next (outcome_at net m k)))
    = join_lengths (outcomes net m) 1 _ _ (λ k lt. let e = nodes_in_order net (next (outcome_at net m k)) in omega arith) in
    omega arith

-- ---- numbers

-- N children of fewer than A * (d' + 1) nodes each
grow : (N A d d' x : ℕ) → 1 ≤ N → 1 ≤ A → d' + 1 ≤ d → suc x ≤ A * (d' + 1) → suc (suc (N * x)) ≤ N * A * (d + 1)
grow N A d d' x hN hA hd h =
    omega (arith, mul-le-mul_left N h, mul-le-mul_left (N * A) hd, mul-le-mul_left N hA)

stay : (N A d x : ℕ) → 2 ≤ N → suc x ≤ A * (d + 1) → suc (suc (N * x)) ≤ N * A * (d + 1)
stay N A d x hN h = omega (arith, mul-le-mul_left N h)

-- a move that performs j of k points, i of them with a condition heard; c and d as above, before it and after it
room_falls :
    (i j k k' c c' d d' x : ℕ) → k ≡ c + d → k' ≡ c' + d' → k ≡ j + k' → c ≡ i + c' → i ≤ j → 1 ≤ j → x < 2 ^ c' * (d' + 1) →
    suc (2 ^ i * x) < 2 ^ c * (d + 1)
room_falls i j k k' c c' d d' x hk hk' hj hc le pos h =
    rw (hc, pow-add 2 i c')
    (by_cases (dec_lt i j)
    (λ lt. grow (2 ^ i) (2 ^ c') d d' x (pow_pos i) (pow_pos c') (omega arith) h)
    (λ ge. let e : d ≡ d' = omega arith in rw e (stay (2 ^ i) (2 ^ c') d' x (two_le i (omega arith)) h)))
  where
    two_le : (i : ℕ) → 1 ≤ i → 2 ≤ 2 ^ i
    two_le zero q = absurd (not-suc-le-zero q)
    two_le (suc i) q = let r = pow_pos i in rw pow-suc (omega arith)

cap : (c d : ℕ) → c ≤ 6 → c + d ≤ 8 → 2 ^ c * (d + 1) ≤ 192
cap zero d h k = omega arith
cap (suc zero) d h k = omega arith
cap (suc (suc zero)) d h k = omega arith
cap (suc (suc (suc zero))) d h k = omega arith
cap (suc (suc (suc (suc zero)))) d h k = omega arith
cap (suc (suc (suc (suc (suc zero))))) d h k = omega arith
cap (suc (suc (suc (suc (suc (suc zero)))))) d h k = omega arith
cap (suc (suc (suc (suc (suc (suc (suc c))))))) d h k = absurd (omega arith)

-- ---- a state's room

module _ (net : Network) (wf : IsNetwork net) where
  -- each condition has a point of its own
  conditions_points : (s : State) → conditions_left net s ≤ points_left net s
  conditions_points s =
      count_inj net.letters _ net.disclosing net.points (bit s.left)
      (λ l lt e. (wf.disclosed l lt, and_right (condition net l) _ e))
      (λ i j li lj ei ej e. wf.own i j li lj e)

  pub room_positive : (s : State) → 0 < room net s
  unfolding room
  room_positive s =
      let c = conditions_left net s in
      omega (arith, mul-le-mul_left (2 ^ c) (one_le (points_left net s - c)), pow_pos c)
    where
      one_le : (d : ℕ) → 1 ≤ d + 1
      one_le d = omega arith

  module _ (s : State) (m : Move) (o : ℕ) (lg : Legal net s m) where
    abbrev performed_now : ℕ
    performed_now = count net.points (λ x. bit s.left x && bit m.points x)

    points_split : points_left net s ≡ performed_now + points_left net (after net s m o)
    points_split =
        count_split net.points (bit s.left) (bit m.points)
        ∙ ap (λ (x : ℕ). performed_now + x) (count_cong net.points _ _ (λ x lt. sym (left_is net s m o x lt)))

    conditions_split : conditions_left net s ≡ count net.letters (hears net m) + conditions_left net (after net s m o)
    conditions_split =
        let f : ℕ → Bool = λ l. condition net l && bit s.left (net.disclosing l) in
        let a = count_split net.letters f (λ l. bit m.points (net.disclosing l)) in
        let b : count net.letters (λ l. f l && bit m.points (net.disclosing l)) ≡ count net.letters (hears net m)
        = count_cong net.letters _ _ (λ l lt. by_test (bit m.points (net.disclosing l))
        (λ y. rw (y, lg.not_yet (net.disclosing l) y) (and-true (condition net l && true)))
        (λ n. rw (n, and-false (condition net l && bit s.left (net.disclosing l))) (sym (and-false (condition net l))))) in
        let c : count net.letters (λ l. f l && not (bit m.points (net.disclosing l))) ≡ conditions_left net (after net s m o)
        = count_cong net.letters _ _ (λ l lt. by_test (condition net l)
        (λ y. rw (y, left_is net s m o (net.disclosing l) (wf.disclosed l lt)))
        (λ n. rw n)) in
        omega arith

    heard_le : count net.letters (hears net m) ≤ performed_now
    heard_le =
        count_inj net.letters (hears net m) net.disclosing net.points _
        (λ l lt e. let y = heard_point net m l e in (wf.disclosed l lt, and_make (lg.not_yet (net.disclosing l) y) y))
        (λ i j li lj ei ej e. wf.own i j li lj e)

    some_performed : 1 ≤ performed_now
    some_performed =
        let p = lg.some in
        count_some net.points (λ x. bit s.left x && bit m.points x) p.0 p.1 (and_make (lg.not_yet p.0 p.2) p.2)

    -- where each outcome's subtree has at most x nodes, and x fits the room after the move, the move's subtree fits the room before it
    pub room_step : (x : ℕ) → x < room net (after net s m o) → suc (outcomes net m * x) < room net s
    unfolding room
    room_step x h =
        let s' = after net s m o in
        let a = conditions_points s in
        let b = conditions_points s' in
        room_falls (count net.letters (hears net m)) performed_now (points_left net s) (points_left net s') (conditions_left net s)
        (conditions_left net s') (points_left net s - conditions_left net s) (points_left net s' - conditions_left net s') x (omega arith)
        (omega arith) points_split conditions_split heard_le some_performed h

  -- all outcomes of a move leave the same room
  pub room_same : (s : State) (m : Move) (o o' : ℕ) → room net (after net s m o) ≡ room net (after net s m o')
  unfolding room after
  room_same s m o o' = refl

  -- a sound tree has fewer nodes than its state has room
  pub nodes_fit : (t : Tree) (E : State → Type 0) (s : State) → Sound net E t s → nodes net t < room net s
  unfolding Sound nodes
  nodes_fit done E s sd = room_positive s
  nodes_fit (node m next) E s sd =
      let s' = after net s m 0 in
      let pos = room_positive s' in
      let each : (k : ℕ) → k < outcomes net m → nodes net (next (outcome_at net m k)) ≤ room net s' - 1
      = λ k lt. let o = outcome_at net m k in
      let r = nodes_fit (next o) E (after net s m o) (sd.1 o (outcome_at_is net m k)) in
      let e = room_same s m o 0 in
      omega arith in
      let a = sum_le (outcomes net m) (λ k. nodes net (next (outcome_at net m k))) (room net s' - 1) each in
      let b = room_step s m 0 sd.0 (room net s' - 1) (omega arith) in
      omega arith

  pub start_room : net.points ≤ 8 → net.letters ≤ 6 → room net (start net) ≤ 192
  unfolding room
  start_room hp hl =
      let f = conditions_points (start net) in
      let a = count_le net.points (bit (start net).left) in
      let b = count_le net.letters (λ l. condition net l && bit (start net).left (net.disclosing l)) in
      cap (conditions_left net (start net)) (points_left net (start net) - conditions_left net (start net)) (omega arith) (omega arith)

  pub at_most_191 :
      (t : Tree) (E : State → Type 0) → Sound net E t (start net) → net.points ≤ 8 → net.letters ≤ 6 → nodes net t ≤ 191
  at_most_191 t E sd hp hl = let a = nodes_fit t E (start net) sd in let b = start_room hp hl in omega arith
