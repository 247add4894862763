-- Laws of the computed search: its numbered moves are the legal moves in their order, and it finds the first winning one. Only the checker
-- need believe this file.
use mathlib.Core.Path.{◌≡◌, sym, ap, ◌∙◌, subst}
use mathlib.Core.Logic.{◌↔◌, inl, inr}
use mathlib.Core.Bool.{Bool, true}
use Prim.Native.Nat.{ℕ, zero, suc, ◌-◌, ◌<◌}
use native.Mathlib.Omega.{arith}
use Rattle.network.specs.Mask.{bit, first_below, submask}
use Rattle.network.specs.Below.{any_below, rank}
use Rattle.network.specs.Network.{Network}
use Rattle.network.specs.Game.{State, Move, settles, Legal, Outcome, outcomes, outcome_at, after, Over}
use Rattle.network.specs.FirstMoves.{Before}
use Rattle.network.specs.Search.{over, slot_at, points_at, bare, choices_at, move_at, slot_count, points_count, choices_count, wins_by, wins_with, wins_in, first_move}
use Rattle.network.proofs.Booleans.{by_test, clash, not_true}
use Rattle.network.proofs.BelowLaws.{all_at, all_make, any_at, any_make, first_at, before_first}
use Rattle.network.proofs.MaskLaws.{no_bits}
use Rattle.network.proofs.SubmaskLaws.{rank_lt, submask_rank, rank_submask, in_submask, submask_rises, submask_order, submask_zero}
use Rattle.network.proofs.NetworkLaws.{decision_lt}
use Rattle.network.proofs.GameLaws.{Inside, settled_decision, some_points, outcome_at_is, outcome_numbered}

-- a number that is not 0 has a bit
pub some_bit : (n m : ℕ) → ((i : ℕ) → bit m i ≡ true → i < n) → 0 < m → (i : ℕ) × (i < n) × (bit m i ≡ true)
some_bit n m small pos =
    by_test (any_below n (bit m))
    (λ y. any_at n (bit m) y)
    (λ z. let e : m ≡ 0 = no_bits m (λ i. by_test (bit m i) (λ y. clash (any_make n (bit m) i (small i y) y) z) (λ w. w)) in
    absurd (omega arith))

module _ (net : Network) where
  pub over_is : (s : State) → (over net s ≡ true) ↔ Over net s
  unfolding over
  over_is s = (
    λ t x h. not_true (bit s.left x) (all_at net.points _ t x h),
    λ h. all_make net.points _ (λ x lt. rw (h x lt)),
  )

  -- ---- numbers of moves

  pub move_legal : (s : State) (i j k : ℕ) → i < slot_count net s → j < points_count net s → Legal net s (move_at net s i j k)
  move_legal s i j k hi hj =
      let r = submask_rises net.points (bit s.left) 0 (suc j) (omega arith) (omega arith) in
      let z = submask_zero net.points (bit s.left) in
      record {
        later = omega arith;
        within = omega arith;
        some = some_bit net.points (points_at net s j) (λ x y. (in_submask net.points (bit s.left) (suc j) x y).0) (omega arith);
        not_yet = λ x y. (in_submask net.points (bit s.left) (suc j) x y).1;
        disclosed = λ l y. (in_submask net.letters (settles net (bare (slot_at s i) (points_at net s j))) k l y).1;
      }

  pub record Numbered (s : State) (m : Move) : Type 0 where
    pub i : ℕ
    pub j : ℕ
    pub k : ℕ
    pub slot_number : i < slot_count net s
    pub points_number : j < points_count net s
    pub choices_number : k < choices_count net (slot_at s i) (points_at net s j)
    pub is : move_at net s i j k ≡ m

  pub legal_numbered : (s : State) (m : Move) → Inside net s → Legal net s m → Numbered s m
  legal_numbered s m in-s lg =
      let n = net.points in
      let r = rank n (bit s.left) m.points in
      let rl = rank_lt n (bit s.left) m.points in
      let re : submask n (bit s.left) r ≡ m.points
      = submask_rank n (bit s.left) m.points (λ x y. (in-s x (lg.not_yet x y), lg.not_yet x y)) in
      let some : 0 < r = positive r re in
      let je : suc (r - 1) ≡ r = omega arith in
      let pe : points_at net s (r - 1) ≡ m.points = ap (λ (x : ℕ). submask n (bit s.left) x) je ∙ re in
      let later = lg.later in
      let within = lg.within in
      let te : slot_at s (m.slot - s.open_from) ≡ m.slot = omega arith in
      let q = rank net.letters (settles net m) m.choices in
      let qe : submask net.letters (settles net m) q ≡ m.choices
      = submask_rank net.letters (settles net m) m.choices
      (λ l y. (decision_lt net l (settled_decision net m l (lg.disclosed l y)), lg.disclosed l y)) in
      let ce : choices_at net (slot_at s (m.slot - s.open_from)) (points_at net s (r - 1)) q ≡ m.choices
      = ap (λ (ps : ℕ). choices_at net m.slot ps q) pe ∙ qe in
      record {
        i = m.slot - s.open_from;
        j = r - 1;
        k = q;
        slot_number = omega arith;
        points_number = omega arith;
        choices_number = subst (λ (ps : ℕ). q < choices_count net m.slot ps) (sym pe) (rank_lt net.letters (settles net m) m.choices);
        is = λ t. record { slot = te t; points = pe t; choices = ce t };
      }
    where
      positive : (r : ℕ) → submask net.points (bit s.left) r ≡ m.points → 0 < r
      positive zero e = absurd (some_points net s m lg (sym e ∙ submask_zero net.points (bit s.left)))
      positive (suc r) e = omega arith

  -- ---- the first winning move, where W says from which states the agent wins

  module _ (W : State → Bool) (s : State) where
    pub wins_by_is : (m : Move) → (wins_by net W s m ≡ true) ↔ ((o : ℕ) → Outcome net m o → W (after net s m o) ≡ true)
    unfolding wins_by
    wins_by_is m = (
      λ t o h. let n = outcome_numbered net m o h in
          subst (λ (x : ℕ). W (after net s m x) ≡ true) n.2 (all_at (outcomes net m) _ t n.0 n.1),
      λ h. all_make (outcomes net m) _ (λ k lt. h (outcome_at net m k) (outcome_at_is net m k)),
    )

    some_with :
        (i j k : ℕ) → k < choices_count net (slot_at s i) (points_at net s j) → wins_by net W s (move_at net s i j k) ≡ true →
        wins_with net W s i j ≡ true
    unfolding wins_with
    some_with i j k hk t = any_make (choices_count net (slot_at s i) (points_at net s j)) _ k hk t

    some_in : (i j : ℕ) → j < points_count net s → wins_with net W s i j ≡ true → wins_in net W s i ≡ true
    unfolding wins_in
    some_in i j hj t = any_make (points_count net s) _ j hj t

    pub some_wins :
        (m : Move) → Inside net s → Legal net s m → wins_by net W s m ≡ true →
        any_below (slot_count net s) (wins_in net W s) ≡ true
    some_wins m in-s lg t =
        let n = legal_numbered s m in-s lg in
        let t' : wins_by net W s (move_at net s n.i n.j n.k) ≡ true = subst (λ (x : Move). wins_by net W s x ≡ true) (sym n.is) t in
        any_make (slot_count net s) _ n.i n.slot_number
        (some_in n.i n.j n.points_number (some_with n.i n.j n.k n.choices_number t'))

    -- the numbers of the first winning move
    abbrev i₀ : ℕ
    i₀ = first_below (slot_count net s) (wins_in net W s)

    abbrev j₀ : ℕ
    j₀ = first_below (points_count net s) (wins_with net W s i₀)

    abbrev k₀ : ℕ
    k₀ = first_below (choices_count net (slot_at s i₀) (points_at net s j₀)) (λ k. wins_by net W s (move_at net s i₀ j₀ k))

    record First : Type 0 where
      slot_number : i₀ < slot_count net s
      points_number : j₀ < points_count net s
      choices_number : k₀ < choices_count net (slot_at s i₀) (points_at net s j₀)
      wins : wins_by net W s (move_at net s i₀ j₀ k₀) ≡ true

    first : any_below (slot_count net s) (wins_in net W s) ≡ true → First
    unfolding wins_in wins_with
    first t =
        let a = first_at (slot_count net s) (wins_in net W s) t in
        let b = first_at (points_count net s) (wins_with net W s i₀) a.1 in
        let c = first_at (choices_count net (slot_at s i₀) (points_at net s j₀)) (λ k. wins_by net W s (move_at net s i₀ j₀ k)) b.1 in
        record { slot_number = a.0; points_number = b.0; choices_number = c.0; wins = c.1 }

    pub first_wins :
        any_below (slot_count net s) (wins_in net W s) ≡ true →
        Legal net s (first_move net W s) × (wins_by net W s (first_move net W s) ≡ true)
    unfolding first_move
    first_wins t = let f = first t in (move_legal s i₀ j₀ k₀ f.slot_number f.points_number, f.wins)

    -- no winning move with the slot number i and the points number j has smaller choices
    Refuted : ℕ → ℕ → Type 0
    Refuted i j =
        (k : ℕ) → k < choices_count net (slot_at s i) (points_at net s j) → wins_by net W s (move_at net s i j k) ≡ true →
        choices_at net (slot_at s i) (points_at net s j) k < choices_at net (slot_at s i₀) (points_at net s j₀) k₀ → ⊥

    at_first : k₀ < choices_count net (slot_at s i₀) (points_at net s j₀) → Refuted i₀ j₀
    unfolding Refuted
    at_first fk k hk t lt =
        let o = submask_order net.letters (settles net (bare (slot_at s i₀) (points_at net s j₀))) k k₀ hk lt fk in
        clash t (before_first (choices_count net (slot_at s i₀) (points_at net s j₀)) (λ x. wins_by net W s (move_at net s i₀ j₀ x)) k o)

    -- no winning move comes before it
    least :
        (i j k : ℕ) → i < slot_count net s → j < points_count net s → k < choices_count net (slot_at s i) (points_at net s j) →
        wins_by net W s (move_at net s i j k) ≡ true → ¬ Before (move_at net s i j k) (move_at net s i₀ j₀ k₀)
    unfolding Refuted
    least i j k hi hj hk t (inl lt) =
        clash (some_in i j hj (some_with i j k hk t)) (before_first (slot_count net s) (wins_in net W s) i (omega arith))
    least i j k hi hj hk t (inr (e, inl lt)) =
        let f = first (any_make (slot_count net s) _ i hi (some_in i j hj (some_with i j k hk t))) in
        let fj = f.points_number in
        let o = submask_order net.points (bit s.left) (suc j) (suc j₀) (omega arith) lt (omega arith) in
        let ie : i ≡ i₀ = omega arith in
        clash (subst (λ (x : ℕ). wins_with net W s x j ≡ true) ie (some_with i j k hk t))
        (before_first (points_count net s) (wins_with net W s i₀) j (omega arith))
    least i j k hi hj hk t (inr (e, inr (q, lt))) =
        let f = first (any_make (slot_count net s) _ i hi (some_in i j hj (some_with i j k hk t))) in
        let fj = f.points_number in
        let ie : i ≡ i₀ = omega arith in
        let a = rank_submask net.points (bit s.left) (suc j) (omega arith) in
        let b = rank_submask net.points (bit s.left) (suc j₀) (omega arith) in
        let je : suc j ≡ suc j₀ = sym a ∙ ap (rank net.points (bit s.left)) q ∙ b in
        subst (λ (x : ℕ). Refuted x j) (sym ie) (subst (Refuted i₀) (sym (down je)) (at_first f.choices_number)) k hk t lt
      where
        down : {a b : ℕ} → suc a ≡ suc b → a ≡ b
        down e = omega arith

    pub first_least :
        (m : Move) → Inside net s → Legal net s m → wins_by net W s m ≡ true → ¬ Before m (first_move net W s)
    unfolding first_move
    first_least m in-s lg t =
        let n = legal_numbered s m in-s lg in
        subst (λ (x : Move). wins_by net W s x ≡ true → ¬ Before x (move_at net s i₀ j₀ k₀)) n.is
        (least n.i n.j n.k n.slot_number n.points_number n.choices_number) t
