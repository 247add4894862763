-- Laws of the two turns: what holds while the agent tries moves and while the world tries outcomes, with one law for each thing that
-- happens. Only the checker need believe this file.
use mathlib.Core.Path.{◌≡◌, refl, sym, ap, ◌∙◌, subst}
use mathlib.Core.Logic.{by_cases, ⊎_elim}
use mathlib.Core.Bool.{true, false}
use mathlib.Core.List.{List, [], ◌++◌}
use Prim.Native.Nat.{ℕ, suc, ◌+◌, ◌-◌, ◌*◌, ◌≤◌, ◌<◌}
use native.Mathlib.Omega.{arith}
use native.Mathlib.Decide.{dec_lt}
use native.Mathlib.Nat.{not-suc-le-zero, mul-le-mul_left}
use native.Mathlib.Numerals.{add-one}
use lib.ListN.{length, take, drop}
use lib.Seq.{length-take-le}
use Rattle.std.specs.Prelude.{Option, Some, None}
use Rattle.network.specs.Mask.{join_below}
use Rattle.network.specs.Below.{sum_below}
use Rattle.network.specs.Network.{Network}
use Rattle.network.specs.IsNetwork.{IsNetwork}
use Rattle.network.specs.Game.{State, Move, Legal, outcomes, outcome_at, after, kept}
use Rattle.network.specs.Sizes.{nodes}
use Rattle.network.specs.FirstMoves.{CanBeWon, Winning, Before}
use Rattle.network.specs.Search.{over}
use Rattle.network.proofs.BelowLaws.{sum_le}
use Rattle.network.proofs.JoinLaws.{join_lengths}
use Rattle.network.proofs.GameLaws.{Inside, after_inside, outcome_at_is, outcome_numbered}
use Rattle.network.proofs.FirstLaws.{before_cases}
use Rattle.network.proofs.SizeLaws.{room_positive, room_same, room_step}
use Rattle.tree.specs.declared.Node.{Node}
use Rattle.tree.specs.Parts.{node_bytes}
use Rattle.tree.specs.Trees.{tree_bytes}
use Rattle.tree.specs.Parts.{move_of}
use Rattle.tree.proofs.TreeLaws.{tree_length, node_bytes_lem, same_bytes, same_nodes}
use Rattle.moves.specs.Moves.{FirstOf, Timely}
use Rattle.turns.specs.Turns.{most, most_behind, Leaves, Finds, first_tree_at, AgentFinds, tree_behind, WorldFinds}
use Rattle.turns.proofs.BufferLaws.{untouched, given_up, front_is, behind_front}
use Rattle.turns.proofs.FirstTreeLaws.{first_fits, end_bytes, end_nodes, end_won, end_lost, none_wins, wins_won, same_tree}

module _ (net : Network) (s : State) where
  -- ---- room

  -- a node and the subtrees behind its move fit
  pub node_fits : IsNetwork net → (m : Move) → Legal net s m → suc (most_behind net s m) ≤ most net s
  node_fits wf m lg =
      let pos = room_positive net wf (after net s m 0) in
      let r = room_step net wf s m 0 lg (most net (after net s m 0)) (omega arith) in
      omega arith

  -- every outcome has the same room
  same_room : IsNetwork net → (m : Move) (o : ℕ) → most net (after net s m o) ≡ most net (after net s m 0)
  same_room wf m o = ap (λ (r : ℕ). r - 1) (room_same net wf s m o 0)

  -- the trees of the first k outcomes: how many nodes, and their bytes
  abbrev nodes_of : Move → ℕ → ℕ
  nodes_of m k = sum_below k (λ j. nodes net (tree_behind net s m j))

  abbrev bytes_of : Move → ℕ → List ℕ
  bytes_of m k = join_below k (λ j. tree_bytes net (tree_behind net s m j))

  bytes_length : (m : Move) (k : ℕ) → length (bytes_of m k) ≡ 3 * nodes_of m k
  bytes_length m k = join_lengths k 3 _ _ (λ j lt. tree_length net (tree_behind net s m j))

  -- what a turn found fits
  pub agent_fits : (n : ℕ) (xs ys : List ℕ) → AgentFinds net s (Some n) xs ys → n ≤ most net s
  unfolding Finds
  agent_fits n xs ys f =
      let e = tree_length net (first_tree_at net s) in
      let c = f.1 in
      let b = f.2.bounded in
      omega arith

  pub world_fits : (m : Move) (n : ℕ) (xs ys : List ℕ) → WorldFinds net s m (Some n) xs ys → n ≤ most_behind net s m
  unfolding Finds
  world_fits m n xs ys f =
      let e = bytes_length m (outcomes net m) in
      let c = f.1 in
      let b = f.2.bounded in
      omega arith

  -- ---- no point is left

  pub ends_won :
      (xs : List ℕ) → 3 * most net s ≤ length xs → over net s ≡ true → kept net s ≡ true → AgentFinds net s (Some 0) xs xs
  unfolding Finds
  ends_won xs fits end k = (
    end_won net s end k,
    sym (end_nodes net s end),
    subst (λ (t : List ℕ). Leaves t (most net s) xs xs) (sym (end_bytes net s end)) (untouched (most net s) xs fits),
  )

  -- lost, and nothing was written
  pub lost_unwritten : (xs : List ℕ) → 3 * most net s ≤ length xs → ¬ CanBeWon net s → AgentFinds net s None xs xs
  unfolding Finds
  lost_unwritten xs fits lost = (lost, untouched (most net s) xs fits)

  pub ends_lost :
      (xs : List ℕ) → 3 * most net s ≤ length xs → over net s ≡ true → kept net s ≡ false → AgentFinds net s None xs xs
  ends_lost xs fits end z = lost_unwritten xs fits (end_lost net s end z)

  -- ---- the agent tries moves

  -- no winning move performs a point before its soonest slot, so a step over moves that do passes no winning one
  abbrev pub WinsTimely : List ℕ → Type 0
  WinsTimely soonest = (k : Move) → Winning net s k → Timely soonest k

  -- no move before the one at hand wins; at the end none does
  abbrev pub Ahead : List ℕ → Option Node → Type 0
  Ahead soonest None = (k : Move) → ¬ Winning net s k
  Ahead soonest (Some v) =
      Legal net s (move_of v) × Timely soonest (move_of v) × ((k : Move) → Winning net s k → ¬ Before k (move_of v))

  pub record Trying (soonest xs ys : List ℕ) (next : Option Node) : Type 0 where
    pub left_so_far : Leaves [] (most net s) xs ys
    pub ahead : Ahead soonest next

  first_ahead : (soonest : List ℕ) → WinsTimely soonest → (next : Option Node) → FirstOf net s (λ k. Timely soonest k) next → Ahead soonest next
  unfolding FirstOf
  first_ahead soonest early None f = λ k w. f k w.legal (early k w)
  first_ahead soonest early (Some v) f = (f.0, f.1, λ k w. f.2 k w.legal (early k w))

  pub trying_start :
      (soonest : List ℕ) → WinsTimely soonest → (xs : List ℕ) → 3 * most net s ≤ length xs → (next : Option Node) →
      FirstOf net s (λ k. Timely soonest k) next → Trying soonest xs xs next
  trying_start soonest early xs fits next f =
      record { left_so_far = untouched (most net s) xs fits; ahead = first_ahead soonest early next f }

  module _ (soonest xs ys : List ℕ) where
    pub tried_all : Trying soonest xs ys None → over net s ≡ false → AgentFinds net s None xs ys
    unfolding Finds
    tried_all t on = (none_wins net s on t.ahead, t.left_so_far)

    module _ (wf : IsNetwork net) (v : Node) (t : Trying soonest xs ys (Some v)) where
      abbrev m : Move
      m = move_of v

      fits_behind : (front : List ℕ) → length front ≡ 3 → length front + 3 * most_behind net s m ≤ 3 * most net s
      fits_behind front e = let f = node_fits wf m t.ahead.0 in omega arith

      -- the bytes with the part behind three others as a turn left it
      behind_three :
          (front other es : List ℕ) → length front ≡ 3 → Leaves other (most_behind net s m) (drop 3 ys) es →
          Leaves (front ++ other) (most net s) xs (front ++ es)
      behind_three front other es e w =
          behind_front [] (most net s) xs ys t.left_so_far front other (most_behind net s m) es (fits_behind front e)
          (subst (λ (i : ℕ). Leaves other (most_behind net s m) (drop i ys) es) (sym e) w)

      -- the move at hand wins
      pub tried_wins :
          Inside net s → (n : ℕ) (es : List ℕ) → WorldFinds net s m (Some n) (drop 3 ys) es →
          AgentFinds net s (Some (n + 1)) xs (node_bytes v ++ es)
      unfolding Finds nodes
      tried_wins in-s n es w =
          let same = same_tree net s in-s m w.0 t.ahead.2 in
          let counted = w.1 in
          let all_nodes = same_nodes net _ _ same in
          let all_bytes = same_bytes net _ _ same ∙ node_bytes_lem net m _ in (
            wins_won net s in-s m w.0 t.ahead.2,
            omega arith,
            subst (λ (bs : List ℕ). Leaves bs (most net s) xs (node_bytes v ++ es)) (sym all_bytes)
                (behind_three (node_bytes v) _ es refl w.2),
          )

      -- it does not: a winning move comes behind it and is timely, so none stands before the next one
      behind : ¬ Winning net s m → (k : Move) → Winning net s k → Before m k
      behind fails k w =
          ⊎_elim (λ b. b)
          (⊎_elim (λ e. absurd (fails (subst (Winning net s) (sym e) w))) (λ b. absurd (t.ahead.2 k w b)))
          (before_cases m k)

      next_ahead :
          WinsTimely soonest → ¬ Winning net s m → (next : Option Node) → FirstOf net s (λ k. Timely soonest k × Before m k) next →
          Ahead soonest next
      unfolding FirstOf
      next_ahead early fails None f = λ k w. f k w.legal (early k w, behind fails k w)
      next_ahead early fails (Some u) f = (f.0, f.1.0, λ k w. f.2 k w.legal (early k w, behind fails k w))

      pub tried_next :
          WinsTimely soonest → 3 ≤ length ys → (es : List ℕ) → WorldFinds net s m None (drop 3 ys) es → (next : Option Node) →
          FirstOf net s (λ k. Timely soonest k × Before m k) next → Trying soonest xs (take 3 ys ++ es) next
      unfolding Finds
      tried_next early long es w next f =
          record {
            left_so_far = given_up _ (most net s) xs _ (behind_three (take 3 ys) [] es (length-take-le 3 ys long) w.1);
            ahead = next_ahead early w.0 next f;
          }

  -- ---- the world tries outcomes

  module _ (m : Move) where
    abbrev after_outcome : ℕ → State
    after_outcome k = after net s m (outcome_at net m k)

    -- each of the first k outcomes can be won, and count and ys are their nodes and bytes
    pub record Answering (xs ys : List ℕ) (count k : ℕ) : Type 0 where
      pub few : k ≤ outcomes net m
      pub won : (j : ℕ) → j < k → CanBeWon net (after_outcome j)
      pub counted : count ≡ nodes_of m k
      pub written : Leaves (bytes_of m k) (most_behind net s m) xs ys

    -- the move does not win, and nothing was written
    pub refuted : (xs : List ℕ) → 3 * most_behind net s m ≤ length xs → ¬ Winning net s m → WorldFinds net s m None xs xs
    unfolding Finds
    refuted xs fits fails = (fails, untouched (most_behind net s m) xs fits)

    pub answering_start : (xs : List ℕ) → 3 * most_behind net s m ≤ length xs → Answering xs xs 0 0
    unfolding sum_below join_below
    answering_start xs fits =
        record {
          few = omega arith;
          won = λ j lt. absurd (not-suc-le-zero lt);
          counted = refl;
          written = untouched (most_behind net s m) xs fits;
        }

    module _ (xs ys : List ℕ) (count k : ℕ) (a : Answering xs ys count k) where
      written_length : length (bytes_of m k) ≡ 3 * count
      written_length = bytes_length m k ∙ ap (λ (n : ℕ). 3 * n) (sym a.counted)

      -- every outcome was tried
      pub answered_all : Legal net s m → ¬ (k < outcomes net m) → WorldFinds net s m (Some count) xs ys
      unfolding Finds
      answered_all lg last =
          let few = a.few in
          let e : k ≡ outcomes net m = omega arith in (
            record {
              legal = lg;
              answered = λ o ok. let n = outcome_numbered net m o ok in
                  subst (λ (x : ℕ). CanBeWon net (after net s m x)) n.2 (a.won n.0 (subst (λ (x : ℕ). n.0 < x) (sym e) n.1));
            },
            a.counted ∙ ap (nodes_of m) e,
            subst (λ (j : ℕ). Leaves (bytes_of m j) (most_behind net s m) xs ys) e a.written,
          )

      -- an outcome cannot be won; or it can, and its tree stands behind the others
      module _ (wf : IsNetwork net) (lt : k < outcomes net m) where
        -- each tree so far has its room
        so_far : count ≤ k * most net (after net s m 0)
        so_far =
            let c = a.counted in
            let b = sum_le k (λ j. nodes net (tree_behind net s m j)) (most net (after net s m 0)) (λ j l.
            let f = first_fits net (after_outcome j) (after_inside net s m (outcome_at net m j)) (a.won j l) wf in
            let r = same_room wf m (outcome_at net m j) in
            omega arith) in
            omega arith

        -- the tree of the next outcome has room behind them
        pub next_fits : 3 * count + 3 * most net (after_outcome k) ≤ 3 * most_behind net s m
        next_fits =
            let r = same_room wf m (outcome_at net m k) in
            let c = so_far in
            omega (arith, mul-le-mul_left (most net (after net s m 0)) lt)

        behind_others :
            (other es : List ℕ) → Leaves other (most net (after_outcome k)) (drop (3 * count) ys) es →
            Leaves (bytes_of m k ++ other) (most_behind net s m) xs (bytes_of m k ++ es)
        behind_others other es w =
            let long = written_length in
            let fit = next_fits in
            behind_front (bytes_of m k) (most_behind net s m) xs ys a.written (bytes_of m k) other (most net (after_outcome k)) es (omega arith)
            (subst (λ (i : ℕ). Leaves other (most net (after_outcome k)) (drop i ys) es) (sym long) w)

        others_stay : (es : List ℕ) → take (3 * count) ys ++ es ≡ bytes_of m k ++ es
        others_stay es =
            ap (λ (zs : List ℕ). zs ++ es)
            (front_is (bytes_of m k) (most_behind net s m) xs ys a.written (3 * count) written_length)

        pub answered_lost :
            (es : List ℕ) → AgentFinds net (after_outcome k) None (drop (3 * count) ys) es →
            WorldFinds net s m None xs (take (3 * count) ys ++ es)
        unfolding Finds
        answered_lost es f = (
          λ w. f.0 (w.answered (outcome_at net m k) (outcome_at_is net m k)),
          rw (others_stay es) (given_up _ (most_behind net s m) xs _ (behind_others [] es f.1)),
        )

        pub answered_next :
            (n : ℕ) (es : List ℕ) → AgentFinds net (after_outcome k) (Some n) (drop (3 * count) ys) es →
            Answering xs (take (3 * count) ys ++ es) (count + n) (k + 1)
        unfolding Finds sum_below join_below
        answered_next n es f =
            rw (add-one k, others_stay es) (record {
              few = omega arith;
              won = λ j l. by_cases (dec_lt j k) (a.won j) (λ ge. let e : k ≡ j = omega arith in
                  subst (λ (i : ℕ). CanBeWon net (after_outcome i)) e f.0);
              counted = let c = a.counted in let d = f.1 in omega arith;
              written = behind_others (tree_bytes net (tree_behind net s m k)) es f.2;
            })
