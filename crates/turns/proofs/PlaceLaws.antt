-- Laws of the two turns at a position, with the buffer as the code lends it and gets it back. Only the checker need believe this file.
use mathlib.Core.Path.{◌≡◌, sym, ap, ◌∙◌, subst}
use mathlib.Core.Bool.{Bool, true, false}
use mathlib.Core.List.{List}
use Prim.Native.Nat.{ℕ, ◌+◌, ◌-◌, ◌*◌, ◌^◌, ◌≤◌, ◌<◌}
use native.Mathlib.Omega.{arith}
use borrow.Rule.Slice.PartMut.{put_mid}
use lib.ListN.{length, drop}
use Rattle.std.specs.Prelude.{Option, Some, None}
use Rattle.std.specs.Bool.{then_some}
use Rattle.network.specs.Mask.{bit, count}
use Rattle.network.specs.Game.{State, Legal, outcomes, outcome_at, after}
use Rattle.network.specs.FirstMoves.{Winning}
use Rattle.network.proofs.Booleans.{by_test}
use Rattle.plan.specs.declared.Plan.{Plan}
use Rattle.plan.specs.Faults.{put_at}
use Rattle.plan.specs.Plan.{network_of}
use Rattle.plan.specs.Letters.{heard_by}
use Rattle.plan.specs.WellFormed.{WellFormed}
use Rattle.plan.proofs.SliceLaws.{rest, rest_is}
use Rattle.plan.proofs.OutcomeLaws.{submasks_are_outcomes}
use Rattle.plan.proofs.PlanTheorems.{is_network}
use Rattle.tree.specs.declared.Node.{Node}
use Rattle.tree.specs.Parts.{node_bytes}
use Rattle.tree.specs.Parts.{move_of}
use Rattle.moves.specs.Moves.{first_step, next_step}
use Rattle.moves.proofs.OrderLaws.{first_step_is, next_step_is}
use Rattle.game.specs.declared.Position.{Position}
use Rattle.game.specs.Position.{state_of, Proper, keeps_so_far_in}
use Rattle.game.proofs.PositionLaws.{inside_is, over_is_zero}
use Rattle.game.proofs.SoFarLaws.{end_is}
use Rattle.game.proofs.NextLaws.{next, next_is}
use Rattle.turns.specs.Turns.{most, most_behind, AgentFinds, WorldFinds}
use Rattle.turns.proofs.BufferLaws.{lent_length, comes_back, node_put}
use Rattle.turns.proofs.TurnLaws as turns

-- what the turns find, and what holds while they look, at a position
abbrev pub AgentAt : Plan → Position → Option ℕ → List ℕ → List ℕ → Type 0
AgentAt p at = AgentFinds (network_of p) (state_of p at)

abbrev pub WorldAt : Plan → Position → Node → Option ℕ → List ℕ → List ℕ → Type 0
WorldAt p at v = WorldFinds (network_of p) (state_of p at) (move_of v)

abbrev pub WinsTimely : Plan → Position → List ℕ → Type 0
WinsTimely p at = turns.WinsTimely (network_of p) (state_of p at)

abbrev pub Trying : Plan → Position → List ℕ → List ℕ → List ℕ → Option Node → Type 0
Trying p at = turns.Trying (network_of p) (state_of p at)

abbrev pub Answering : Plan → Position → Node → List ℕ → List ℕ → ℕ → ℕ → Type 0
Answering p at v = turns.Answering (network_of p) (state_of p at) (move_of v)

-- a buffer ys of which the part from byte a on was lent and came back as es
abbrev back : ℕ → List ℕ → List ℕ → List ℕ
back a ys es = put_mid a (length ys - a) ys es

module _ (p : Plan) (wf : WellFormed p) (at : Position) (ok : Proper p at) where
  abbrev s : State
  s = state_of p at

  -- ---- the agent

  module _ (xs : List ℕ) (fits : 3 * most (network_of p) s ≤ length xs) where
    -- no point is left
    module _ (end : at.left ≡ 0) (b : Bool) (said : b ≡ keeps_so_far_in p at) where
      pub ends_won : b ≡ true → AgentAt p at (Some 0) xs xs
      ends_won y = turns.ends_won (network_of p) s xs fits ((over_is_zero p wf at ok).0 end) (sym (said ∙ end_is p wf at ok end) ∙ y)

      pub ends_lost : b ≡ false → AgentAt p at None xs xs
      ends_lost z = turns.ends_lost (network_of p) s xs fits ((over_is_zero p wf at ok).0 end) (sym (said ∙ end_is p wf at ok end) ∙ z)

      pub ends_found : (r : Option ℕ) → r ≡ then_some b 0 → AgentAt p at r xs xs
      ends_found r e = by_test b (λ y. rw (e, y) (ends_won y)) (λ z. rw (e, z) (ends_lost z))

    pub first_tried :
        (soonest : List ℕ) → WinsTimely p at soonest → (next : Option Node) → next ≡ first_step p at soonest → Trying p at soonest xs xs next
    first_tried soonest early next e =
        turns.trying_start (network_of p) s soonest early xs fits next (rw e (first_step_is p wf at ok soonest))

    module _ (soonest ys : List ℕ) (same : length ys ≡ length xs) where
      pub tried_all : ¬ (at.left ≡ 0) → Trying p at soonest xs ys None → AgentAt p at None xs ys
      tried_all some t = turns.tried_all (network_of p) s soonest xs ys t ((over_is_zero p wf at ok).1 some)

      -- the move at hand, and behind its three bytes the part that is lent to the world
      module _ (v : Node) (t : Trying p at soonest xs ys (Some v)) where
        pub legal : Legal (network_of p) s (move_of v)
        legal = t.ahead.0

        pub move_fits : 3 + 3 * most_behind (network_of p) s (move_of v) ≤ length ys
        move_fits = let f = turns.node_fits (network_of p) s (is_network p wf) (move_of v) legal in omega arith

        pub part_fits : 3 * most_behind (network_of p) s (move_of v) ≤ length (rest 3 ys)
        part_fits = let f = move_fits in let l = lent_length 3 ys in omega arith

        module _ (es : List ℕ) where
          pub tried_wins :
              (n : ℕ) (zs : List ℕ) → WorldAt p at v (Some n) (rest 3 ys) es → zs ≡ put_at (back 3 ys es) 0 (node_bytes v) →
              AgentAt p at (Some (n + 1)) xs zs
          tried_wins n zs w e =
              let f = move_fits in
              subst (AgentAt p at (Some (n + 1)) xs)
              (sym (e ∙ rw (comes_back 3 ys es (omega arith)) (node_put ys es v (omega arith))))
              (turns.tried_wins (network_of p) s soonest xs ys (is_network p wf) v t (inside_is p wf at ok) n es
              (subst (λ (us : List ℕ). WorldAt p at v (Some n) us es) (rest_is 3 ys) w))

          pub tried_next :
              WinsTimely p at soonest → WorldAt p at v None (rest 3 ys) es → (next : Option Node) → next ≡ next_step p at soonest v →
              Trying p at soonest xs (back 3 ys es) next
          tried_next early w next e =
              let f = move_fits in
              rw (comes_back 3 ys es (omega arith))
              (turns.tried_next (network_of p) s soonest xs ys (is_network p wf) v t early (omega arith) es
              (subst (λ (us : List ℕ). WorldAt p at v None us es) (rest_is 3 ys) w)
              next (rw e (next_step_is p wf at ok soonest v legal t.ahead.1)))

          pub count_fits : (n : ℕ) → WorldAt p at v (Some n) (rest 3 ys) es → n < length ys
          count_fits n w =
              let f = move_fits in
              let g = turns.world_fits (network_of p) s (move_of v) n (rest 3 ys) es w in
              omega arith

  -- ---- the world, behind a legal move

  module _
      (v : Node) (lg : Legal (network_of p) s (move_of v)) (xs : List ℕ)
      (fits : 3 * most_behind (network_of p) s (move_of v) ≤ length xs) where
    pub refuted : ¬ Winning (network_of p) s (move_of v) → WorldAt p at v None xs xs
    refuted = turns.refuted (network_of p) s (move_of v) xs fits

    pub answering_start : Answering p at v xs xs 0 0
    answering_start = turns.answering_start (network_of p) s (move_of v) xs fits

    -- n outcomes, as the code counts them
    module _
        (n : ℕ) (all : n ≡ 2 ^ count 8 (bit (heard_by p v.points))) (ys : List ℕ) (same : length ys ≡ length xs) (sum k : ℕ)
        (a : Answering p at v xs ys sum k) where
      outcomes_are : n ≡ outcomes (network_of p) (move_of v)
      outcomes_are = all ∙ submasks_are_outcomes p wf.head.letters (move_of v)

      pub answered_all : ¬ (k < n) → WorldAt p at v (Some sum) xs ys
      answered_all last = turns.answered_all (network_of p) s (move_of v) xs ys sum k a lg (λ lt. last (omega (arith, outcomes_are)))

      -- outcome number k leads to the position u
      module _ (more : k < n) (long : length at.slots ≡ 8) (u : Position) (leads : u ≡ next p at v k) where
        more_outcomes : k < outcomes (network_of p) (move_of v)
        more_outcomes = subst (λ (j : ℕ). k < j) outcomes_are more

        state_is : state_of p u ≡ after (network_of p) s (move_of v) (outcome_at (network_of p) (move_of v) k)
        state_is = ap (state_of p) leads ∙ next_is p wf at ok v lg k long

        pub tree_fits : 3 * sum + 3 * most (network_of p) (state_of p u) ≤ length ys
        tree_fits =
            let f = turns.next_fits (network_of p) s (move_of v) xs ys sum k a (is_network p wf) more_outcomes in
            rw state_is (omega arith)

        pub rest_fits : 3 * most (network_of p) (state_of p u) ≤ length (rest (3 * sum) ys)
        rest_fits = let f = tree_fits in let l = lent_length (3 * sum) ys in omega arith

        -- what the agent found there, as the world's laws want it
        found :
            (r : Option ℕ) (es : List ℕ) → AgentAt p u r (rest (3 * sum) ys) es →
            AgentFinds (network_of p) (after (network_of p) s (move_of v) (outcome_at (network_of p) (move_of v) k)) r (drop (3 * sum) ys) es
        found r es f =
            subst (λ (w : State). AgentFinds (network_of p) w r (drop (3 * sum) ys) es) state_is
            (subst (λ (us : List ℕ). AgentAt p u r us es) (rest_is (3 * sum) ys) f)

        module _ (es : List ℕ) where
          pub answered_lost : AgentAt p u None (rest (3 * sum) ys) es → WorldAt p at v None xs (back (3 * sum) ys es)
          answered_lost f =
              let r = tree_fits in
              rw (comes_back (3 * sum) ys es (omega arith))
              (turns.answered_lost (network_of p) s (move_of v) xs ys sum k a (is_network p wf) more_outcomes es (found None es f))

          module _ (j : ℕ) (f : AgentAt p u (Some j) (rest (3 * sum) ys) es) where
            pub answered_next : Answering p at v xs (back (3 * sum) ys es) (sum + j) (k + 1)
            answered_next =
                let r = tree_fits in
                rw (comes_back (3 * sum) ys es (omega arith))
                (turns.answered_next (network_of p) s (move_of v) xs ys sum k a (is_network p wf) more_outcomes j es (found (Some j) es f))

            pub sum_fits : sum + j ≤ length ys
            sum_fits =
                let g = turns.agent_fits (network_of p) (state_of p u) j (rest (3 * sum) ys) es f in
                let r = tree_fits in
                omega arith
