-- Laws of the call: what it says and leaves at each of its ends. Only the checker need believe this file.
use mathlib.Core.Path.{◌≡◌, refl, sym, ap, ◌∙◌}
use mathlib.Core.List.{List, [], ◌++◌}
use Prim.Native.Nat.{ℕ, ◌-◌, ◌*◌, ◌≤◌, ◌<◌}
use native.Mathlib.Omega.{arith}
use borrow.Rule.Slice.PartMut.{mid_of, put_mid, mid_len, Post-is}
use lib.ListN.{length, take, drop, replicate, length-append, length-drop}
use lib.Seq.{length-take-le, drop_at, take-append-le}
use Rattle.std.specs.Prelude.{Some, None}
use Rattle.network.specs.Network.{Network}
use Rattle.network.specs.Game.{start}
use Rattle.network.specs.Tree.{Tree}
use Rattle.network.specs.Sizes.{nodes}
use Rattle.network.specs.Search.{first_tree}
use Rattle.network.proofs.SizeLaws.{start_room}
use Rattle.network.proofs.Theorems.{consistent_exactly}
use Rattle.plan.specs.declared.Plan.{Plan}
use Rattle.plan.specs.declared.Refusal.{Refusal}
use Rattle.plan.specs.declared.Refusal.TheVariants as refusal
use Rattle.plan.specs.Refusal.{refusal_number}
use Rattle.plan.specs.Answer.{Answer, fine, refused}
use Rattle.plan.specs.Faults.{answered}
use Rattle.plan.specs.Plan.{network_of}
use Rattle.plan.specs.WellFormed.{WellFormed}
use Rattle.plan.proofs.AnswerLaws.{answered_fine, answered_refused}
use Rattle.plan.proofs.PlanTheorems.{is_network}
use Rattle.plan.proofs.RefusalLaws.{no_refusal}
use Rattle.judge.specs.Judge.{plan_fault}
use Rattle.judge.proofs.WellFormedLaws.{fine_exactly, two_to_four}
use Rattle.tree.specs.Nodes.{most_bytes, overwritten}
use Rattle.tree.specs.Parts.{most_nodes}
use Rattle.tree.specs.Trees.{tree_bytes}
use Rattle.tree.proofs.TreeLaws.{tree_length}
use Rattle.search.specs.Search.{search_fault, search_answer, search_leaves}
use Rattle.turns.specs.Turns.{most, Leaves, Finds, first_tree_at, AgentFinds}
use Rattle.turns.proofs.BufferLaws.{same_length, front_is}
use Rattle.turns.proofs.FirstTreeLaws.{start_tree}
use Rattle.turns.proofs.TurnLaws.{agent_fits}
use Rattle.search.proofs.AnswerLaws.{short_fault_lem, plan_fault_lem, hopeless_fault, no_fault}
use Rattle.search.proofs.SearchTheorems.{leaves_tree, hopeless_leaves, refused_stays}

-- the first 573 bytes are room enough for a tree from the start
pub start_fits : (p : Plan) → WellFormed p → 3 * most (network_of p) (start (network_of p)) ≤ most_bytes
start_fits p wf = let r = start_room (network_of p) (is_network p wf) wf.head.points wf.head.letters in omega arith

-- what the call says and what it leaves
abbrev pub Said : Plan → List ℕ → Answer ℕ → List ℕ → Type 0
Said p xs a ys = (a ≡ search_answer p xs) × (ys ≡ search_leaves p xs)

module _ (p : Plan) (xs : List ℕ) where
  abbrev net : Network
  net = network_of p

  refused_so : (r : Refusal) → search_fault p xs ≡ refusal_number r → refused 0 r ≡ search_answer p xs
  refused_so r e = answered_refused 0 _ r ∙ ap (λ (n : ℕ). answered 0 n (nodes net (first_tree net))) (sym e)

  -- ---- refused

  pub too_short : length xs < most_bytes → Said p xs (refused 0 refusal.Buffer) xs
  too_short lt =
      let f = short_fault_lem p xs lt in
      (refused_so refusal.Buffer f, sym (refused_stays p xs (λ e. absurd (omega arith)) (λ e. absurd (omega arith))))

  module _ (room : most_bytes ≤ length xs) where
    pub plan_refused : (r : Refusal) → refusal_number r ≡ plan_fault p → Said p xs (refused 0 r) xs
    plan_refused r e =
        let faulty : ¬ WellFormed p = λ wf. no_refusal r (e ∙ (fine_exactly p).1 wf) in
        let f = plan_fault_lem p xs room faulty in
        let few = two_to_four p faulty in
        (refused_so r (f ∙ sym e), sym (refused_stays p xs (λ z. absurd (omega arith)) (λ z. absurd (omega arith))))

    module _ (wf : WellFormed p) where
      -- ---- the turns were lent the first 573 bytes, which are es now

      abbrev lent : List ℕ
      lent = take most_bytes xs

      lent_long : length lent ≡ most_bytes
      lent_long = length-take-le most_bytes xs room

      all_lent : (tree es : List ℕ) → Leaves tree (most net (start net)) lent es → length es ≡ most_bytes
      all_lent tree es l = let f = start_fits p wf in same_length tree _ lent es l (omega (arith, lent_long)) ∙ lent_long

      -- the whole buffer
      abbrev given : List ℕ → List ℕ
      given es = es ++ drop most_bytes xs

      module _ (es : List ℕ) (long : length es ≡ most_bytes) where
        behind_part : drop most_bytes (given es) ≡ drop most_bytes xs
        behind_part = drop_at es (drop most_bytes xs) most_bytes long

        given_length : length (given es) ≡ length xs
        given_length = let d = length-drop most_bytes xs in length-append es (drop most_bytes xs) ∙ omega arith

        -- all of them cleared
        all_cleared : replicate (length (take most_bytes (given es))) 0 ++ drop most_bytes (given es) ≡ overwritten [] xs
        all_cleared = rw (behind_part, length-take-le most_bytes (given es) (omega (arith, given_length))) refl

        -- those behind a tree cleared
        tail_cleared :
            (tree : List ℕ) (n : ℕ) → length tree ≡ n → n ≤ most_bytes → take n es ≡ tree →
            put_mid n (most_bytes - n) (given es) (replicate (length (mid_of n (most_bytes - n) (given es))) 0) ≡ overwritten tree xs
        tail_cleared tree n e fit front =
            rw (
              Post-is n most_bytes (given es) fit,
              behind_part,
              mid_len n most_bytes (given es) (omega (arith, given_length)),
              take-append-le n es (drop most_bytes xs) (omega arith),
              front,
              e,
            ) refl

      -- ---- hopeless, or a tree

      pub turns_lost :
          (es zs : List ℕ) → AgentFinds net (start net) None lent es → zs ≡ replicate (length (take most_bytes (given es))) 0 →
          Said p xs (refused 0 refusal.Hopeless) (zs ++ drop most_bytes (given es))
      unfolding Finds
      turns_lost es zs found e =
          let f = hopeless_fault p xs room wf (λ c. found.0 ((consistent_exactly net (is_network p wf)).0 c)) in (
            refused_so refusal.Hopeless f,
            ap (λ (l : List ℕ). l ++ drop most_bytes (given es)) e ∙ all_cleared es (all_lent [] es found.1) ∙ sym (hopeless_leaves p xs f),
          )

      module _ (n : ℕ) (es : List ℕ) (found : AgentFinds net (start net) (Some n) lent es) where
        pub tree_fits : n ≤ most_nodes
        tree_fits = let a = agent_fits net (start net) n lent es found in let f = start_fits p wf in omega arith

        pub turns_won :
            (zs : List ℕ) → zs ≡ replicate (length (mid_of (3 * n) (most_bytes - 3 * n) (given es))) 0 →
            Said p xs (fine n) (put_mid (3 * n) (most_bytes - 3 * n) (given es) zs)
        unfolding Finds
        turns_won zs e =
            let f = no_fault p xs room wf ((consistent_exactly net (is_network p wf)).1 found.0) in
            let t = tree_bytes net (first_tree_at net (start net)) in
            let long : length t ≡ 3 * n = tree_length net (first_tree_at net (start net)) ∙ ap (λ (k : ℕ). 3 * k) (sym found.1) in (
              ap fine (found.1 ∙ ap (nodes net) (start_tree net)) ∙ sym (answered_fine 0 (search_fault p xs) (nodes net (first_tree net)) f),
              ap (put_mid (3 * n) (most_bytes - 3 * n) (given es)) e
                  ∙ tail_cleared es (all_lent t es found.2) t (3 * n) long (omega (arith, tree_fits))
                  (front_is t _ lent es found.2 (3 * n) long)
                  ∙ ap (λ (u : Tree). overwritten (tree_bytes net u) xs) (start_tree net)
                  ∙ sym (leaves_tree p xs f),
            )
