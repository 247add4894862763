-- Theorems on the search, for document 01's "The search" and "Who gets which number". Read the statements; only the checker need believe
-- the proofs.
use mathlib.Core.Path.{◌≡◌, refl, sym, ◌∙◌}
use mathlib.Core.Logic.Iff
use mathlib.Core.Logic.{◌↔◌}
use mathlib.Core.List.{List, []}
use Prim.Native.Nat.{ℕ, ◌-◌, ◌*◌, ◌≤◌, ◌<◌}
use native.Mathlib.Omega.{arith}
use lib.ListN.{length, take, drop, replicate}
use lib.Seq.{take_at}
use Rattle.std.specs.Prelude.{Result, Ok, Err}
use Rattle.network.specs.Network.{Network}
use Rattle.network.specs.Strategy.{DynamicallyConsistent}
use Rattle.network.specs.Game.{start}
use Rattle.network.specs.Tree.{Tree}
use Rattle.network.specs.Sizes.{nodes}
use Rattle.network.specs.FirstMoves.{FirstMoves}
use Rattle.network.specs.Walks.{SameTree}
use Rattle.network.specs.Search.{first_tree}
use Rattle.network.proofs.Booleans.{eqb_no}
use Rattle.network.proofs.Theorems.{tree_dynamic, tree_viable_exactly, first_tree_first, first_tree_wins, first_tree_only}
use Rattle.plan.specs.declared.Plan.{Plan}
use Rattle.plan.specs.declared.Refusal.{Refusal}
use Rattle.plan.specs.declared.Refusal.TheVariants as refusal
use Rattle.plan.specs.Refusal.{refusal_number}
use Rattle.plan.specs.Faults.{answered}
use Rattle.plan.specs.Plan.{network_of}
use Rattle.plan.specs.WellFormed.{WellFormed}
use Rattle.plan.proofs.AnswerLaws.{answered_fault, answered_zero}
use Rattle.judge.specs.Judge.{plan_fault}
use Rattle.tree.specs.Nodes.{node_count, most_bytes, overwritten}
use Rattle.tree.specs.Trees.{tree_bytes}
use Rattle.tree.proofs.TreeLaws.{same_bytes}
use Rattle.checker.specs.Checker.{check_fault}
use Rattle.checker.proofs.CheckerTheorems.{yes_exactly}
use Rattle.search.specs.Search.{search_fault, search_answer, search_leaves}
use Rattle.search.specs.Searched.{searched_answer}
use Rattle.search.proofs.AnswerLaws.{overwritten_past, overwritten_tail, overwritten_length, leaves_of, said_refused, said_nodes}
use Rattle.search.proofs.AnswerLaws.{short_fault_lem, plan_fault_lem, hopeless_fault, no_fault, by_fault, answered_so, hopeless_so}

-- Of any plan record p, fine or not, and any lent buffer xs, long enough or not.
module _ (p : Plan) (xs : List ℕ) where
  abbrev net : Network
  net = network_of p

  -- the bytes of the tree of first moves
  abbrev bytes : List ℕ
  bytes = tree_bytes net (first_tree net)

  -- the number that is answered
  abbrev count : ℕ
  count = (search_answer p xs).value

  -- ---- Success: there is no fault. (`answered_exactly` says when.)

  module _ (fine : search_fault p xs ≡ 0) where
    -- At each node the tree holds the first move from which the remaining game can still be won.
    pub first_moves : FirstMoves net (first_tree net) (start net)
    first_moves = let a = answered_so p xs fine in first_tree_first net a.is_net a.not_lost

    -- There is no other such tree, and none has other bytes.
    pub only_tree : (t : Tree) → FirstMoves net t (start net) → SameTree net (first_tree net) t
    only_tree = let a = answered_so p xs fine in first_tree_only net a.is_net a.not_lost

    pub only_bytes : (t : Tree) → FirstMoves net t (start net) → tree_bytes net t ≡ bytes
    only_bytes t f = sym (same_bytes net (first_tree net) t (only_tree t f))

    -- The answer is the node count, of the tree and of its bytes: 1 to 191.
    pub count_nodes : count ≡ nodes net (first_tree net)
    count_nodes = (answered_so p xs fine).counted

    pub count_is : count ≡ node_count bytes
    count_is = let three_each = (answered_so p xs fine).three_each in omega arith

    pub count_bounds : (1 ≤ count) × (count ≤ 191)
    count_bounds = let legal = (answered_so p xs fine).legal in (omega (arith, count_is), omega (arith, count_is))

    -- The lent buffer holds the tree, ..
    pub leaves_tree : search_leaves p xs ≡ overwritten bytes xs
    unfolding search_leaves
    leaves_tree = rw fine

    pub front_is_tree : take (3 * count) (search_leaves p xs) ≡ bytes
    front_is_tree = rw leaves_tree (take_at bytes _ (3 * count) (answered_so p xs fine).three_each)

    -- .. then zeros up to byte 573.
    pub tail_zero : take (most_bytes - 3 * count) (drop (3 * count) (search_leaves p xs)) ≡ replicate (most_bytes - 3 * count) 0
    tail_zero = let a = answered_so p xs fine in rw (leaves_tree, ← a.three_each) (overwritten_tail bytes xs)

    -- The checker says yes to the tree.
    pub checker_yes : check_fault p (take (3 * count) (search_leaves p xs)) ≡ 0
    checker_yes =
        let a = answered_so p xs fine in
        let t = first_tree net in
        let shaped = a.described.shaped in
        let viable = (tree_viable_exactly net a.is_net t shaped).1 (first_tree_wins net a.is_net a.not_lost) in
        rw front_is_tree ((yes_exactly p a.well_formed bytes).1 (t, a.described, tree_dynamic net a.is_net t shaped, viable))

  -- ---- Hopeless: the first 573 bytes are zero. (`hopeless_exactly` says when.)

  module _ (hopeless : search_fault p xs ≡ refusal_number refusal.Hopeless) where
    pub hopeless_leaves : search_leaves p xs ≡ overwritten [] xs
    unfolding search_leaves
    hopeless_leaves = rw hopeless

    pub hopeless_zeros : take most_bytes (search_leaves p xs) ≡ replicate most_bytes 0
    hopeless_zeros = rw hopeless_leaves (overwritten_tail [] xs)

  -- ---- Under every other refusal no lent byte changes; of every call, bytes past 573 stay, and so does the length.

  pub refused_stays : ¬ (search_fault p xs ≡ 0) → ¬ (search_fault p xs ≡ refusal_number refusal.Hopeless) → search_leaves p xs ≡ xs
  unfolding search_leaves
  refused_stays n m = rw (eqb_no (search_fault p xs) 0 n, eqb_no (search_fault p xs) (refusal_number refusal.Hopeless) m)

  pub past_stays : drop most_bytes (search_leaves p xs) ≡ drop most_bytes xs
  past_stays =
      leaves_of p xs (λ ys. drop most_bytes ys ≡ drop most_bytes xs)
      (λ e. overwritten_past bytes xs (answered_so p xs e).fit)
      (λ e. overwritten_past [] xs (omega arith))
      refl

  pub same_length : length (search_leaves p xs) ≡ length xs
  same_length =
      leaves_of p xs (λ ys. length ys ≡ length xs)
      (λ e. let a = answered_so p xs e in overwritten_length bytes xs a.fit a.room)
      (λ e. overwritten_length [] xs (omega arith) (hopeless_so p xs e).0)
      refl

  -- ---- Who gets which number: 10 first, then the plan's 2, 3, 4, then 11.

  pub fault_is : (search_answer p xs).fault ≡ search_fault p xs
  fault_is = answered_fault 0 (search_fault p xs) (nodes net (first_tree net))

  -- 10 exactly for a buffer of less than 573 bytes
  pub ten_exactly : (search_fault p xs ≡ refusal_number refusal.Buffer) ↔ (length xs < most_bytes)
  ten_exactly = (
    λ e. by_fault p xs
        (λ lt f. lt)
        (λ low high. absurd (omega arith))
        (λ room wf n f. absurd (omega arith))
        (λ room wf c f. absurd (omega arith)),
    short_fault_lem p xs,
  )

  -- then the plan's fault as the judge has it: 2, 3 or 4 (`two_to_four` of judge/proofs/WellFormedLaws.antt)
  pub plan_first : most_bytes ≤ length xs → ¬ WellFormed p → search_fault p xs ≡ plan_fault p
  plan_first = plan_fault_lem p xs

  -- then 11 exactly where no strategy is dynamic and viable (Definitions 6 to 9)
  pub hopeless_exactly :
      (search_fault p xs ≡ refusal_number refusal.Hopeless)
      ↔ ((most_bytes ≤ length xs) × WellFormed p × (¬ DynamicallyConsistent net))
  hopeless_exactly = (hopeless_so p xs, λ h. hopeless_fault p xs h.0 h.1 h.2)

  -- .. and success exactly where some is
  pub answered_exactly : (search_fault p xs ≡ 0) ↔ ((most_bytes ≤ length xs) × WellFormed p × DynamicallyConsistent net)
  answered_exactly = (
    λ e. let a = answered_so p xs e in (a.room, a.well_formed, a.consistent),
    λ h. no_fault p xs h.0 h.1 h.2,
  )

  -- the same of a well-formed plan and a buffer that is long enough
  module _ (wf : WellFormed p) (room : most_bytes ≤ length xs) where
    pub eleven_exactly : (search_fault p xs ≡ refusal_number refusal.Hopeless) ↔ (¬ DynamicallyConsistent net)
    eleven_exactly = (λ e. (hopeless_exactly.0 e).2, hopeless_fault p xs room wf)

    pub fine_exactly : (search_fault p xs ≡ 0) ↔ DynamicallyConsistent net
    fine_exactly = (λ e. (answered_exactly.0 e).2, no_fault p xs room wf)

  -- beside a refusal the count is 0
  pub refused_zero : ¬ (search_fault p xs ≡ 0) → count ≡ 0
  refused_zero n = answered_zero 0 (search_fault p xs) (nodes net (first_tree net)) (λ e. n (sym fault_is ∙ e))

  -- ---- What the call hands back and leaves, by its promises.

  module _ (r : Result ℕ Refusal) (promised : searched_answer r ≡ search_answer p xs) where
    -- a refusal exactly where its number is the fault
    pub says_refused_exactly : (f : Refusal) → (r ≡ Err f) ↔ (search_fault p xs ≡ refusal_number f)
    unfolding answered
    says_refused_exactly f = said_refused r promised f

    -- so hopeless exactly where no strategy is dynamic and viable
    pub says_hopeless_exactly :
        (r ≡ Err refusal.Hopeless) ↔ ((most_bytes ≤ length xs) × WellFormed p × (¬ DynamicallyConsistent net))
    says_hopeless_exactly = Iff.trans (says_refused_exactly refusal.Hopeless) hopeless_exactly

    -- a tree exactly where some is, and no count but its own
    pub says_nodes_exactly :
        (n : ℕ) → (r ≡ Ok n)
        ↔ ((n ≡ nodes net (first_tree net)) × (most_bytes ≤ length xs) × WellFormed p × DynamicallyConsistent net)
    unfolding answered
    says_nodes_exactly n = (
      λ e. let h = (said_nodes r promised n).0 e in
          let w = answered_exactly.0 h.0 in
          (sym h.1 ∙ count_nodes h.0, w.0, w.1, w.2),
      λ h. let fine = answered_exactly.1 (h.1, h.2, h.3) in (said_nodes r promised n).1 (fine, count_nodes fine ∙ sym h.0),
    )

    -- a tree that the checker accepts, of as many nodes as were answered
    pub says_checked : (ys : List ℕ) → ys ≡ search_leaves p xs → (n : ℕ) → r ≡ Ok n → check_fault p (take (3 * n) ys) ≡ 0
    says_checked ys left n e =
        let h = (says_nodes_exactly n).0 e in
        let fine = answered_exactly.1 (h.1, h.2, h.3) in
        rw (left, h.0, ← count_nodes fine) (checker_yes fine)
