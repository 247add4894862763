-- Theorem: demand 3 holds of this planner. Read the statement in specs/Demand3.antt; only the checker need believe the proof.
use Rattle.std.specs.Prelude.{Result, Ok}
use mathlib.Core.Path.{◌≡◌, refl, sym, ap, ◌∙◌, subst}
use mathlib.Core.Logic.{◌↔◌, by_cases}
use mathlib.Core.List.{List}
use Prim.Native.Nat.{ℕ, ◌≤◌}
use native.Mathlib.Omega.{arith}
use lib.ListN.{length}
use Rattle.network.specs.Network.{Network}
use Rattle.network.specs.IsNetwork.{IsNetwork}
use Rattle.network.specs.Strategy.{DynamicallyConsistent}
use Rattle.network.specs.Game.{start}
use Rattle.network.specs.Tree.{Tree, preorder}
use Rattle.network.specs.Walks.{Wins}
use Rattle.network.specs.FirstMoves.{FirstMoves}
use Rattle.network.specs.Search.{first_tree}
use Rattle.network.proofs.SizeLaws.{nodes_in_order}
use Rattle.network.proofs.TreeStrategy.{wins→shaped}
use Rattle.network.proofs.FirstLaws.{first→sound}
use Rattle.network.proofs.Theorems.{consistent_exactly, consistent_decided, no_policy}
use Rattle.network.proofs.Theorems as theorems
use Rattle.plan.specs.declared.Plan.{Plan}
use Rattle.plan.specs.declared.Refusal.TheVariants as refusal
use Rattle.plan.specs.declared.Refusal.{Refusal}
use Rattle.plan.specs.Plan.{network_of}
use Rattle.plan.specs.WellFormed.{WellFormed}
use Rattle.plan.proofs.PlanTheorems.{is_network}
use Rattle.tree.specs.Nodes.{most_bytes, first_nodes, overwritten}
use Rattle.tree.specs.Trees.{tree_bytes, Describes}
use Rattle.tree.proofs.TreeLaws.{tree_length}
use Rattle.search.specs.Search.{search_fault, search_answer, search_leaves}
use Rattle.search.proofs.AnswerLaws.{answered_so}
use Rattle.search.proofs.SearchTheorems.{first_moves, only_bytes, count_nodes, leaves_tree, front_is_tree, checker_yes}
use Rattle.search.proofs.SearchTheorems.{eleven_exactly, fine_exactly, says_refused_exactly, says_nodes_exactly}
use Rattle.run.specs.History.{empty_history}
use Rattle.following.specs.Calls.{Call}
use Rattle.following.specs.ThisRun.{the_run}
use Rattle.demands.specs.ThisPlanner.{planner}
use Rattle.demands.specs.Demand3.{SearchedBy, Hopeless, Demand3For, Demand3}
use Rattle.demands.proofs.ListLaws.{EveryList, EveryTwoLists}
use Rattle.demands.proofs.MadeLaws.{calls_of, crew_so, two_crews_so}
use Rattle.demands.proofs.SaidLaws.{search_said, run_said, calls_follow}
use Rattle.demands.proofs.EveryListLaws.{every_list_so, every_two_lists_so}

module _ (p : Plan) (lent : List ℕ) (wf : WellFormed p) (room : most_bytes ≤ length lent) where
  abbrev net : Network
  net = network_of p

  is_net : IsNetwork net
  is_net = is_network p wf

  -- ---- the search, where it finds no fault

  module _ (none : search_fault p lent ≡ 0) where
    abbrev bytes : List ℕ
    bytes = first_nodes (search_leaves p lent) (search_answer p lent).value

    -- each tree of first moves wins, and the bytes that were left describe it
    first_wins : (t : Tree) → FirstMoves net t (start net) → Wins net t
    first_wins t f =
        let can = (consistent_exactly net is_net).0 ((fine_exactly p lent wf room).0 none) in first→sound net t (start net) f can

    bytes_are : (t : Tree) → FirstMoves net t (start net) → bytes ≡ tree_bytes net t
    bytes_are t f = front_is_tree p lent none ∙ sym (only_bytes p lent none t f)

    describes : (t : Tree) → FirstMoves net t (start net) → Describes net bytes t
    describes t f = record { shaped = wins→shaped net is_net t (start net) (first_wins t f); all_bytes = bytes_are t f }

    -- its nodes are counted
    counted : (t : Tree) → FirstMoves net t (start net) → length (preorder net t) ≡ (search_answer p lent).value
    counted t f =
        let long = tree_length net t in
        let as_many = nodes_in_order net t in
        let same = ap length (only_bytes p lent none t f) in
        let three_each = (answered_so p lent none).three_each in
        omega arith

    first_tree_lem : FirstMoves net (first_tree net) (start net)
    first_tree_lem = first_moves p lent none

    list_so : (calls : List Call) → EveryList the_run p bytes calls
    list_so calls =
        every_list_so p wf bytes (checker_yes p lent none) (first_tree net) (describes (first_tree net) first_tree_lem)
        (first_wins (first_tree net) first_tree_lem) calls describes

    two_lists_so : EveryTwoLists the_run p bytes
    two_lists_so =
        every_two_lists_so p wf bytes (checker_yes p lent none) (first_tree net) (describes (first_tree net) first_tree_lem)
        (first_wins (first_tree net) first_tree_lem)

  -- ---- what was handed back

  module _ (r : Result ℕ Refusal) (left : List ℕ) (by : SearchedBy planner p lent r left) where
    hopeless_so : Hopeless r ↔ (¬ DynamicallyConsistent net)
    hopeless_so =
        let said = says_refused_exactly p lent r by.answer refusal.Hopeless in
        let eleven = eleven_exactly p lent wf room in
        (λ e. eleven.0 (said.0 e), λ n. said.1 (eleven.1 n))

    no_fault : ¬ Hopeless r → search_fault p lent ≡ 0
    no_fault n =
        by_cases (consistent_decided net is_net) (fine_exactly p lent wf room).1 (λ none. absurd (n (hopeless_so.1 none)))

    nodes_fault : (n : ℕ) → r ≡ Ok n → search_fault p lent ≡ 0
    nodes_fault n e = (fine_exactly p lent wf room).1 ((says_nodes_exactly p lent r by.answer n).0 e).3

    -- the tree that the search made, by its number and its bytes
    made_is : (n : ℕ) (e : r ≡ Ok n) → bytes (nodes_fault n e) ≡ first_nodes left n
    made_is n e =
        let none = nodes_fault n e in
        let count = ((says_nodes_exactly p lent r by.answer n).0 e).0 in
        sym (ap (λ (bs : List ℕ). first_nodes bs n) by.buffer
        ∙ ap (first_nodes (search_leaves p lent)) (count ∙ sym (count_nodes p lent none)))

    gets_so :
        ¬ Hopeless r → (t : Tree) → FirstMoves net t (start net) →
        (r ≡ Ok (length (preorder net t))) × (left ≡ overwritten (tree_bytes net t) lent)
    gets_so h t f =
        let none = no_fault h in (
          (says_nodes_exactly p lent r by.answer (length (preorder net t))).1
              (counted none t f ∙ count_nodes p lent none, room, wf, (fine_exactly p lent wf room).0 none),
          by.buffer ∙ leaves_tree p lent none ∙ ap (λ (x : List ℕ). overwritten x lent) (sym (only_bytes p lent none t f)),
        )

    demand3_for : Demand3For the_run p lent r left
    demand3_for =
        record {
          hopeless_exactly = hopeless_so;
          nobody = λ e. no_policy net is_net ((theorems.hopeless_exactly net is_net).1 (hopeless_so.0 e));
          has_tree = λ h. (first_tree net, first_tree_lem (no_fault h));
          gets_tree = gets_so;
          always_answers = λ n e. run_said p (first_nodes left n);
          every_crew = λ n e crew.
              crew_so the_run p (first_nodes left n) crew (calls_follow p (first_nodes left n) empty_history crew.calls crew.answered)
              (subst (λ (bs : List ℕ). EveryList the_run p bs (calls_of the_run p (first_nodes left n) crew)) (made_is n e)
              (list_so (nodes_fault n e) (calls_of the_run p (first_nodes left n) crew)));
          every_two_crews = λ n e.
              two_crews_so the_run p (first_nodes left n) (subst (EveryTwoLists the_run p) (made_is n e) (two_lists_so (nodes_fault n e)));
        }

-- ---- The theorem

pub demand3 : Demand3 planner
demand3 p lent wf room =
    let (r, so) = search_said p lent in
    ((r, search_leaves p lent, record { answer = so; buffer = refl }), λ r left by. demand3_for p lent wf room r left by)
