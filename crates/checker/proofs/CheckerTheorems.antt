-- Theorems on the checker (demand 2, second half). Read the statements; only the checker need believe the proofs.
use mathlib.Core.Path.{◌≡◌, sym, ap, ◌∙◌}
use mathlib.Core.Logic.{◌↔◌, ◌⊎◌, inl, inr, ⊎_elim}
use mathlib.Core.Bool.{true}
use mathlib.Core.List.{List, [], ◌++◌}
use Prim.Native.Nat.{ℕ, ◌≤◌}
use native.Mathlib.Omega.{arith}
use lib.Dec.{eqb}
use lib.ListN.{length}
use Rattle.std.specs.Prelude.{Result, Ok}
use Rattle.network.specs.Network.{Network}
use Rattle.network.specs.Strategy.{ConditionScenario, Viable, Dynamic}
use Rattle.network.specs.Game.{start, Over, Kept}
use Rattle.network.specs.Tree.{Tree, play, strategy_of}
use Rattle.network.specs.Walks.{Wins, SameTree}
use Rattle.network.proofs.Booleans.{by_test, eqb_is, eqb_no}
use Rattle.network.proofs.PathLaws.{same_strategy, ends, ends_over}
use Rattle.network.proofs.Theorems.{tree_dynamic, tree_viable_exactly}
use Rattle.plan.specs.declared.Plan.{Plan}
use Rattle.plan.specs.declared.Refusal.{Refusal}
use Rattle.plan.specs.declared.Refusal.TheVariants as refusal
use Rattle.plan.specs.Refusal.{refusal_number, judged_number}
use Rattle.plan.specs.Faults.{first}
use Rattle.plan.specs.Plan.{network_of}
use Rattle.plan.specs.WellFormed.{WellFormed}
use Rattle.plan.proofs.PlanTheorems.{is_network}
use Rattle.plan.proofs.RefusalLaws.{fine_is}
use Rattle.judge.specs.Judge.{plan_fault}
use Rattle.judge.proofs.WellFormedLaws.{fine_exactly}
use Rattle.tree.specs.Nodes.{most_bytes, legal_length}
use Rattle.tree.specs.Trees.{Describes}
use Rattle.tree.proofs.NodeLaws.{legal_is}
use Rattle.tree.proofs.TreeLaws.{unique}
use Rattle.checker.specs.Checker.{check_fault}
use Rattle.checker.proofs.FaultLaws.{WellFormedBytes, described_legal, yes_or_seven, by_answer}

module _ (p : Plan) (wf : WellFormed p) (bs : List ℕ) where
  abbrev net : Network
  net = network_of p

  -- Yes exactly where the bytes are well formed and the strategy that they describe is dynamic and viable (Definitions 6 to 9).
  pub yes_exactly :
      (check_fault p bs ≡ 0)
      ↔ ((t : Tree) × Describes net bs t × Dynamic net (strategy_of net t) × Viable net (strategy_of net t))
  yes_exactly = (
    λ e. by_answer p wf bs
        (λ t d f v. (t, d, tree_dynamic net (is_network p wf) t d.shaped, v))
        (λ t d f n. absurd (omega arith))
        (λ f. absurd (omega arith)),
    λ h. ⊎_elim (λ f. f.0) (λ f. absurd (f.1 h.3)) (yes_or_seven p wf bs h.0 h.1),
  )

  -- 6 exactly where they are not well formed
  pub six_exactly : (check_fault p bs ≡ refusal_number refusal.Shape) ↔ (¬ WellFormedBytes net bs)
  six_exactly = (
    λ e w. ⊎_elim
        (λ f. let none = f.0 in omega arith)
        (λ f. let seven = f.0 in omega arith)
        (yes_or_seven p wf bs w.tree w.described),
    λ n. by_answer p wf bs
        (λ t d f v. absurd (n (record { tree = t; described = d })))
        (λ t d f v. absurd (n (record { tree = t; described = d })))
        (λ f. f),
  )

  -- 7 exactly where they are, and the strategy is not viable (it is dynamic all the same)
  pub seven_exactly :
      (check_fault p bs ≡ refusal_number refusal.Broken) ↔ ((t : Tree) × Describes net bs t × (¬ Viable net (strategy_of net t)))
  seven_exactly = (
    λ e. by_answer p wf bs (λ t d f v. absurd (omega arith)) (λ t d f n. (t, d, n)) (λ f. absurd (omega arith)),
    λ h. ⊎_elim (λ f. absurd (h.2 f.1)) (λ f. f.0) (yes_or_seven p wf bs h.0 h.1),
  )

  -- one of the three is said
  pub yes_six_or_seven :
      (check_fault p bs ≡ 0) ⊎ ((check_fault p bs ≡ refusal_number refusal.Shape) ⊎ (check_fault p bs ≡ refusal_number refusal.Broken))
  yes_six_or_seven = by_answer p wf bs (λ t d f v. inl f) (λ t d f n. inr (inr f)) (λ f. inr (inl f))

  -- At most one tree has given bytes, so that they describe one strategy.
  pub one_tree : (t t' : Tree) → Describes net bs t → Describes net bs t' → SameTree net t t'
  one_tree t t' d d' =
      (unique net _ _ t t' (start net) [] [] d.shaped d'.shaped
      (ap (λ (x : List ℕ). x ++ []) (sym d.all_bytes ∙ d'.all_bytes))).0

  pub one_strategy : (t t' : Tree) → Describes net bs t → Describes net bs t' → strategy_of net t ≡ strategy_of net t'
  one_strategy t t' d d' = same_strategy net (is_network p wf) t t' (one_tree t t' d d')

  -- Every path of an accepted tree ends where no point is left, and keeps every relevant constraint. A path goes on behind each outcome of
  -- each node: those of a last node that hears conditions are all tried, though it has no child.
  pub accepted_wins : check_fault p bs ≡ 0 → (t : Tree) → Describes net bs t → Wins net t
  accepted_wins e t d =
      (tree_viable_exactly net (is_network p wf) t d.shaped).0
      (⊎_elim (λ f. f.1) (λ f. let seven = f.0 in absurd (omega arith)) (yes_or_seven p wf bs t d))

  -- .. so each setting of the conditions walks a path to its end, and keeps them
  pub every_path_kept :
      check_fault p bs ≡ 0 → (t : Tree) → Describes net bs t → (cs : ℕ) → ConditionScenario net cs →
      Over net (play net t (start net) cs) × Kept net (play net t (start net) cs)
  every_path_kept e t d cs c =
      let is_net = is_network p wf in
      let wins = accepted_wins e t d in
      (ends_over net is_net (Kept net) t (start net) cs wins, ends net is_net (Kept net) t (start net) cs wins)

  -- well-formed bytes are a multiple of 3 from 3 to 573, so no accepted byte string is longer
  pub legal_bytes : WellFormedBytes net bs → legal_length (length bs) ≡ true
  legal_bytes w = described_legal p wf bs w.tree w.described

  pub at_most_573 : WellFormedBytes net bs → length bs ≤ most_bytes
  at_most_573 w = let legal = legal_is (length bs) (legal_bytes w) in let most = legal.most in let threes = legal.threes in omega arith

-- Of every plan record, and of what the call hands back: yes exactly for a well-formed plan and such bytes; the plan's fault comes first.
pub checked_yes_exactly :
    (p : Plan) (bs : List ℕ) (r : Result (Unit {0}) Refusal) → judged_number r ≡ check_fault p bs →
    (r ≡ Ok tt)
    ↔ (WellFormed p × ((t : Tree) × Describes (network_of p) bs t × Dynamic (network_of p) (strategy_of (network_of p) t)
    × Viable (network_of p) (strategy_of (network_of p) t)))
unfolding check_fault first
checked_yes_exactly p bs r e = (
  λ f. let none : check_fault p bs ≡ 0 = sym e ∙ ap judged_number f in
      let wf = (fine_exactly p).0 (by_test (eqb (plan_fault p) 0) (eqb_is (plan_fault p) 0) (λ z. rw z at none)) in
      (wf, (yes_exactly p wf bs).0 none),
  λ h. fine_is r (e ∙ (yes_exactly p h.0 bs).1 h.1),
)

pub plan_first : (p : Plan) (bs : List ℕ) → ¬ WellFormed p → check_fault p bs ≡ plan_fault p
unfolding check_fault first
plan_first p bs n = rw (eqb_no (plan_fault p) 0 (λ e. n ((fine_exactly p).0 e)))
