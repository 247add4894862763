-- The six theorems on networks and those of cards 1 and 3, gathered. Read the statements against specs/; the proofs are cited, and only the
-- checker need believe them.
use mathlib.Core.Path.{◌≡◌}
use mathlib.Core.Logic.{◌↔◌}
use mathlib.Core.List.{List}
use mathlib.Core.Bool.{true, false}
use Prim.Native.Nat.{ℕ, suc, ◌*◌, ◌≤◌, ◌<◌}
use Rattle.network.specs.Mask.{bit}
use Rattle.network.specs.Network.{Constraint, Network, Scenario, Schedule, combined, holds, satisfies, keeps}
use Rattle.network.specs.LabelTest.{Holds, LabelTest}
use Rattle.network.specs.TestLabel.{label_test}
use Rattle.network.specs.IsNetwork.{Each, InNetwork, IsNetwork}
use Rattle.network.specs.Strategy.{Viable, Dynamic, DynamicallyConsistent}
use Rattle.network.specs.Game.{State, start, Move, Legal, outcomes, after, Over, kept, Kept}
use Rattle.network.specs.SoFar.{performed_at, known_at, keeps_so_far_at}
use Rattle.network.specs.Tree.{Tree, Sound, Shaped, strategy_of}
use Rattle.network.specs.Walks.{Wins, SameTree, Follows, AtEnd, state_after}
use Rattle.network.specs.Sizes.{nodes, room}
use Rattle.network.specs.FirstMoves.{CanBeWon, FirstMoves}
use Rattle.network.specs.Search.{first_tree, hopeless}
use Rattle.network.specs.Policy.{Policy, SucceedsAlways}
use Rattle.network.specs.Crew.{Step, times_performed, slot_by_steps, value_by_steps, HeardAlike, ToldAlike}
use Rattle.network.specs.RunningSet.{LegalPath, RunningSet}
use Rattle.network.proofs.NetworkLaws as network
use Rattle.network.proofs.LabelTestLaws as label
use Rattle.network.proofs.SoFarLaws as so_far
use Rattle.network.proofs.TreeStrategy as tree
use Rattle.network.proofs.FirstLaws as first
use Rattle.network.proofs.SizeLaws as size
use Rattle.network.proofs.PolicyLaws as policy
use Rattle.network.proofs.GameLaws as game
use Rattle.network.proofs.CrewLaws as crew
use Rattle.network.proofs.StepsLaws as steps
use Rattle.network.proofs.RunningSetLaws as running

-- Card 1. The label test by the letters known so far: fails, holds and open exactly where the card says so, never open with all letters of
-- the label known.
pub label_test_lem : LabelTest label_test
label_test_lem = label.label_test_lem

module _ (net : Network) (wf : IsNetwork net) where
  -- Before the theorems: the label test and `keeps`, in document 01's words. A label holds when each letter in "need" has the value that
  -- "true" shows; the constraints are kept when each one whose label holds is satisfied.
  pub label_holds_exactly :
      (s : Scenario) (c : Constraint) → InNetwork net c →
      (holds s c.label ≡ true) ↔ ((l : ℕ) → bit c.label.need l ≡ true → s l ≡ bit c.label.truth l)
  label_holds_exactly = network.holds_exactly net wf

  pub keeps_exactly :
      (ψ : Schedule) (s : Scenario) →
      (keeps net ψ s ≡ true) ↔ Each (λ c. holds s c.label ≡ true → satisfies ψ c ≡ true) net.constraints
  keeps_exactly = network.keeps_is net

  -- Card 1, at a state of the game. The letters known are those whose points are performed. Every constraint is kept so far exactly where
  -- each one is satisfied whose label holds by the letters known and whose points are performed. A state in which one is not kept so far is
  -- lost. Where no point is left, what is kept so far is kept.
  pub performed_exactly : (s : State) (x : ℕ) → (bit (performed_at net s) x ≡ true) ↔ ((x < net.points) × (bit s.left x ≡ false))
  performed_exactly = so_far.performed_exactly net

  pub known_exactly :
      (s : State) (l : ℕ) → (bit (known_at net s) l ≡ true) ↔ ((l < net.letters) × (bit (performed_at net s) (net.disclosing l) ≡ true))
  known_exactly s = so_far.known_exactly net s wf

  pub so_far_at_exactly :
      (s : State) →
      (keeps_so_far_at net s ≡ true)
      ↔ Each
      (λ c. label_test (known_at net s) (combined net s.heard s.decided) c.label ≡ Holds → bit (performed_at net s) c.from ≡ true →
      bit (performed_at net s) c.to ≡ true → satisfies s.slots c ≡ true)
      net.constraints
  so_far_at_exactly s = so_far.so_far_exactly net _ _ _ _

  pub broken_lost : (s : State) → keeps_so_far_at net s ≡ false → ¬ CanBeWon net s
  broken_lost = so_far.broken_lost net wf

  pub over_keeps : (s : State) → Over net s → keeps_so_far_at net s ≡ kept net s
  over_keeps = so_far.over_keeps net wf

  -- Theorem 1. A tree sound in shape describes a dynamic strategy, which is viable exactly where every path of the tree keeps every
  -- constraint whose label holds on it.
  pub tree_dynamic : (t : Tree) → Shaped net t → Dynamic net (strategy_of net t)
  tree_dynamic t sd = tree.dynamic net wf (λ s. Unit {0}) t sd

  pub tree_viable_exactly : (t : Tree) → Shaped net t → Viable net (strategy_of net t) ↔ Wins net t
  tree_viable_exactly = tree.viable_exactly net wf

  -- Theorem 2. A dynamic and viable strategy exists exactly where the agent wins the game from the start.
  pub consistent_exactly : DynamicallyConsistent net ↔ CanBeWon net (start net)
  consistent_exactly = first.consistent_exactly net wf

  -- Theorem 3. Hopeless, as computed, is exactly that no dynamic and viable strategy exists. Otherwise the computed tree wins, is a tree
  -- of first moves (so that no earlier move at any of its nodes can be won), and there is no other.
  pub hopeless_exactly : (hopeless net ≡ true) ↔ (¬ DynamicallyConsistent net)
  hopeless_exactly = first.hopeless_exactly net wf

  -- .. which is decided, so "no strategy exists" loses nothing
  pub consistent_decided : Dec (DynamicallyConsistent net)
  consistent_decided = first.decided net wf

  pub first_tree_first : hopeless net ≡ false → FirstMoves net (first_tree net) (start net)
  first_tree_first = first.tree_of_first_moves net

  pub first_tree_wins : hopeless net ≡ false → Wins net (first_tree net)
  first_tree_wins e = first.first→sound net (first_tree net) (start net) (first_tree_first e) ((first.won_exactly net).0 e)

  pub first_tree_only : hopeless net ≡ false → (t : Tree) → FirstMoves net t (start net) → SameTree net (first_tree net) t
  first_tree_only e t f = first.first_unique net (first_tree net) t (start net) (first_tree_first e) f

  -- Theorem 4. A sound tree has fewer nodes than its state has room. After a legal move, one node and the subtrees of all outcomes still
  -- fit. With at most 8 points and 6 letters, each with a point of its own, a tree has at most 191 nodes.
  pub nodes_fit : (t : Tree) (E : State → Type 0) (s : State) → Sound net E t s → nodes net t < room net s
  nodes_fit = size.nodes_fit net wf

  pub room_step :
      (s : State) (m : Move) (o : ℕ) → Legal net s m → (x : ℕ) → x < room net (after net s m o) →
      suc (outcomes net m * x) < room net s
  room_step = size.room_step net wf

  pub at_most_191 : (t : Tree) → Shaped net t → net.points ≤ 8 → net.letters ≤ 6 → nodes net t ≤ 191
  at_most_191 t sd hp hl = size.at_most_191 net wf t (λ s. Unit {0}) sd hp hl

  -- Theorem 5. No policy performs each point exactly once within the horizon and keeps every relevant constraint, whichever outcomes
  -- come, where the network is hopeless; and a tree that wins gives such a policy.
  pub no_policy : hopeless net ≡ true → (π : Policy) → ¬ SucceedsAlways net π
  no_policy t π win = hopeless_exactly.0 t ((policy.policy_exactly net wf).0 (π, win))

  pub winning_policy : (t : Tree) → Wins net t → (π : Policy) × SucceedsAlways net π
  winning_policy t w = (policy.policy_exactly net wf).1 (tree.wins→consistent net wf t w)

  -- Card 3. Any two running sets of the points performed agree on every legal path. The steps that lead down to a node of a tree that is sound
  -- in shape are a legal path, so that a running set speaks of each node.
  pub one_running_set :
      (v w : List Step → ℕ) → RunningSet net v → RunningSet net w → (path : List Step) → LegalPath net (start net) path → v path ≡ w path
  one_running_set = running.one_running_set net

  pub legal_above : (t : Tree) → Shaped net t → (path : List Step) → Follows net t path → LegalPath net (start net) path
  legal_above t sd path fo = running.follows_legal net (λ s. Unit {0}) t (start net) path sd fo

  -- Theorem 6, before it: a crew at the end of a tree that wins has performed every point and kept every relevant constraint.
  pub crew_at_end :
      (t : Tree) → Wins net t → (log : List Step) → Follows net t log → AtEnd t log →
      Over net (state_after net (start net) log) × Kept net (state_after net (start net) log)
  crew_at_end t w log fo en = crew.run_ends net wf (Kept net) t (start net) log w fo en

  -- .. and the same of its steps alone: each point was performed exactly once, within the horizon, and every relevant constraint was kept.
  pub crew_kept :
      (t : Tree) → Wins net t → (log : List Step) → Follows net t log → AtEnd t log →
      ((x : ℕ) → x < net.points → (times_performed log x ≡ 1) × (slot_by_steps log x ≤ net.horizon))
      × (keeps net (slot_by_steps log) (value_by_steps net log) ≡ true)
  crew_kept t w log fo en = (
    λ x lt. let left = game.all_left net x lt in (
      steps.once net wf (Kept net) t (start net) log x w fo en lt left,
      (steps.slot_is net wf (Kept net) t (start net) log x w fo en lt left).1,
    ),
    steps.steps_kept net wf t w log fo en,
  )

  -- Theorem 6. Two crews on one tree that heard alike before a slot, both at the end, were told alike in it.
  pub heard_alike_told_alike :
      (t : Tree) → Shaped net t → (log log' : List Step) → Follows net t log → Follows net t log' → AtEnd t log → AtEnd t log' →
      (u : ℕ) → HeardAlike net log log' u → ToldAlike log log' u
  heard_alike_told_alike t sd log log' fo fo' en en' u ha = crew.alike net wf (λ s. Unit {0}) t (start net) log log' u sd fo fo' en en' ha
