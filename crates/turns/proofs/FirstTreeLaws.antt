-- Laws of the tree of first moves from a state: at the end, behind the first winning move, and how many nodes it has. Only the checker need
-- believe this file.
use mathlib.Core.Path.{◌≡◌, refl, ap, ◌∙◌}
use mathlib.Core.Logic.{◌⊎◌, inl, inr, ⊎_elim}
use mathlib.Core.Bool.{true, false}
use mathlib.Core.List.{[]}
use Prim.Native.Nat.{ℕ, zero, suc, ◌≤◌}
use native.Mathlib.Omega.{arith}
use Rattle.network.specs.Network.{Network}
use Rattle.network.specs.IsNetwork.{IsNetwork}
use Rattle.network.specs.Game.{State, start, Move, after, Over, kept, Kept}
use Rattle.network.specs.Tree.{Tree, done, node, Sound}
use Rattle.network.specs.Sizes.{nodes, points_left}
use Rattle.network.specs.FirstMoves.{CanBeWon, Winning, Before, FirstMoves}
use Rattle.network.specs.Walks.{SameTree}
use Rattle.network.specs.Search.{over, winnable, first_tree_from, first_tree}
use Rattle.network.proofs.BelowLaws.{count_full}
use Rattle.network.proofs.Booleans.{clash}
use Rattle.network.proofs.SubmaskLaws.{count_wide}
use Rattle.network.proofs.GameLaws.{Inside, not_over, after_inside}
use Rattle.network.proofs.SearchLaws.{over_is}
use Rattle.network.proofs.FirstLaws.{winnable_exactly, found→sound, found→first, first_unique}
use Rattle.network.proofs.SizeLaws.{nodes_fit}
use Rattle.tree.specs.Trees.{tree_bytes}
use Rattle.tree.proofs.TreeLaws.{done_bytes}
use Rattle.turns.specs.Turns.{most, first_tree_at}

module _ (net : Network) where
  -- ---- a state from which the game can be won

  module _ (s : State) (in-s : Inside net s) (w : CanBeWon net s) where
    found : winnable net (points_left net s) s ≡ true
    found = (winnable_exactly net (points_left net s) s in-s (omega arith)).1 w

    pub first_sound : Sound net (Kept net) (first_tree_at net s) s
    first_sound = found→sound net (points_left net s) s found

    pub first_first : FirstMoves net (first_tree_at net s) s
    first_first = found→first net (points_left net s) s in-s (omega arith) found

    pub first_fits : IsNetwork net → nodes net (first_tree_at net s) ≤ most net s
    first_fits wf = let f = nodes_fit net wf (first_tree_at net s) (Kept net) s first_sound in omega arith

  -- it ends there and every relevant constraint is kept, or some move wins
  won_by : (s : State) → CanBeWon net s → (Over net s × Kept net s) ⊎ ((m : Move) × Winning net s m)
  unfolding Sound
  won_by s w = go w.tree w.sound
    where
      go : (t : Tree) → Sound net (Kept net) t s → (Over net s × Kept net s) ⊎ ((m : Move) × Winning net s m)
      go done sd = inl sd
      go (node m next) sd =
          inr (m, record { legal = sd.0; answered = λ o ok. record { tree = next o; sound = sd.1 o ok } })

  -- ---- no point is left

  module _ (s : State) (end : over net s ≡ true) where
    no_moves : (n : ℕ) → first_tree_from net n s ≡ done
    unfolding first_tree_from
    no_moves zero = refl
    no_moves (suc n) = rw end

    pub end_bytes : tree_bytes net (first_tree_at net s) ≡ []
    end_bytes = rw (no_moves (points_left net s)) (done_bytes net)

    pub end_nodes : nodes net (first_tree_at net s) ≡ 0
    unfolding nodes
    end_nodes = rw (no_moves (points_left net s))

    pub end_won : kept net s ≡ true → CanBeWon net s
    unfolding Sound
    end_won k = record { tree = done; sound = ((over_is net s).0 end, k) }

    pub end_lost : kept net s ≡ false → ¬ CanBeWon net s
    end_lost z w = ⊎_elim (λ e. clash e.1 z) (λ m. not_over net s m.0 m.1.legal ((over_is net s).0 end)) (won_by s w)

  -- ---- a point is left

  -- where no move wins, the game cannot be won
  pub none_wins : (s : State) → over net s ≡ false → ((k : Move) → ¬ Winning net s k) → ¬ CanBeWon net s
  none_wins s on none w = ⊎_elim (λ e. clash ((over_is net s).1 e.0) on) (λ m. none m.0 m.1) (won_by s w)

  -- the first winning move, and behind it the tree of first moves of each outcome
  module _ (s : State) (in-s : Inside net s) (m : Move) (wins : Winning net s m) (least : (k : Move) → Winning net s k → ¬ Before k m) where
    pub wins_won : CanBeWon net s
    unfolding Sound
    wins_won =
        record {
          tree = node m (λ o. first_tree_at net (after net s m o));
          sound = (wins.legal, λ o ok. first_sound (after net s m o) (after_inside net s m o) (wins.answered o ok));
        }

    pub same_tree : SameTree net (first_tree_at net s) (node m (λ o. first_tree_at net (after net s m o)))
    unfolding FirstMoves
    same_tree =
        first_unique net (first_tree_at net s) (node m (λ o. first_tree_at net (after net s m o))) s (first_first s in-s wins_won)
        (wins, least, λ o ok. first_first (after net s m o) (after_inside net s m o) (wins.answered o ok))

  -- ---- the start

  pub start_tree : first_tree_at net (start net) ≡ first_tree net
  unfolding start
  start_tree =
      ap (λ (n : ℕ). first_tree_from net n (start net))
      (count_wide net.points net.points (λ x. true) (omega arith) ∙ count_full net.points)
