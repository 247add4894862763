-- Law of moves: one that may lead to a lost position wins nothing. Only the checker need believe this file.
use mathlib.Core.Path.{◌≡◌}
use Prim.Native.Nat.{ℕ}
use lib.ListN.{length}
use Rattle.network.specs.Game.{Legal, outcome_at}
use Rattle.network.specs.FirstMoves.{CanBeWon, Winning}
use Rattle.network.proofs.GameLaws.{outcome_at_is}
use Rattle.plan.specs.declared.Plan.{Plan}
use Rattle.plan.specs.Plan.{network_of}
use Rattle.plan.specs.WellFormed.{WellFormed}
use Rattle.tree.specs.declared.Node.{Node}
use Rattle.tree.specs.Parts.{move_of}
use Rattle.game.specs.declared.Position.{Position}
use Rattle.game.specs.Position.{state_of, Proper}
use Rattle.game.proofs.NextLaws.{next, next_is}

-- lost after one of its outcomes
pub move_wins_nothing :
    (p : Plan) → WellFormed p → (at : Position) → Proper p at → length at.slots ≡ 8 → (v : Node) →
    Legal (network_of p) (state_of p at) (move_of v) → (k : ℕ) →
    ¬ CanBeWon (network_of p) (state_of p (next p at v k)) → ¬ Winning (network_of p) (state_of p at) (move_of v)
move_wins_nothing p wf at ok long v lg k n w =
    n (rw (next_is p wf at ok v lg k long) (w.answered (outcome_at (network_of p) (move_of v) k) (outcome_at_is (network_of p) (move_of v) k)))
