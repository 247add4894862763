-- The proof of `agent` and `world`, which call each other with fewer points left. Only the checker need believe this file.
use mathlib.Core.Path.{◌≡◌}
use Prim.Native.Nat.{◌+◌, ◌*◌}
use lib.ListN.{length}
use Rattle.network.specs.Mask.{bit, count}
use Rattle.moves.proofs.OrderLaws.{moves_ahead}
use Rattle.turns.proofs.PlaceLaws.{Trying, Answering}
use Rattle.turns.proofs.+agent_world.Given as goal

abbrev pub invariant-agent-loop-step : goal.invariant-agent-loop-step
invariant-agent-loop-step l =
    (length l.buf ≡ length l.initial.buf) × Trying l.plan l.at l.soonest l.initial.buf l.buf l.step

abbrev pub decreases-agent-loop-step : goal.decreases-agent-loop-step
decreases-agent-loop-step l = moves_ahead l.step

abbrev pub invariant-world-loop-k : goal.invariant-world-loop-k
invariant-world-loop-k l =
    (length l.buf ≡ length l.initial.buf) × Answering l.plan l.at l.v l.initial.buf l.buf l.count l.k

-- twice the points left, and one more where the agent moves
abbrev pub decreases-agent : goal.decreases-agent
decreases-agent l = 2 * count 8 (bit l.at.left) + 1

abbrev pub decreases-world : goal.decreases-world
decreases-world l = 2 * count 8 (bit l.at.left)
