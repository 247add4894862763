-- The invariant: where the crew stands leads to how far it comes in all. Only the checker need believe this file.
use Prim.Native.Nat.{◌*◌}
use lib.ListN.{drop}
use Rattle.following.specs.Calls.{begun, after_calls}
use Rattle.following.specs.ThisRun.{the_run}
use Rattle.following.specs.Following.{calls_in}
use Rattle.following.proofs.FollowLaws.{Stands}
use Rattle.following.proofs.follow.Given as goal

abbrev pub invariant-loop-bytes : goal.invariant-loop-bytes
invariant-loop-bytes l =
    Stands l.plan l.nodes (after_calls the_run l.plan l.nodes (begun l.initial.progress.history) (calls_in l.calls)) l.progress
    (drop (2 * l.bytes-index) l.calls)
