-- The invariant: where the walk stands leads to what is told. Only the checker need believe this file.
use Prim.Native.Nat.{◌≤◌}
use lib.ListN.{length, drop}
use Rattle.network.specs.Game.{start}
use Rattle.plan.specs.Plan.{network_of}
use Rattle.run.specs.Run.{told_from}
use Rattle.run.proofs.ToldFromLaws.{Walked}
use Rattle.run.proofs.walk.told.Given as goal

abbrev pub invariant-loop-mask : goal.invariant-loop-mask
invariant-loop-mask l =
    (length l.rest ≤ length l.nodes)
    × Walked l.plan (told_from l.plan (start (network_of l.plan)) l.nodes l.mask-items) l.at l.rest (drop l.mask-index l.mask-items)
