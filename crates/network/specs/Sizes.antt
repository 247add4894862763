-- Definitions: the number of nodes of a tree, and the room that a state leaves for one. Computed: pinned by `nodes_in_order` of
-- network/proofs/SizeLaws.antt.
use Rattle.std.specs.Prelude.{ℕ, suc, ◌+◌, ◌-◌, ◌*◌, ◌^◌}
use Rattle.network.specs.Mask.{bit, count}
use Rattle.network.specs.Below.{sum_below}
use Rattle.network.specs.Network.{Network, condition_at}
use Rattle.network.specs.Game.{State, outcomes, outcome_at}
use Rattle.network.specs.Tree.{Tree, done, node}

-- the number of nodes, which is the length of `preorder`: one, and those of the subtree of each outcome
unfoldable pub nodes : Network → Tree → ℕ
nodes net done = 0
nodes net (node m next) = suc (sum_below (outcomes net m) (λ k. nodes net (next (outcome_at net m k))))

-- The room that a state leaves: 2 ^ c * (d + 1), where c conditions are left to hear and d other points are left to perform. A sound tree
-- from there has fewer nodes.
abbrev pub points_left : Network → State → ℕ
points_left net s = count net.points (bit s.left)

abbrev pub conditions_left : Network → State → ℕ
conditions_left net s = count net.letters (condition_at net s.left)

unfoldable pub room : Network → State → ℕ
room net s = 2 ^ conditions_left net s * (points_left net s - conditions_left net s + 1)
