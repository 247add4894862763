-- Definitions: the search: whether the game can be won, the first winning move, the tree of first moves, "hopeless". `first_tree_first` of
-- proofs/Theorems.antt says of the tree what `hopeless_exactly` says of hopeless. Computed: pinned by `hopeless_exactly` of
-- network/proofs/Theorems.antt.
use Rattle.std.specs.Prelude.{Bool, not, cond, ◌&&◌, ℕ, zero, suc, ◌+◌, ◌-◌, ◌^◌}
use Rattle.network.specs.Mask.{bit, all_below, first_below, count, submask}
use Rattle.network.specs.Below.{any_below}
use Rattle.network.specs.Network.{Network}
use Rattle.network.specs.Game.{State, start, Move, settles, outcomes, outcome_at, after, kept}
use Rattle.network.specs.Tree.{Tree, done, node}

unfoldable pub over : Network → State → Bool
over net s = all_below net.points (λ x. not (bit s.left x))

-- The legal moves, numbered: slot i after the first open one, number j of the sets of points left (0 is the empty one), number k of the
-- sets of decisions that those points disclose.
abbrev pub slot_at : State → ℕ → ℕ
slot_at s i = s.open_from + i

abbrev pub points_at : Network → State → ℕ → ℕ
points_at net s j = submask net.points (bit s.left) (suc j)

abbrev pub bare : ℕ → ℕ → Move
bare t ps = record { slot = t; points = ps; choices = 0 }

abbrev pub choices_at : Network → ℕ → ℕ → ℕ → ℕ
choices_at net t ps k = submask net.letters (settles net (bare t ps)) k

abbrev pub move_at : Network → State → ℕ → ℕ → ℕ → Move
move_at net s i j k =
    record { slot = slot_at s i; points = points_at net s j; choices = choices_at net (slot_at s i) (points_at net s j) k }

-- how many there are of each
abbrev pub slot_count : Network → State → ℕ
slot_count net s = suc net.horizon - s.open_from

abbrev pub points_count : Network → State → ℕ
points_count net s = 2 ^ count net.points (bit s.left) - 1

abbrev pub choices_count : Network → ℕ → ℕ → ℕ
choices_count net t ps = 2 ^ count net.letters (settles net (bare t ps))

-- W says from which states the agent wins: from each outcome of the move
unfoldable pub wins_by : Network → (State → Bool) → State → Move → Bool
wins_by net W s m = all_below (outcomes net m) (λ k. W (after net s m (outcome_at net m k)))

-- some move wins that has the slot number i and the points number j; that has the slot number i
unfoldable pub wins_with : Network → (State → Bool) → State → ℕ → ℕ → Bool
wins_with net W s i j = any_below (choices_count net (slot_at s i) (points_at net s j)) (λ k. wins_by net W s (move_at net s i j k))

unfoldable pub wins_in : Network → (State → Bool) → State → ℕ → Bool
wins_in net W s i = any_below (points_count net s) (wins_with net W s i)

-- the agent wins from s within n moves
unfoldable pub winnable : Network → ℕ → State → Bool
winnable net zero s = over net s && kept net s
winnable net (suc n) s =
    let end = kept net s in
    let on = any_below (slot_count net s) (wins_in net (winnable net n) s) in
    cond (over net s) end on

-- the first winning move
unfoldable pub first_move : Network → (State → Bool) → State → Move
first_move net W s =
    let i = first_below (slot_count net s) (wins_in net W s) in
    let j = first_below (points_count net s) (wins_with net W s i) in
    move_at net s i j (first_below (choices_count net (slot_at s i) (points_at net s j)) (λ k. wins_by net W s (move_at net s i j k)))

-- the tree of first moves from a state that is won within n moves
unfoldable pub first_tree_from : Network → ℕ → State → Tree
first_tree_from net zero s = done
first_tree_from net (suc n) s =
    let m = first_move net (winnable net n) s in
    let on = node m (λ o. first_tree_from net n (after net s m o)) in
    cond (over net s) done on

abbrev pub first_tree : Network → Tree
first_tree net = first_tree_from net net.points (start net)

-- hopeless (document 01's term): the game cannot be won. Each move performs a point, so there are at most as many moves as points.
abbrev pub hopeless : Network → Bool
hopeless net = not (winnable net net.points (start net))
