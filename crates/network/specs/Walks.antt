-- Definitions: steps that lead down a tree, trees that are the same, trees that win. Not to be believed: only theorems and inner contracts
-- use it.
use Rattle.std.specs.Prelude.{◌≡◌, List, [], ◌∷◌, ℕ}
use Rattle.network.specs.Network.{Network}
use Rattle.network.specs.Game.{State, Outcome, after, start, Kept}
use Rattle.network.specs.Tree.{Tree, done, node, Sound}
use Rattle.network.specs.Crew.{Step}

-- the steps lead down the tree: each follows the instruction at its node, and reports an outcome of it
unfoldable pub Follows : Network → Tree → List Step → Type 0
Follows net t [] = Unit {0}
Follows net done (st ∷ log) = ⊥
Follows net (node m next) (st ∷ log) = (st.instruction ≡ m) × Outcome net m st.report × Follows net (next st.report) log

-- they lead to the end: the last node of the path has been reported (document 01: done)
unfoldable pub AtEnd : Tree → List Step → Type 0
AtEnd done [] = Unit {0}
AtEnd done (st ∷ log) = ⊥
AtEnd (node m next) [] = ⊥
AtEnd (node m next) (st ∷ log) = AtEnd (next st.report) log

-- the state that they lead to
unfoldable pub state_after : Network → State → List Step → State
state_after net s [] = s
state_after net s (st ∷ log) = state_after net (after net s st.instruction st.report) log

-- two trees are the same: the same moves, and the same trees after each outcome
unfoldable pub SameTree : Network → Tree → Tree → Type 0
SameTree net done done = Unit {0}
SameTree net done (node m next) = ⊥
SameTree net (node m next) done = ⊥
SameTree net (node m next) (node m' next') = (m ≡ m') × ((o : ℕ) → Outcome net m o → SameTree net (next o) (next' o))

-- every path keeps every constraint whose label holds on it
abbrev pub Wins : Network → Tree → Type 0
Wins net t = Sound net (Kept net) t (start net)
