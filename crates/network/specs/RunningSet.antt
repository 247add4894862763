-- Definitions: the set of points performed as a running value (card 3), in the card's words, of any such value. To be believed, for card 3
-- only.
use Rattle.std.specs.Prelude.{◌≡◌, ◌↔◌, true, false, List, [], ◌∷◌, ◌++◌, ℕ}
use Rattle.network.specs.Mask.{bit}
use Rattle.network.specs.Network.{Network}
use Rattle.network.specs.Game.{State, start, Legal, Outcome, after}
use Rattle.network.specs.Crew.{Step, Some}

-- a path down from a state: each step is a legal move with one of its outcomes
unfoldable pub LegalPath : Network → State → List Step → Type 0
LegalPath net s [] = Unit {0}
LegalPath net s (st ∷ path) =
    Legal net s st.instruction × Outcome net st.instruction st.report
    × LegalPath net (after net s st.instruction st.report) path

-- x is performed on the path
abbrev pub PerformedOn : List Step → ℕ → Type 0
PerformedOn path x = Some (λ st. bit st.instruction.points x ≡ true) path

-- A running value (card 3's term), by the path above the node that is reached: empty at the root; at each node exactly the points performed
-- on the path above; where the node's own move is legal, its points are not yet in it.
pub record RunningSet (net : Network) (value : List Step → ℕ) : Type 0 where
  pub root_empty : value [] ≡ 0
  pub exactly : (path : List Step) → LegalPath net (start net) path → (x : ℕ) → (bit (value path) x ≡ true) ↔ PerformedOn path x
  pub own_not_yet :
      (path : List Step) (st : Step) → LegalPath net (start net) (path ++ (st ∷ [])) → (x : ℕ) →
      bit st.instruction.points x ≡ true → bit (value path) x ≡ false
