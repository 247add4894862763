-- Definitions: what Definition 2 of the paper asks of a network's parts; the network of a well-formed plan has it (`is_network` of
-- plan/proofs/PlanTheorems.antt). Not to be believed: only theorems and inner contracts use it.
use Rattle.std.specs.Prelude.{◌≡◌, true, List, [], ◌∷◌, ℕ, ◌≤◌, ◌<◌}
use Rattle.network.specs.Mask.{bit}
use Rattle.network.specs.Network.{Constraint, Network}

-- P of each member
unfoldable pub Each : {A : Type 0} → (A → Type 0) → List A → Type 0
Each P [] = Unit {0}
Each P (x ∷ xs) = P x × Each P xs

-- X, Y ∈ T and the label is over P
pub record InNetwork (net : Network) (c : Constraint) : Type 0 where
  pub from_point : c.from < net.points
  pub to_point : c.to < net.points
  pub over_letters : (l : ℕ) → bit c.label.need l ≡ true → l < net.letters

-- What Definition 2 asks of the parts: O is one to one from P into T, and the constraints are over T and P. Masks are bytes, so P has at
-- most eight letters.
pub record IsNetwork (net : Network) : Type 0 where
  pub letters_in_a_byte : net.letters ≤ 8
  pub disclosed : (l : ℕ) → l < net.letters → net.disclosing l < net.points
  pub own : (l k : ℕ) → l < net.letters → k < net.letters → net.disclosing l ≡ net.disclosing k → l ≡ k
  pub in_network : Each (InNetwork net) net.constraints
