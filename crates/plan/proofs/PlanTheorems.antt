-- Theorems on well-formed plans: the network of one meets every premise of the theorems on networks. Read the statements; only the checker
-- need believe the proofs.
use Prim.Native.Nat.{◌≤◌}
use Rattle.network.specs.IsNetwork.{IsNetwork}
use Rattle.network.specs.Tree.{Tree, Shaped}
use Rattle.network.specs.Sizes.{nodes}
use Rattle.network.proofs.Theorems as theorems
use Rattle.plan.specs.declared.Plan.{Plan}
use Rattle.plan.specs.Plan.{network_of}
use Rattle.plan.specs.WellFormed.{WellFormed}
use Rattle.plan.proofs.PlanLaws.{network_of_well_formed}

module _ (p : Plan) (wf : WellFormed p) where
  -- the premise of theorems 1 to 6
  pub is_network : IsNetwork (network_of p)
  is_network = network_of_well_formed p wf

  -- theorem 4 with the numbers of document 01
  pub at_most_191 : (t : Tree) → Shaped (network_of p) t → nodes (network_of p) t ≤ 191
  at_most_191 t sd = theorems.at_most_191 (network_of p) is_network t sd wf.head.points wf.head.letters
