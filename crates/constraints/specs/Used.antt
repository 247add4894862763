-- Definitions: the constraints of a list as the network has them, in their order. The contracts of the calls speak of the plan alone.
-- Not to be believed: only theorems and inner contracts use it.
use Rattle.std.specs.Prelude.{List, map}
use Rattle.network.specs.Network as net
use Rattle.plan.specs.declared.Constraint.{Constraint}
use Rattle.plan.specs.Plan.{constraint_of}

abbrev pub constraints_of : List Constraint → List net.Constraint
constraints_of cs = map constraint_of cs
