-- Definitions: the conditions that points disclose, and the letters of either kind, as masks of the six letters that a plan record has room
-- for. Not to be believed: only theorems and inner contracts use it.
use Rattle.std.specs.Prelude.{◌&&◌, ℕ, ltb}
use Rattle.network.specs.Mask.{bit, mask}
use Rattle.network.specs.Network.{condition_at}
use Rattle.plan.specs.declared.Plan.{Plan}
use Rattle.plan.specs.Plan.{network_of}

-- the conditions that these points disclose, heard after a move
abbrev pub heard_by : Plan → ℕ → ℕ
heard_by p points = mask 6 (condition_at (network_of p) points)

-- the letters of either kind that these points disclose, known once they are performed
abbrev pub known_by : Plan → ℕ → ℕ
known_by p points = mask 6 (λ l. ltb l p.letters && bit points ((network_of p).disclosing l))
