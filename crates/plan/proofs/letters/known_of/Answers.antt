-- `known_of`: the machine's "or" joins the two kinds. Only the checker need believe this file.
use mathlib.Core.Path.{◌≡◌, refl, ◌∙◌}
use mathlib.Core.Bool.{Bool, true, false, not, ◌&&◌, ◌||◌}
use Prim.Native.Nat.{ℕ}
use lib.Dec.{ltb}
use lib.Bits.{bit_or, or_lt}
use Rattle.network.specs.Mask.{bit}
use Rattle.network.specs.Network.{Network, condition_at, decision_at}
use Rattle.network.proofs.MaskLaws.{bit_mask, mask_lt, mask_is}
use Rattle.network.proofs.MachineLaws.{bit_or_lem}
use Rattle.plan.specs.declared.Plan.{Plan}
use Rattle.plan.specs.Plan.{network_of}
use Rattle.plan.specs.Letters.{heard_by, known_by}
use Rattle.plan.specs.Settled.{settled_by}
use Rattle.plan.proofs.letters.known_of.Goals as goal

either : (used chosen here : Bool) → (((used && not chosen) && here) || ((used && chosen) && here)) ≡ (used && here)
either true true true = refl
either true true false = refl
either true false true = refl
either true false false = refl
either false chosen here = refl

joined : (p : Plan) (points : ℕ) → bit_or (heard_by p points) (settled_by p points) ≡ known_by p points
joined p points =
    let net : Network = network_of p in
    mask_is 6 (bit_or (heard_by p points) (settled_by p points)) _
    (or_lt 6 (heard_by p points) (settled_by p points) (mask_lt 6 (condition_at net points)) (mask_lt 6 (decision_at net points)))
    (λ l lt. bit_or_lem (heard_by p points) (settled_by p points) l
    ∙ rw (bit_mask 6 (condition_at net points) l lt, bit_mask 6 (decision_at net points) l lt)
    (either (ltb l p.letters) (net.is_decision l) (bit points (net.disclosing l))))

pub returns : goal.returns
returns c p few same =
    rw (c.disclosed_of_kind.ensures p few same, c.disclosed_of_kind-2.ensures p few same) (joined p c.args.points)
