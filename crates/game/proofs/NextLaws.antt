-- Laws of the positions that the outcomes of a legal move lead to, numbered as the code numbers them. Only the checker need believe this
-- file.
use mathlib.Core.Path.{◌≡◌, ap, ◌∙◌}
use Prim.Native.Nat.{ℕ, ◌<◌}
use lib.ListN.{length}
use Rattle.network.specs.Mask.{bit, count, submask}
use Rattle.network.specs.Game.{Legal, Outcome, outcome_at, after}
use Rattle.network.proofs.GameLaws.{outcome_at_is}
use Rattle.plan.specs.declared.Plan.{Plan}
use Rattle.plan.specs.Plan.{network_of}
use Rattle.plan.specs.Letters.{heard_by}
use Rattle.plan.specs.WellFormed.{WellFormed}
use Rattle.plan.proofs.OutcomeLaws.{numbered_is_outcome}
use Rattle.tree.specs.declared.Node.{Node}
use Rattle.tree.specs.Parts.{move_of}
use Rattle.game.specs.declared.Position.{Position}
use Rattle.game.specs.Carried.{position_after}
use Rattle.game.specs.Position.{state_of, Proper}
use Rattle.game.proofs.PositionLaws.{after_is, after_proper, fewer}

-- the position after outcome number k of a move
abbrev pub next : Plan → Position → Node → ℕ → Position
next p at v k = position_after at v (submask 8 (bit (heard_by p v.points)) k)

module _
    (p : Plan) (wf : WellFormed p) (at : Position) (ok : Proper p at) (v : Node) (lg : Legal (network_of p) (state_of p at) (move_of v))
    (k : ℕ) where
  pub outcome_is : Outcome (network_of p) (move_of v) (submask 8 (bit (heard_by p v.points)) k)
  outcome_is = rw (numbered_is_outcome p wf.head.letters (move_of v) k) (outcome_at_is (network_of p) (move_of v) k)

  unfoldable pub next_proper : Proper p (next p at v k)
  next_proper = after_proper p wf at v _ ok lg outcome_is

  pub next_fewer : count 8 (bit (next p at v k).left) < count 8 (bit at.left)
  next_fewer = fewer p wf at v (submask 8 (bit (heard_by p v.points)) k) ok lg

  pub next_is :
      length at.slots ≡ 8 → state_of p (next p at v k) ≡ after (network_of p) (state_of p at) (move_of v) (outcome_at (network_of p) (move_of v) k)
  next_is long =
      after_is p wf at v _ ok lg outcome_is long
      ∙ ap (after (network_of p) (state_of p at) (move_of v)) (numbered_is_outcome p wf.head.letters (move_of v) k)
