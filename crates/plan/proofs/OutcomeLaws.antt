-- Laws of a plan's masks of letters: they are what the game calls heard, settled and outcomes. Only the checker need believe this file.
use mathlib.Core.Path.{◌≡◌, ap}
use Prim.Native.Nat.{ℕ, ◌^◌, ◌≤◌}
use native.Mathlib.Omega.{arith}
use Rattle.network.specs.Mask.{bit, mask, count, submask}
use Rattle.network.specs.Game.{Move, hears, settles, outcomes, outcome_at}
use Rattle.network.proofs.MaskLaws.{mask_narrow}
use Rattle.network.proofs.SubmaskLaws.{submask_wide, count_wide}
use Rattle.network.proofs.NetworkLaws.{condition_lt, decision_lt}
use Rattle.network.proofs.GameLaws.{heard_condition, settled_decision}
use Rattle.plan.specs.declared.Plan.{Plan}
use Rattle.plan.specs.Plan.{network_of}
use Rattle.plan.specs.Letters.{heard_by}
use Rattle.plan.specs.Settled.{settled_by}

module _ (p : Plan) (few : p.letters ≤ 6) (m : Move) where
  pub heard_by_is : heard_by p m.points ≡ mask p.letters (hears (network_of p) m)
  heard_by_is =
      mask_narrow p.letters 6 (hears (network_of p) m) few
      (λ l y. condition_lt (network_of p) l (heard_condition (network_of p) m l y))

  pub settled_by_is : settled_by p m.points ≡ mask p.letters (settles (network_of p) m)
  settled_by_is =
      mask_narrow p.letters 6 (settles (network_of p) m) few
      (λ l y. decision_lt (network_of p) l (settled_decision (network_of p) m l y))

  -- how many outcomes there are, and outcome number k
  pub submasks_are_outcomes : 2 ^ count 8 (bit (heard_by p m.points)) ≡ outcomes (network_of p) m
  submasks_are_outcomes = rw heard_by_is (ap (λ (x : ℕ). 2 ^ x) (count_wide p.letters 8 (hears (network_of p) m) (omega arith)))

  pub numbered_is_outcome : (k : ℕ) → submask 8 (bit (heard_by p m.points)) k ≡ outcome_at (network_of p) m k
  numbered_is_outcome k = rw heard_by_is (submask_wide p.letters 8 (hears (network_of p) m) k (omega arith))
