-- Laws of reports: what may be reported is an outcome, and its number among the outcomes. Only the checker need believe this file.
use mathlib.Core.Path.{◌≡◌, ◌∙◌}
use mathlib.Core.Logic.{◌↔◌}
use mathlib.Core.Bool.{true}
use Prim.Native.Nat.{ℕ, ◌^◌, ◌≤◌, ◌<◌}
use native.Mathlib.Omega.{arith}
use lib.Pow.{pow_mono}
use Rattle.network.specs.Mask.{count}
use Rattle.network.specs.Below.{rank}
use Rattle.network.specs.Network.{Network}
use Rattle.network.specs.Game.{Move, hears, Outcome, outcomes, outcome_at}
use Rattle.network.proofs.BelowLaws.{count_le}
use Rattle.network.proofs.MaskLaws.{bit_mask, in_mask}
use Rattle.network.proofs.MachineLaws.{subset_is}
use Rattle.network.proofs.NetworkLaws.{condition_lt}
use Rattle.network.proofs.SubmaskLaws.{rank_lt, submask_rank}
use Rattle.network.proofs.GameLaws.{heard_condition}
use Rattle.plan.specs.declared.Plan.{Plan}
use Rattle.plan.specs.Plan.{network_of}
use Rattle.plan.specs.Letters.{heard_by}
use Rattle.run.specs.Told.{may_report}

module _ (p : Plan) (few : p.letters ≤ 6) (m : Move) (o : ℕ) where
  abbrev net : Network
  net = network_of p

  -- a mask may be reported exactly where it is an outcome
  pub may_is : (may_report p m o ≡ true) ↔ Outcome net m o
  may_is =
      let sub = subset_is o (heard_by p m.points) in (
        λ t l y. (in_mask 6 (hears net m) l (sub.0 t l y)).1,
        λ h. sub.1 (λ l y. let lt = condition_lt net l (heard_condition net m l (h l y)) in
            bit_mask 6 (hears net m) l (omega arith) ∙ h l y),
      )

  -- its number among the outcomes
  abbrev pub outcome_number : ℕ
  outcome_number = rank p.letters (hears net m) o

  pub number_lt : outcome_number < outcomes net m
  number_lt = rank_lt p.letters (hears net m) o

  pub number_small : outcome_number < 64
  number_small =
      let members = count_le p.letters (hears net m) in
      let most : 2 ^ count p.letters (hears net m) ≤ 2 ^ 6 = pow_mono {i = count p.letters (hears net m)} {j = 6} (omega arith) in
      omega (arith, number_lt, most)

  pub number_is : Outcome net m o → outcome_at net m outcome_number ≡ o
  number_is ok = submask_rank p.letters (hears net m) o (λ l y. (condition_lt net l (heard_condition net m l (ok l y)), ok l y))
