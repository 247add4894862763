-- `all_schedulable`: each setting has a schedule, or one has none. Only the checker need believe this file.
use mathlib.Core.Path.{◌≡◌, refl}
use mathlib.Core.Bool.{Bool, true, false}
use Prim.Native.Nat.{ℕ, ◌^◌}
use native.Mathlib.Omega.{arith}
use borrow.Author.Rules.{rules}
use borrow.Author.Tests.{tests}
use Rattle.std.proofs.lemmas.Iterator.{cases_from_all, YieldsList-from_range}
use Rattle.network.specs.Mask.{bit}
use Rattle.network.proofs.MachineLaws.{one_shifted}
use Rattle.plan.specs.declared.Plan.{Plan}
use Rattle.plan.specs.Plan.{network_of}
use Rattle.verdict.specs.Verdict.{verdict_of, passes}
use Rattle.verdict.proofs.CodeLaws.{each_below}
use Rattle.verdict.proofs.screen.all_schedulable.Goals as goal

abbrev has-schedule : Plan → ℕ → Bool
has-schedule plan m = (verdict_of (network_of plan) (bit m)).scheduled

pub returns : goal.returns
unfolding passes
returns c =
    let p = c.args.plan.now in
    let e = one_shifted p.letters (omega (arith, c.requires.1)) in
    each_below (2 ^ p.letters) (has-schedule p) c.all.result
    (cases_from_all _ _ _ (λ m. has-schedule p m ≡ true) (λ m. has-schedule p m ≡ false) c.all.ensures.ran
    (YieldsList-from_range 0 _ (2 ^ p.letters) refl (omega arith))
    (λ x q k. search (rules, tests)) (λ x q k. search (rules, tests)))
