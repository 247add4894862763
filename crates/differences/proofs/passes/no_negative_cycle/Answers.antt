-- `no_negative_cycle`: each point's own test. Only the checker need believe this file.
use mathlib.Core.Path.{◌≡◌, refl}
use mathlib.Core.Bool.{Bool, true, false}
use mathlib.Core.List.{List}
use Prim.Native.Nat.{ℕ}
use native.Mathlib.Omega.{arith}
use borrow.Author.Rules.{rules}
use lib.Dec.{leb}
use Rattle.std.proofs.lemmas.Iterator.{cases_from_all, YieldsList-from_range}
use Rattle.network.specs.Limits.{bias, limit_at}
use Rattle.differences.specs.Tabling.{no_negative_cycle}
use Rattle.differences.proofs.ArrayLaws.{all_of_range}
use Rattle.differences.proofs.passes.no_negative_cycle.Goals as goal

-- point x is not before itself
abbrev kept : List (List ℕ) → ℕ → Bool
kept t x = leb bias (limit_at t x x)

pub returns : goal.returns
unfolding no_negative_cycle
returns c =
    let a = c.args in
    let p = kept a.limits in
    all_of_range a.n p c.all.result
    (cases_from_all _ _ c.all.result (λ x. p x ≡ true) (λ x. p x ≡ false) c.all.ensures.ran
    (YieldsList-from_range 0 a.n a.n refl (omega arith))
    (λ x q call. search rules)
    (λ x q call. search rules))
