-- `each_kept_so_far`: all are kept, or one is broken. Only the checker need believe this file.
use mathlib.Core.Path.{◌≡◌}
use mathlib.Core.Bool.{true, false}
use borrow.Author.Rules.{rules}
use borrow.Author.Tests.{tests}
use Rattle.std.proofs.lemmas.Iterator.{cases_from_all, YieldsList-from_slice}
use Rattle.network.specs.Mask.{bit}
use Rattle.network.specs.Network.{slots_in}
use Rattle.constraints.proofs.UsedLaws.{kept, each_kept}
use Rattle.constraints.proofs.each_kept_so_far.Goals as goal

pub returns : goal.returns
returns c =
    let a = c.args in
    each_kept a.known a.performed (slots_in a.slots) (bit a.values) a.constraints.now c.all.result
    (cases_from_all _ _ _
    (λ x. kept a.known a.performed (slots_in a.slots) (bit a.values) x ≡ true)
    (λ x. kept a.known a.performed (slots_in a.slots) (bit a.values) x ≡ false)
    c.all.ensures.ran (YieldsList-from_slice a.constraints.now cc)
    (λ x q k. search (rules, tests)) (λ x q k. search (rules, tests)))
