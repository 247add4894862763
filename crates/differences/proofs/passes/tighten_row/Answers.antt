-- `tighten_row`: each entry by its own call. Only the checker need believe this file.
use Prim.Native.Nat.{◌+◌, ◌-◌, min}
use borrow.Author.Rules.{rules}
use lib.ListN.{get_or}
use Rattle.network.specs.Limits.{bias}
use Rattle.differences.proofs.ArrayLaws.{made_listed}
use Rattle.differences.proofs.passes.tighten_row.Goals as goal

pub returns : goal.returns
returns c =
    let a = c.args in
    made_listed _ _ (λ y. min (get_or a.row y 0) (a.first + get_or a.via y 0 - bias)) 8 0 c.from_fn.result (λ i y q lt call. search rules) c.from_fn.ensures.items
