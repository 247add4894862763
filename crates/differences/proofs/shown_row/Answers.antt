-- `shown_row`: each entry by its own call. Only the checker need believe this file.
use mathlib.Core.Bool.{cond, ◌&&◌}
use Prim.Native.Nat.{◌%◌}
use borrow.Author.Rules.{rules}
use lib.Dec.{ltb}
use lib.ListN.{get_or}
use Rattle.differences.proofs.ArrayLaws.{made_listed}
use Rattle.differences.proofs.shown_row.Goals as goal

pub returns : goal.returns
returns c =
    let a = c.args in
    made_listed _ _ (λ y. cond (a.used && ltb y a.n) (get_or a.limits y 0 % 65536) 0) 8 0 c.from_fn-to.result (λ y b q lt call. search rules) c.from_fn-to.ensures.items
