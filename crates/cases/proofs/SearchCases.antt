-- Cases: K6 searched by computing, over 64 slots. It stands here and not beside the search, because it takes seconds. Only the checker need
-- believe this file.
use mathlib.Core.Path.{◌≡◌, refl, sym, ap, ◌∙◌}
use mathlib.Core.List.{[]}
use Prim.Native.Nat.{ℕ}
use Rattle.plan.specs.Answer.{Answer}
use Rattle.plan.proofs.Cases.{k6}
use Rattle.search.specs.Search.{search_answer, search_leaves}
use Rattle.search.proofs.SearchTheorems.{fault_is, hopeless_leaves}
use Rattle.search.proofs.Cases.{computing, lent, holding, refuses}

-- K6: K4 with the first bound 0, horizon 63
pub k6_answer : search_answer k6 lent ≡ refuses 11
unfolding computing
k6_answer = refl

pub k6_leaves : search_leaves k6 lent ≡ holding [] 573
k6_leaves = hopeless_leaves k6 lent (sym (fault_is k6 lent) ∙ ap (λ (x : Answer ℕ). x.fault) k6_answer)
