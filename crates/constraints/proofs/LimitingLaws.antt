-- Laws of what the code of limits computes: a bound plus the bias, a limit lowered, what one constraint asks. Only the checker need believe
-- this file.
use mathlib.Core.Path.{◌≡◌, sym}
use mathlib.Core.Logic.{by_cases}
use mathlib.Core.Bool.{true, false}
use mathlib.Core.List.{List}
use Prim.Native.Nat.{ℕ, ◌+◌, ◌%◌, ◌≤◌, ◌<◌}
use native.Mathlib.Omega.{arith}
use native.Mathlib.Decide.{dec_lt}
use lib.ListN.{length}
use lib.Seq.{set_out}
use Rattle.network.specs.Network.{Constraint, Scenario, holds}
use Rattle.network.specs.Limits.{biased, lowered, limited}
use Rattle.network.proofs.Booleans.{ltb_yes, ltb_no}
use Rattle.plan.specs.Plan.{signed}

-- half of the range is added and taken off
pub biased_is : (b : ℕ) → b < 65536 → (b + 32768) % 65536 + 16744448 ≡ biased (signed b)
unfolding biased signed
biased_is b k =
    by_cases (dec_lt b 32768)
    (λ lt. rw (ltb_yes b 32768 lt) (omega arith))
    (λ ge. rw (ltb_no b 32768 ge) (omega arith))

-- past the table nothing changes
pub row_past : (t : List (List ℕ)) (x y v : ℕ) → length t ≤ x → t ≡ lowered t x y v
unfolding lowered
row_past t x y v h = sym (set_out t x _ h)

module _ (s : Scenario) where
  -- where the label fails nothing is asked, where it holds the limit
  pub not_limited : (t : List (List ℕ)) (c : Constraint) → holds s c.label ≡ false → t ≡ limited s t c
  unfolding limited
  not_limited t c fails = rw fails

  pub own_limit :
      (t : List (List ℕ)) (c : Constraint) → holds s c.label ≡ true → lowered t c.from c.to (biased c.bound) ≡ limited s t c
  unfolding limited
  own_limit t c held = rw held
