-- Laws of a bound in two's complement, and of one constraint kept so far. Only the checker need believe this file.
use mathlib.Core.Path.{◌≡◌, refl, sym}
use mathlib.Core.Bool.{Bool, true, false, not, ◌&&◌, ◌||◌}
use Prim.Native.Nat.{ℕ, suc, ◌+◌, ◌-◌, ◌≤◌, ◌<◌}
use native.Mathlib.Omega.{arith}
use lib.Dec.{leb}
use Rattle.network.specs.Mask.{bit}
use Rattle.network.specs.Network.{Scenario, Schedule, satisfies, at_most}
use Rattle.network.specs.Network as net
use Rattle.network.specs.TestLabel.{is_holds, label_test}
use Rattle.network.specs.SoFar.{kept_so_far}
use Rattle.network.proofs.Booleans.{both_ways, leb_yes, leb_is, ltb_yes, ltb_no}
use Rattle.plan.specs.Plan.{signed}

-- ---- a bound in two's complement

pub at_most_pos : (x y b : ℕ) → b < 32768 → leb y (x + b) ≡ at_most x y (signed b)
unfolding at_most signed
at_most_pos x y b h = rw (ltb_yes b 32768 h)

pub at_most_neg : (x y b : ℕ) → 32768 ≤ b → b < 65536 → leb (y + 65536) (x + b) ≡ at_most x y (signed b)
unfolding at_most signed
at_most_neg x y b h k =
    rw (ltb_no b 32768 (λ lt. omega arith))
    (both_ways (leb (y + 65536) (x + b)) (leb (y + suc (65535 - b)) x)
    (λ e. let q = leb_is (y + 65536) (x + b) e in leb_yes (y + suc (65535 - b)) x (omega arith))
    (λ e. let q = leb_is (y + suc (65535 - b)) x e in leb_yes (y + 65536) (x + b) (omega arith)))

-- ---- one constraint

module _ (known performed : ℕ) (ψ : Schedule) (s : Scenario) (c : net.Constraint) where
  abbrev both : Bool
  both = bit performed c.from && bit performed c.to

  -- where the label does not hold yet, or a point is not performed, nothing is asked
  pub not_held : is_holds (label_test known s c.label) ≡ false → true ≡ kept_so_far known performed ψ s c
  not_held z = rw z

  pub not_performed : both ≡ false → true ≡ kept_so_far known performed ψ s c
  not_performed z = rw z (sym (never (is_holds (label_test known s c.label)) (satisfies ψ c)))
    where
      never : (a b : Bool) → (not (a && false) || b) ≡ true
      never true b = refl
      never false b = refl

  -- else the slots decide
  pub held_and_performed : is_holds (label_test known s c.label) ≡ true → both ≡ true → satisfies ψ c ≡ kept_so_far known performed ψ s c
  held_and_performed h d = rw (h, d)
