-- Laws of what the code computes: the first points as a mask, an array of slots filled from the front. Only the checker need believe this
-- file.
use mathlib.Core.Path.{◌≡◌, refl, sym, ◌∙◌}
use mathlib.Core.Logic.{by_cases}
use mathlib.Core.Bool.{true}
use mathlib.Core.List.{List}
use Prim.Native.Nat.{ℕ, ◌+◌, ◌-◌, ◌*◌, ◌%◌, ◌^◌, ◌≤◌, ◌<◌}
use native.Mathlib.Omega.{arith}
use native.Mathlib.Decide.{dec_lt}
use lib.Dec.{ltb}
use lib.ListN.{length, get_or, set, length-set}
use lib.Seq.{get_or-set_same, get_or-set_other, ext_get_or}
use Rattle.network.specs.Mask.{mask}
use Rattle.network.proofs.Booleans.{ltb_yes}
use Rattle.network.proofs.MachineLaws.{one_shifted}
use Rattle.network.proofs.MaskLaws.{mask_cong, mask_full, mask_first}
use Rattle.plan.specs.Plan.{listed}
use Rattle.plan.proofs.SliceLaws.{length_listed, get_listed}

-- ---- the first points

pub all_points : (n : ℕ) → 8 ≤ n → mask 8 (λ x. ltb x n) ≡ 255
all_points n h = mask_cong 8 (λ x. ltb x n) (λ x. true) (λ x lt. ltb_yes x n (omega arith)) ∙ mask_full 8

-- as the code shifts it
pub first_points : (n : ℕ) → n < 8 → 1 * 2 ^ n % 256 - 1 ≡ mask 8 (λ x. ltb x n)
first_points n h =
    let e = one_shifted n h in
    rw e (sym (mask_first n 8 (omega arith) ∙ mask_full n))

-- ---- an array filled from the front

-- the entries before x are those of f, the others as they were
pub record Filled (n : ℕ) (f : ℕ → ℕ) (old : List ℕ) (x : ℕ) (now : List ℕ) : Type 0 where
  pub long : length now ≡ n
  pub within : x ≤ n
  pub passed : (i : ℕ) → i < x → get_or now i 0 ≡ f i
  pub ahead : (i : ℕ) → x ≤ i → get_or now i 0 ≡ get_or old i 0

module _ {n : ℕ} {f : ℕ → ℕ} {old : List ℕ} where
  pub fill_start : length old ≡ n → Filled n f old 0 old
  fill_start l = record { long = l; within = omega arith; passed = λ i lt. absurd (omega arith); ahead = λ i ge. refl }

  -- a new entry, and one that stays
  pub fill_put :
      {x : ℕ} {now : List ℕ} (v : ℕ) → Filled n f old x now → x < n → f x ≡ v → Filled n f old (x + 1) (set now x v)
  fill_put {x} {now} v r h e =
      let l = r.long in
      record {
        long = length-set now x v ∙ l;
        within = omega arith;
        passed = λ i lt. by_cases (dec_lt i x)
            (λ less. get_or-set_other now x i v 0 (λ q. omega arith) ∙ r.passed i less)
            (λ more. let q : i ≡ x = omega arith in rw q (get_or-set_same now x v 0 (omega arith) ∙ sym e));
        ahead = λ i ge. get_or-set_other now x i v 0 (λ q. omega arith) ∙ r.ahead i (omega arith);
      }

  pub fill_skip : {x : ℕ} {now : List ℕ} → Filled n f old x now → x < n → f x ≡ get_or old x 0 → Filled n f old (x + 1) now
  fill_skip {x} {now} r h e =
      record {
        long = r.long;
        within = omega arith;
        passed = λ i lt. by_cases (dec_lt i x)
            (λ less. r.passed i less)
            (λ more. let q : i ≡ x = omega arith in rw q (r.ahead x (omega arith) ∙ sym e));
        ahead = λ i ge. r.ahead i (omega arith);
      }

  pub fill_end : {now : List ℕ} → Filled n f old n now → now ≡ listed n f
  fill_end {now} r =
      let l = r.long in
      ext_get_or 0 now (listed n f) (l ∙ sym (length_listed n f))
      (λ i lt. let h : i < n = omega arith in r.passed i h ∙ sym (get_listed 0 n f i h))
