-- Laws of masks of letters: one more letter below, the letters of both masks; of kinds of letters. Only the checker need believe this file.
use mathlib.Core.Path.{◌≡◌, refl, sym, ap, ◌∙◌}
use mathlib.Core.Logic.{by_cases}
use mathlib.Core.Bool.{Bool, true, false, ◌&&◌}
use mathlib.Core.List.{List, []}
use Prim.Native.Nat.{ℕ, suc, ◌+◌, ◌-◌, ◌*◌, ◌^◌, ◌≤◌, ◌<◌}
use native.Mathlib.Omega.{arith}
use native.Mathlib.Nat.{add-zero}
use native.Mathlib.Decide.{dec_lt}
use lib.Pow.{pow_mono}
use mir.Val.{bool_byte}
use Rattle.network.specs.Mask.{bit, digit, mask}
use Rattle.network.proofs.Booleans.{ltb_no}
use Rattle.network.proofs.MaskLaws.{mask_cong, mask_lt, bit_mask, bit_mask_above, no_bits}
use Rattle.plan.specs.declared.Letter.{Letter}
use Rattle.plan.specs.declared.Plan.{Plan}
use Rattle.plan.specs.Plan.{network_of}
use Rattle.plan.specs.Settled.{of_kind}

-- ---- a mask by its letters, the highest first

-- m is the mask of those of the numbers from i to w - 1 that have f, i being bit 0
pub record MaskFrom (w : ℕ) (f : ℕ → Bool) (i m : ℕ) : Type 0 where
  pub within : i ≤ w
  pub is : m ≡ mask (w - i) (λ j. f (i + j))

-- a byte made from a truth value
pub digit_byte : (b : Bool) → bool_byte b ≡ digit b
digit_byte true = refl
digit_byte false = refl

-- none from i on
pub mask_none : (w i : ℕ) (f : ℕ → Bool) → i ≤ w → ((k : ℕ) → i ≤ k → k < w → f k ≡ false) → MaskFrom w f i 0
mask_none w i f h none =
    record {
      within = h;
      is = sym (no_bits (mask (w - i) (λ j. f (i + j))) (λ k. by_cases (dec_lt k (w - i))
          (λ lt. bit_mask (w - i) (λ j. f (i + j)) k lt ∙ none (i + k) (omega arith) (omega arith))
          (λ ge. bit_mask_above (w - i) (λ j. f (i + j)) k (omega arith))));
    }

pub mask_start : (w : ℕ) (f : ℕ → Bool) → MaskFrom w f w 0
mask_start w f = mask_none w w f (omega arith) (λ k h lt. absurd (omega arith))

mask_suc : (n i : ℕ) (f : ℕ → Bool) → digit (f i) + 2 * mask n (λ j. f (suc i + j)) ≡ mask (suc n) (λ j. f (i + j))
unfolding mask
mask_suc n i f = rw (add-zero i, mask_cong n (λ j. f (suc i + j)) (λ j. f (i + suc j)) (λ j lt. ap f (omega arith)))

-- one more below doubles the mask
pub mask_more : {w : ℕ} {f : ℕ → Bool} {i m : ℕ} → MaskFrom w f i m → 0 < i → MaskFrom w f (i - 1) (digit (f (i - 1)) + 2 * m)
mask_more {w} {f} {i} {m} r p =
    let h = r.within in
    let e : suc (i - 1) ≡ i = omega arith in
    let d : w - (i - 1) ≡ suc (w - i) = omega arith in
    record { within = omega arith; is = rw (r.is, d) (rw e at (mask_suc (w - i) (i - 1) f)) }

pub mask_end : {w : ℕ} {f : ℕ → Bool} {i m : ℕ} → MaskFrom w f i m → i ≡ 0 → m ≡ mask w f
mask_end {w} {f} {i} {m} r e =
    let d : w - 0 ≡ w = omega arith in
    r.is ∙ rw (e, d) (mask_cong w (λ j. f (0 + j)) f (λ j lt. ap f (omega arith)))

pub mask_fits : {w : ℕ} {f : ℕ → Bool} {i m : ℕ} → MaskFrom w f i m → m < 2 ^ w
mask_fits {w} {f} {i} {m} r =
    let a = mask_lt (w - i) (λ j. f (i + j)) in
    let b = pow_mono {i = w - i} {j = w} (omega arith) in
    let e = r.is in
    omega arith

-- ---- kinds of letters

pub of_no_kind : (p : Plan) (decided : Bool) (i : ℕ) → p.letters ≤ i → of_kind (network_of p) decided i ≡ false
of_no_kind p true i h = rw (ltb_no i p.letters (λ lt. omega arith))
of_no_kind p false i h = rw (ltb_no i p.letters (λ lt. omega arith))

-- a plan with these letters: no more of it matters to their kinds
abbrev pub letters_only : ℕ → List Letter → Plan
letters_only count letters = record { horizon = 0; points = 0; letters = count; constraints = 0; letter = letters; constraint = [] }

-- letter l is of one kind, and disclosed by one of these points
abbrev pub disclosed_by : Plan → Bool → ℕ → ℕ → Bool
disclosed_by p decided points l = of_kind (network_of p) decided l && bit points ((network_of p).disclosing l)

-- letters that are not used
pub disclosed_none : (p : Plan) (decided : Bool) (points k : ℕ) → p.letters ≤ k → disclosed_by p decided points k ≡ false
disclosed_none p decided points k h = rw (of_no_kind p decided k h)
