-- Laws of the letters that each point discloses, gathered letter by letter. Only the checker need believe this file.
use mathlib.Core.Path.{◌≡◌, refl, sym, ◌∙◌}
use mathlib.Core.Logic.{by_cases, ◌≢◌}
use mathlib.Core.Bool.{Bool, true, false, ◌&&◌, and-false, or-false}
use mathlib.Core.List.{List}
use Prim.Native.Nat.{ℕ, zero, suc, ◌+◌, ◌/◌, ◌^◌, ◌≤◌, ◌<◌}
use native.Mathlib.Omega.{arith}
use native.Mathlib.Nat.{pow-suc}
use native.Mathlib.Decide.{dec_lt, ℕ_discrete}
use lib.Bits.{bit_or}
use lib.Dec.{ltb, eqb}
use lib.ListN.{length, length-set, get_or, set}
use lib.Seq.{get_or-set_same, get_or-set_other, ext_get_or}
use Rattle.network.specs.Mask.{bit, mask}
use Rattle.network.proofs.Booleans.{ltb_yes, ltb_no, eqb_yes, eqb_no}
use Rattle.network.proofs.MaskLaws.{bit_mask, bit_mask_above, mask_cong, bits_ext, no_bits}
use Rattle.network.proofs.MachineLaws.{bit_or_lem}
use Rattle.plan.specs.declared.Letter.{Letter}
use Rattle.plan.specs.Plan.{zero_letter, listed}
use Rattle.plan.proofs.SliceLaws.{length_listed, get_listed}
use Rattle.pruning.specs.Pruning.{letters_at}
use Rattle.pruning.proofs.SettingLaws.{power_other}

power_same : (q : ℕ) → bit (2 ^ q) q ≡ true
unfolding bit
power_same zero = refl
power_same (suc q) = let p = pow-suc 2 q in let e : 2 ^ suc q / 2 ≡ 2 ^ q = omega arith in rw e (power_same q)

module _ (entries : List Letter) where
  -- letter k is disclosed by x, and is one of the first l
  abbrev among : ℕ → ℕ → ℕ → Bool
  among l x k = ltb k l && eqb (get_or entries k zero_letter).point x

  -- the first l letters are gathered
  pub record Gathered (out : List ℕ) (l : ℕ) : Type 0 where
    pub long : length out ≡ 8
    pub few : l ≤ 6
    pub each : (x : ℕ) → x < 8 → get_or out x 0 ≡ mask 6 (among l x)

  -- any letter but l counts as before
  same_before : (l x k : ℕ) → k ≢ l → among l x k ≡ among (l + 1) x k
  same_before l x k n =
      by_cases (dec_lt k l)
      (λ lt. rw (ltb_yes k l lt, ltb_yes k (l + 1) (omega arith)))
      (λ ge. rw (ltb_no k l ge, ltb_no k (l + 1) (λ lt. omega arith)))

  -- and l itself is new
  not_before : (l x : ℕ) → among l x l ≡ false
  not_before l x = rw (ltb_no l l (λ lt. omega arith))

  gathered_here :
      (l x : ℕ) → l < 6 → (get_or entries l zero_letter).point ≡ x → bit_or (mask 6 (among l x)) (2 ^ l) ≡ mask 6 (among (l + 1) x)
  gathered_here l x few e =
      bits_ext _ _ (λ k. bit_or_lem (mask 6 (among l x)) (2 ^ l) k ∙ by_cases (dec_lt k 6)
      (λ lt. rw (bit_mask 6 (among l x) k lt, bit_mask 6 (among (l + 1) x) k lt) (by_cases (ℕ_discrete k l)
      (λ q. rw (q, power_same l, not_before l x, ltb_yes l (l + 1) (omega arith), eqb_yes (get_or entries l zero_letter).point x e))
      (λ n. rw (power_other l k n, or-false) (same_before l x k n))))
      (λ ge. rw (
        bit_mask_above 6 (among l x) k (omega arith),
        bit_mask_above 6 (among (l + 1) x) k (omega arith),
        power_other l k (λ q. omega arith),
      )))

  gathered_other :
      (l x : ℕ) → (get_or entries l zero_letter).point ≢ x → mask 6 (among l x) ≡ mask 6 (among (l + 1) x)
  gathered_other l x n =
      mask_cong 6 (among l x) (among (l + 1) x) (λ k lt. by_cases (ℕ_discrete k l)
      (λ q. rw (q, eqb_no (get_or entries l zero_letter).point x n, and-false, and-false))
      (same_before l x k))

  pub gathered_next :
      (out : List ℕ) (l point : ℕ) → point ≡ (get_or entries l zero_letter).point → Gathered out l → l < 6 →
      Gathered (set out point (bit_or (get_or out point 0) (2 ^ l))) (l + 1)
  gathered_next out l point is g lt =
      record {
        long = length-set out point _ ∙ g.long;
        few = omega arith;
        each = λ x less. let long = g.long in
            by_cases (ℕ_discrete x point)
            (λ e. rw (e, get_or-set_same out point (bit_or (get_or out point 0) (2 ^ l)) 0 (omega arith), g.each point (omega arith))
            (gathered_here l point lt (sym is)))
            (λ n. get_or-set_other out point x (bit_or (get_or out point 0) (2 ^ l)) 0 n ∙ g.each x less
            ∙ gathered_other l x (λ q. n (sym (is ∙ q))));
      }

  pub gathered_start : (out : List ℕ) → length out ≡ 8 → ((x : ℕ) → get_or out x 0 ≡ 0) → Gathered out 0
  gathered_start out long zeros =
      record {
        long = long;
        few = omega arith;
        each = λ x lt. zeros x ∙ sym (no_bits _ (λ k. by_cases (dec_lt k 6)
            (λ less. bit_mask 6 (among 0 x) k less ∙ rw (ltb_no k 0 (λ h. omega arith)))
            (λ ge. bit_mask_above 6 (among 0 x) k (omega arith))));
      }

  -- as many letters as are used, or all six
  pub gathered_all :
      (out : List ℕ) (l count : ℕ) → Gathered out l → l ≤ count → (l < count → l ≡ 6) → out ≡ listed 8 (letters_at entries count)
  gathered_all out l count g le full =
      let long = g.long in
      ext_get_or 0 out (listed 8 (letters_at entries count)) (long ∙ sym (length_listed 8 (letters_at entries count)))
      (λ x lt. let less : x < 8 = omega arith in
      g.each x less
      ∙ mask_cong 6 (among l x) (among count x) (λ k h. by_cases (dec_lt k l)
      (λ here. rw (ltb_yes k l here, ltb_yes k count (omega arith)))
      (λ past. rw (ltb_no k l past, ltb_no k count (λ more. let e = full (omega arith) in omega arith))))
      ∙ sym (get_listed 0 8 (letters_at entries count) x less))
