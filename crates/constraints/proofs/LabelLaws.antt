-- Laws of the machine's label test: the test of a whole byte is the test of its letters. Only the checker need believe this file.
use mathlib.Core.Path.{◌≡◌, refl, sym, ap, ◌∙◌}
use mathlib.Core.Logic.{by_cases}
use mathlib.Core.Bool.{Bool, true, false, not, ◌&&◌, ◌||◌, xor, beq}
use Prim.Native.Nat.{ℕ, ◌-◌, ◌^◌, ◌≤◌, ◌<◌}
use native.Mathlib.Omega.{arith}
use native.Mathlib.Decide.{dec_lt}
use lib.Bits.{bit_and, bit_xor}
use Rattle.network.specs.Mask.{bit, all_below}
use Rattle.network.specs.Below.{any_below}
use Rattle.network.specs.Network.{Label, Scenario, holds}
use Rattle.network.specs.LabelTest.{Holds, Fails, Open}
use Rattle.network.specs.TestLabel.{disagrees_at, disagrees, all_known, label_test, is_holds}
use Rattle.network.proofs.Booleans.{by_test, clash}
use Rattle.network.proofs.BelowLaws.{all_at, all_make, any_at, any_make}
use Rattle.network.proofs.MaskLaws.{bit_zero, bit_mask, bit_above, no_bits, mask_full}
use Rattle.network.proofs.LabelTestLaws.{tested_all}
use Rattle.network.proofs.MachineLaws.{bit_and_lem, bit_xor_lem, bit_not}
use denote.Enum.Bare.{sameb}
use Rattle.constraints.specs.declared.labels.Tested.{Tested}
use Rattle.constraints.specs.declared.labels.Tested.TheVariants as tested
use Rattle.constraints.specs.contracts.labels.Tested.{the_type}
use Rattle.constraints.specs.Labels.{label, tested_as}

module _ (v t n k : ℕ) (small : n < 2 ^ 8) (few : k < 2 ^ 8) where
  -- the needed letters that are known and disagree
  abbrev wrong : ℕ → Bool
  wrong = disagrees_at k (bit v) (label n t)

  wrong_bits : (l : ℕ) → bit (bit_and (bit_and (bit_xor v t) n) k) l ≡ wrong l
  unfolding xor
  wrong_bits l =
      bit_and_lem (bit_and (bit_xor v t) n) k l
      ∙ rw (bit_and_lem (bit_xor v t) n l, bit_xor_lem v t l) (order (not (beq (bit v l) (bit t l))) (bit n l) (bit k l))
    where
      order : (a b c : Bool) → ((a && b) && c) ≡ (b && (c && a))
      order true true true = refl
      order true true false = refl
      order true false c = refl
      order false true true = refl
      order false true false = refl
      order false false c = refl

  -- the needed letters that are not known
  abbrev unknown : ℕ → Bool
  unknown l = bit n l && not (bit k l)

  unknown_bits : (l : ℕ) → bit (bit_and n (255 - k)) l ≡ unknown l
  unknown_bits l =
      bit_and_lem n (255 - k) l
      ∙ by_cases (dec_lt l 8)
      (λ lt. rw (bit_not 8 k l few lt))
      (λ ge. rw (bit_above 8 n l small (omega arith)))

  -- a byte has some of these letters exactly where it is not zero
  some_bits : (w : ℕ) (f : ℕ → Bool) → ((l : ℕ) → bit w l ≡ f l) → ((l : ℕ) → 8 ≤ l → f l ≡ false) → ¬ (w ≡ 0) → any_below 8 f ≡ true
  some_bits w f e out ne =
      by_test (any_below 8 f) (λ y. y) (λ z. absurd (ne (no_bits w (λ l. e l ∙ by_cases (dec_lt l 8)
      (λ lt. by_test (f l) (λ y. clash (any_make 8 f l lt y) z) (λ y. y))
      (λ ge. out l (omega arith))))))

  no_such_bits : (w : ℕ) (f : ℕ → Bool) → ((l : ℕ) → bit w l ≡ f l) → w ≡ 0 → any_below 8 f ≡ false
  no_such_bits w f e z =
      by_test (any_below 8 f)
      (λ y. let a = any_at 8 f y in clash a.2 (sym (e a.0) ∙ ap (λ (x : ℕ). bit x a.0) z ∙ bit_zero a.0))
      (λ n. n)

  out_of_byte : (f : ℕ → Bool) (l : ℕ) → 8 ≤ l → (bit n l && f l) ≡ false
  out_of_byte f l h = rw (bit_above 8 n l small h)

  all_known_lem : any_below 8 unknown ≡ false → all_known k (label n t) ≡ true
  unfolding all_known
  all_known_lem z =
      all_make 8 _ (λ l lt. by_test (bit n l)
      (λ y. rw y (by_test (bit k l) (λ b. b) (λ b. clash (any_make 8 unknown l lt (rw (y, b))) z)))
      (λ y. rw y))

  not_all_known : any_below 8 unknown ≡ true → all_known k (label n t) ≡ false
  unfolding all_known
  not_all_known y =
      let a = any_at 8 unknown y in
      by_test (all_below 8 (λ l. not (bit n l) || bit k l))
      (λ all. both (bit n a.0) (bit k a.0) a.2 (all_at 8 (λ l. not (bit n l) || bit k l) all a.0 a.1))
      (λ z. z)
    where
      both : {C : Type 0} (p q : Bool) → (p && not q) ≡ true → (not p || q) ≡ true → C
      both true true e f = clash e refl
      both true false e f = clash f refl
      both false q e f = clash e refl

  -- ---- the three answers

  pub says_fails : ¬ (bit_and (bit_and (bit_xor v t) n) k ≡ 0) → Fails ≡ label_test k (bit v) (label n t)
  unfolding label_test disagrees
  says_fails ne = rw (some_bits _ wrong wrong_bits (out_of_byte (λ l. bit k l && not (beq (bit v l) (bit t l)))) ne)

  module _ (agree : bit_and (bit_and (bit_xor v t) n) k ≡ 0) where
    pub says_open : ¬ (bit_and n (255 - k) ≡ 0) → Open ≡ label_test k (bit v) (label n t)
    unfolding label_test disagrees
    says_open ne =
        rw (no_such_bits _ wrong wrong_bits agree, not_all_known (some_bits _ unknown unknown_bits (out_of_byte (λ l. not (bit k l))) ne))

    pub says_holds : bit_and n (255 - k) ≡ 0 → Holds ≡ label_test k (bit v) (label n t)
    unfolding label_test disagrees
    says_holds e = rw (no_such_bits _ wrong wrong_bits agree, all_known_lem (no_such_bits _ unknown unknown_bits e))

-- with all eight letters known it holds exactly where the label holds
pub all_letters : (s : Scenario) (label : Label) → is_holds (label_test 255 s label) ≡ holds s label
all_letters s label = tested_all 255 s label (λ l lt n. sym (ap (λ (x : ℕ). bit x l) (mask_full 8)) ∙ bit_mask 8 (λ i. true) l lt)

-- the code's test whether an answer is that the label holds
pub tells_holds : (t : Tested) → sameb the_type t tested.Holds ≡ is_holds (tested_as t)
tells_holds tested.Holds = refl
tells_holds tested.Fails = refl
tells_holds tested.Open = refl
