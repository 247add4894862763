-- Definitions: what the letters known so far say of a label (card 1), in the card's words, of any label test. To be believed, for card
-- 1 only.
use Rattle.std.specs.Prelude.{◌≡◌, ◌↔◌, true, false, ℕ, ◌<◌}
use Rattle.network.specs.Mask.{bit}
use Rattle.network.specs.Network.{Label, Scenario, holds}

-- the three answers (card 1's terms)
pub data Tested : Type 0 where
  Holds : Tested
  Fails : Tested
  Open : Tested

-- one known letter of the label disagrees, whatever is known of the others. (A mask is a byte.)
abbrev pub Disagrees : ℕ → Scenario → Label → Type 0
Disagrees known s label =
    (l : ℕ) × (l < 8) × (bit label.need l ≡ true) × (bit known l ≡ true) × (¬ (s l ≡ bit label.truth l))

-- all letters of the label are known; they agree
abbrev pub AllKnown : ℕ → Label → Type 0
AllKnown known label = (l : ℕ) → l < 8 → bit label.need l ≡ true → bit known l ≡ true

abbrev pub AllAgree : Scenario → Label → Type 0
AllAgree s label = (l : ℕ) → l < 8 → bit label.need l ≡ true → s l ≡ bit label.truth l

-- A label test takes the mask of the letters known so far, their values, and a label. With all letters of the label known it never answers
-- open, and says whether the label holds by Definition 3.
pub record LabelTest (test : ℕ → Scenario → Label → Tested) : Type 0 where
  pub fails_exactly : (known : ℕ) (s : Scenario) (label : Label) → (test known s label ≡ Fails) ↔ Disagrees known s label
  pub holds_exactly : (known : ℕ) (s : Scenario) (label : Label) → (test known s label ≡ Holds) ↔ (AllKnown known label × AllAgree s label)
  pub open_exactly :
      (known : ℕ) (s : Scenario) (label : Label) →
      (test known s label ≡ Open) ↔ ((¬ Disagrees known s label) × (¬ (AllKnown known label × AllAgree s label)))
  pub never_open : (known : ℕ) (s : Scenario) (label : Label) → AllKnown known label → ¬ (test known s label ≡ Open)
  pub holds_all_known : (known : ℕ) (s : Scenario) (label : Label) → AllKnown known label → (test known s label ≡ Holds) ↔ (holds s label ≡ true)
  pub fails_all_known : (known : ℕ) (s : Scenario) (label : Label) → AllKnown known label → (test known s label ≡ Fails) ↔ (holds s label ≡ false)
