-- Definitions: the label test by the letters known so far, computed. Computed: pinned by `label_test_lem` of network/proofs/LabelTestLaws.antt.
use Rattle.std.specs.Prelude.{Bool, true, false, not, cond, ◌&&◌, ◌||◌, ℕ}
use Rattle.std.specs.Bool.{beq}
use Rattle.network.specs.Mask.{bit, all_below}
use Rattle.network.specs.Below.{any_below}
use Rattle.network.specs.Network.{Label, Scenario}
use Rattle.network.specs.LabelTest.{Tested, Holds, Fails, Open}

-- a letter of the label is known and disagrees; some letter does; every letter of the label is known
abbrev pub disagrees_at : ℕ → Scenario → Label → ℕ → Bool
disagrees_at known s label l = bit label.need l && (bit known l && not (beq (s l) (bit label.truth l)))

unfoldable pub disagrees : ℕ → Scenario → Label → Bool
disagrees known s label = any_below 8 (disagrees_at known s label)

unfoldable pub all_known : ℕ → Label → Bool
all_known known label = all_below 8 (λ l. not (bit label.need l) || bit known l)

-- It fails as soon as one known letter of the label disagrees, holds when all of them are known and agree, and is open otherwise.
unfoldable pub label_test : ℕ → Scenario → Label → Tested
label_test known s label = cond (disagrees known s label) Fails (cond (all_known known label) Holds Open)

-- the answer is that the label holds
abbrev pub is_holds : Tested → Bool
is_holds Holds = true
is_holds Fails = false
is_holds Open = false
