-- Definitions: a label by its two masks, and what each answer of the label test says. To be believed, for card 1 only.
use Rattle.std.specs.Prelude.{ℕ}
use Rattle.network.specs.Network.{Label}
use Rattle.network.specs.LabelTest as test
use Rattle.constraints.specs.declared.labels.Tested.{Tested}
use Rattle.constraints.specs.declared.labels.Tested.TheVariants as tested

abbrev pub label : ℕ → ℕ → Label
label need truth = record { need = need; truth = truth }

abbrev pub tested_as : Tested → test.Tested
tested_as tested.Holds = test.Holds
tested_as tested.Fails = test.Fails
tested_as tested.Open = test.Open
