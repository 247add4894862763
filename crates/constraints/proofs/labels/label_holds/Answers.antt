-- `label_holds`: under a setting all letters are known. Only the checker need believe this file.
use mathlib.Core.Path.{ap, ◌∙◌}
use Rattle.network.specs.Mask.{bit}
use Rattle.network.specs.TestLabel.{is_holds}
use Rattle.constraints.specs.Labels.{label}
use Rattle.constraints.proofs.LabelLaws.{all_letters, tells_holds}
use Rattle.constraints.proofs.labels.label_holds.Goals as goal

pub returns : goal.returns
returns c =
    let a = c.args in
    c.eq.ensures ∙ tells_holds c.label_test.result ∙ ap is_holds c.label_test.ensures ∙ all_letters (bit a.values) (label a.need a.truth)
