-- `label_test`: the tests of whole bytes are the tests of their letters. Only the checker need believe this file.
use native.Mathlib.Omega.{arith}
use Rattle.constraints.proofs.LabelLaws.{says_fails, says_open, says_holds}
use Rattle.constraints.proofs.labels.label_test.Goals as goal

pub returns-then-values-truth-ne0 : goal.returns-then-values-truth-ne0
returns-then-values-truth-ne0 c =
    let a = c.args in
    says_fails a.values a.truth a.need a.known (omega arith) (omega arith) c.if-values-truth-ne0.true

pub returns-then-need-known-ne0 : goal.returns-then-need-known-ne0
returns-then-need-known-ne0 c =
    let a = c.args in
    says_open a.values a.truth a.need a.known (omega arith) (omega arith) c.if-values-truth-ne0.false c.if-need-known-ne0.true

pub returns : goal.returns
returns c =
    let a = c.args in
    says_holds a.values a.truth a.need a.known (omega arith) (omega arith) c.if-values-truth-ne0.false c.if-need-known-ne0.false
