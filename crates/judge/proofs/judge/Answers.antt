-- By the laws of the first fault. Only the checker need believe this file.
use mathlib.Core.Path.{ap, sym}
use mathlib.Core.Bool.{not}
use Rattle.network.proofs.Booleans.{denied, granted}
use Rattle.judge.proofs.JudgeLaws.{head_fault_lem, letters_fault, constraints_fault, no_fault}
use Rattle.judge.proofs.judge.Goals as goal

pub returns-then-not-head_fine : goal.returns-then-not-head_fine
returns-then-not-head_fine c = sym (head_fault_lem _ (denied c.head_fine.ensures (ap not c.if-not-head_fine.true)))

pub returns-then-not-letters_fine : goal.returns-then-not-letters_fine
returns-then-not-letters_fine c =
    sym
    (letters_fault _
    (granted c.head_fine.ensures (ap not c.if-not-head_fine.false))
    (denied c.letters_fine.ensures (ap not c.if-not-letters_fine.true)))

pub returns-then-not-constraints_fine : goal.returns-then-not-constraints_fine
returns-then-not-constraints_fine c =
    sym
    (constraints_fault _
    (granted c.head_fine.ensures (ap not c.if-not-head_fine.false))
    (granted c.letters_fine.ensures (ap not c.if-not-letters_fine.false))
    (denied c.constraints_fine.ensures (ap not c.if-not-constraints_fine.true)))

pub returns : goal.returns
returns c =
    sym
    (no_fault _
    (granted c.head_fine.ensures (ap not c.if-not-head_fine.false))
    (granted c.letters_fine.ensures (ap not c.if-not-letters_fine.false))
    (granted c.constraints_fine.ensures (ap not c.if-not-constraints_fine.false)))
