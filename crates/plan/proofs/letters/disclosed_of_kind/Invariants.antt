-- `disclosed_of_kind`: each turn adds one letter below; those that are not used have no bit. Only the checker need believe this file.
use Rattle.plan.proofs.LetterLaws.{MaskFrom, letters_only, disclosed_by}
use Rattle.plan.proofs.letters.disclosed_of_kind.Given as goal

abbrev pub invariant-loop-i : goal.invariant-loop-i
invariant-loop-i l = MaskFrom 6 (disclosed_by (letters_only l.count l.letters) l.decided l.points) l.i l.m
