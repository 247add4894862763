-- The invariant: what was stored is the text of the entries passed. Only the checker need believe this file.
use mathlib.Core.Path.{◌≡◌}
use lib.Seq.{sets}
use Rattle.network.specs.Mask.{join_below}
use Rattle.plan_text.proofs.WriteLaws.{letter_text_lem}
use Rattle.plan_text.proofs.writing.put_letters.Given as goal

abbrev pub invariant-loop-i : goal.invariant-loop-i
invariant-loop-i l = l.out ≡ sets l.initial.out l.from (join_below l.i (letter_text_lem l.p))
