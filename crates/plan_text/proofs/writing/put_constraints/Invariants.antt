-- The invariant: what was stored is the text of the entries passed. Only the checker need believe this file.
use mathlib.Core.Path.{◌≡◌}
use lib.Seq.{sets}
use Rattle.network.specs.Mask.{join_below}
use Rattle.plan_text.proofs.WriteLaws.{constraint_text_lem}
use Rattle.plan_text.proofs.writing.put_constraints.Given as goal

abbrev pub invariant-loop-j : goal.invariant-loop-j
invariant-loop-j l = l.out ≡ sets l.initial.out l.from (join_below l.j (constraint_text_lem l.p))
