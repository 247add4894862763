-- The invariant: what was stored are the bytes of the entries passed. Only the checker need believe this file.
use mathlib.Core.Path.{◌≡◌}
use lib.Seq.{sets}
use Rattle.network.specs.Mask.{join_below}
use Rattle.plan.specs.Plan.{letter_at}
use Rattle.records.specs.Records.{letter_bytes}
use Rattle.records.proofs.plan_record.put_letters.Given as goal

abbrev pub invariant-loop-i : goal.invariant-loop-i
invariant-loop-i l = l.out ≡ sets l.initial.out 4 (join_below l.i (λ k. letter_bytes (letter_at l.p k)))
