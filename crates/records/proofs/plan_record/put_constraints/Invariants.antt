-- The invariant: what was stored are the bytes of the entries passed. Only the checker need believe this file.
use mathlib.Core.Path.{◌≡◌}
use lib.Seq.{sets}
use Rattle.network.specs.Mask.{join_below}
use Rattle.plan.specs.Plan.{constraint_at}
use Rattle.records.specs.Records.{constraint_bytes}
use Rattle.records.proofs.plan_record.put_constraints.Given as goal

abbrev pub invariant-loop-j : goal.invariant-loop-j
invariant-loop-j l = l.out ≡ sets l.initial.out 16 (join_below l.j (λ k. constraint_bytes (constraint_at l.p k)))
