-- The invariant: what was stored are the bytes of the steps passed. Only the checker need believe this file.
use mathlib.Core.Path.{◌≡◌}
use lib.ListN.{get_or}
use lib.Seq.{sets}
use Rattle.network.specs.Mask.{join_below}
use Rattle.following.specs.Following.{zero_step}
use Rattle.answers.specs.Steps.{step_bytes}
use Rattle.answers.proofs.steps.put_steps.Given as goal

abbrev pub invariant-loop-i : goal.invariant-loop-i
invariant-loop-i l = l.out ≡ sets l.initial.out 0 (join_below l.i (λ k. step_bytes (get_or l.followed.steps k zero_step)))
