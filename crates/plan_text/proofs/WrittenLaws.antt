-- Laws of a plan that is written. Only the checker need believe this file.
use mathlib.Core.Path.{◌≡◌}
use mathlib.Core.List.{List}
use Prim.Native.Nat.{ℕ, ◌≤◌}
use lib.ListN.{length}
use Rattle.network.proofs.Booleans.{leb_yes}
use Rattle.plan.specs.declared.Plan.{Plan}
use Rattle.plan.specs.Answer.{fine}
use Rattle.plan.specs.Faults.{unless, first, answered}
use Rattle.plan.specs.WellFormed.{WellFormed}
use Rattle.judge.proofs.WellFormedLaws.{fine_exactly}
use Rattle.plan_text.specs.PlanText.{plan_text}
use Rattle.plan_text.specs.WritePlan.{write_plan}

-- with room for its text a well-formed plan is written
pub written_fine :
    (p : Plan) (xs : List ℕ) → WellFormed p → length (plan_text p) ≤ length xs → write_plan p xs ≡ fine (length (plan_text p))
unfolding write_plan first unless answered
written_fine p xs wf room = rw ((fine_exactly p).1 wf, leb_yes (length (plan_text p)) (length xs) room)
