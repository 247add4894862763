-- The invariant: what is left to read from here says what the whole says. Only the checker need believe this file.
use mathlib.Core.Path.{◌≡◌}
use mathlib.Core.List.{List}
use Prim.Native.Nat.{ℕ, ◌-◌}
use Rattle.plan.specs.declared.Plan.{Plan}
use Rattle.plan.specs.declared.Refusal.TheVariants as refusal
use Rattle.plan.specs.Answer.{Answer}
use Rattle.plan.specs.Plan.{zero_plan}
use Rattle.frame.specs.Texts.{frames_from, at_end}
use Rattle.plan_text.specs.ReadPlan.{read_constraint}
use Rattle.plan_text.proofs.reading.read_constraints.Given as goal

-- behind the constraints
abbrev pub end : Plan → List ℕ → Answer Plan
end = at_end zero_plan refusal.PlanText

abbrev pub invariant-loop-j : goal.invariant-loop-j
invariant-loop-j l =
    frames_from read_constraint 7 end l.n 0 l.initial.so_far l.s ≡ frames_from read_constraint 7 end (l.n - l.j) l.j l.so_far l.rest
