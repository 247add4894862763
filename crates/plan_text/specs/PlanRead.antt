-- Definitions: number and value of each case of what reading a plan hands back. To be believed, for the contracts only.
use Rattle.std.specs.Prelude.{Result}
use Rattle.plan.specs.declared.Plan.{Plan}
use Rattle.plan.specs.declared.Refusal.{Refusal}
use Rattle.plan.specs.Answer.{Answer, answer_of}
use Rattle.plan.specs.Plan.{zero_plan}

-- fault and value of an answer: the plan, or the record that is all zero
abbrev pub plan_read_answer : Result Plan Refusal → Answer Plan
plan_read_answer = answer_of zero_plan
