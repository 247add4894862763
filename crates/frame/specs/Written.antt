-- Definitions: number and value of each case of what a writing hands back. To be believed, for the contracts only.
use Rattle.std.specs.Prelude.{ℕ, Result}
use Rattle.plan.specs.declared.Refusal.{Refusal}
use Rattle.plan.specs.Answer.{Answer, answer_of}

-- fault and value of an answer: the text's length
abbrev pub written_answer : Result ℕ Refusal → Answer ℕ
written_answer = answer_of 0
