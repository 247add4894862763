-- Definitions: number and value of each case of what the search hands back. To be believed, for demand 3.
use Rattle.std.specs.Prelude.{ℕ, Result}
use Rattle.plan.specs.declared.Refusal.{Refusal}
use Rattle.plan.specs.Answer.{Answer, answer_of}

-- fault and value of an answer: the number of nodes
abbrev pub searched_answer : Result ℕ Refusal → Answer ℕ
searched_answer r = answer_of 0 r
