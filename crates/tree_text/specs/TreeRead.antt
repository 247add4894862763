-- Definitions: number and value of each case of what reading a tree hands back. To be believed, for the contracts only.
use Rattle.std.specs.Prelude.{ℕ, Result}
use Rattle.plan.specs.declared.Refusal.{Refusal}
use Rattle.plan.specs.Answer.{Answer, answer_of}

-- fault and value of an answer: the number of nodes
abbrev pub tree_read_answer : Result ℕ Refusal → Answer ℕ
tree_read_answer = answer_of 0
