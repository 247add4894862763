-- Definitions: what the program prints for its input. Computed: pinned by `by_input` of answer_text/proofs/AnswerTextTheorems.antt.
use Rattle.std.specs.Prelude.{cond, List, ℕ, eqb, take, replicate}
use Rattle.plan.specs.declared.Plan.{Plan}
use Rattle.plan.specs.Answer.{Answer}
use Rattle.frame.specs.Frame.{fault_text}
use Rattle.tree.specs.Nodes.{most_bytes, first_nodes}
use Rattle.plan_text.specs.ReadPlan.{read_plan}
use Rattle.tree_text.specs.TreeText.{tree_text}
use Rattle.search.specs.Search.{search_answer, search_leaves}

-- the first 1,026 bytes of the input are judged as a plan
abbrev pub plan_in : List ℕ → Answer Plan
plan_in input = read_plan (take 1026 input)

-- what the search is lent
abbrev pub lent : List ℕ
lent = replicate most_bytes 0

-- the tree that the search made of a plan: as many nodes as it answered, as it left them
abbrev pub tree_of : Plan → List ℕ
tree_of p = first_nodes (search_leaves p lent) (search_answer p lent).value

-- what is printed: the text, or the 7F frame of a fault
abbrev pub printed : ℕ → List ℕ → List ℕ
printed fault text = cond (eqb fault 0) text (fault_text fault)

-- for a plan that was read: its tree, or the search's refusal
unfoldable pub plan_answer : Plan → List ℕ
plan_answer p = printed (search_answer p lent).fault (tree_text (tree_of p))

-- for an input of any bytes and length
unfoldable pub answer_text : List ℕ → List ℕ
answer_text input = printed (plan_in input).fault (plan_answer (plan_in input).value)
