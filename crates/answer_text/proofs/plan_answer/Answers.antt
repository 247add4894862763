-- `plan_answer`: what the search says and leaves is printed. Only the checker need believe this file.
use mathlib.Core.Path.{◌≡◌, sym, ap, ◌∙◌}
use Rattle.search.specs.Search.{search_answer, search_leaves}
use Rattle.search.specs.Searched.{searched_answer}
use Rattle.answer_text.specs.AnswerText.{lent}
use Rattle.answer_text.specs.Holding.{holding}
use Rattle.answer_text.proofs.CodeLaws.{nodes_fit, nodes_long, nodes_legal, tree_printed, search_refused}
use Rattle.answer_text.proofs.plan_answer.Goals as goal
use Rattle.answer_text.proofs.plan_answer.Goals.{After-search}

-- what the search said and left, of blank bytes
said : (c : After-search) → searched_answer c.search.result ≡ search_answer c.args.plan lent
said c = c.search.ensures.answer ∙ ap (search_answer c.args.plan) c.blank_tree-nodes.ensures

left : (c : After-search) → c.search.new.buf ≡ search_leaves c.args.plan lent
left c = c.search.ensures.buffer ∙ ap (search_leaves c.args.plan) c.blank_tree-nodes.ensures

pub slice_bounds-nodes-end : goal.slice_bounds-nodes-end
slice_bounds-nodes-end c = nodes_fit c.args.plan c.search.result (said (goal.at.slice_bounds-nodes-end c).After-search) _ (left (goal.at.slice_bounds-nodes-end c).After-search) _ c.in-Ok.is

pub slice_bounds-tree_answer-end : goal.slice_bounds-tree_answer-end
slice_bounds-tree_answer-end c = sym (nodes_long c.args.plan c.search.result (said (goal.at.slice_bounds-tree_answer-end c).After-search) _ (left (goal.at.slice_bounds-tree_answer-end c).After-search) _ c.in-Ok.is)

pub tree_answer-requires : goal.tree_answer-requires
tree_answer-requires c = nodes_legal c.args.plan c.search.result (said (goal.at.tree_answer-requires c).After-search) _ (left (goal.at.tree_answer-requires c).After-search) _ c.in-Ok.is

pub returns-in-Ok : goal.returns-in-Ok
returns-in-Ok c = c.tree_answer.ensures ∙ ap holding (tree_printed c.args.plan c.search.result (said (goal.at.returns-in-Ok c).After-search) _ (left (goal.at.returns-in-Ok c).After-search) _ c.in-Ok.is)

pub returns-in-Err : goal.returns-in-Err
returns-in-Err c = c.refusal_text.ensures ∙ ap holding (search_refused c.args.plan c.search.result (said (goal.at.returns-in-Err c).After-search) _ (left (goal.at.returns-in-Err c).After-search) _ c.in-Err.is)
