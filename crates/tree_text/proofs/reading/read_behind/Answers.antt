-- The invariant: what is left to read from here says what the whole says. Only the checker need believe this file.
use mathlib.Core.Path.{refl, sym, ap, ◌∙◌}
use Prim.Native.Nat.{ℕ}
use borrow.Author.Rules.{rules}
use Rattle.plan.specs.Answer.{Answer}
use Rattle.frame.specs.Texts.{at_end}
use Rattle.frame.proofs.RunLaws.{frames_end}
use Rattle.frame.proofs.ReadingLaws.{judged_refused, judged_fine, read_long, frames_stop}
use Rattle.tree_text.specs.TreeRead.{tree_read_answer}
use Rattle.tree_text.specs.ReadTree.{read_node}
use Rattle.tree_text.proofs.TreeTextLaws.{node_reader}
use Rattle.tree_text.proofs.CodeLaws.{nodes_on}
use Rattle.tree_text.proofs.reading.read_behind.Invariants.{end}
use Rattle.tree_text.proofs.reading.read_behind.Goals as goal

pub returns-in_default : goal.returns-in_default
returns-in_default c =
    let n = c.args.n in
    let l = c.loop in
    ap tree_read_answer c.in_default.is
    ∙ frames_stop node_reader 4 end n l.counter n l.rest.now (search rules) c.in_default.field-0 c.in_default.ensures refl
    ∙ sym l.invariant

pub slice_bounds-rest-count : goal.slice_bounds-rest-count
unfolding read_node
slice_bounds-rest-count c = read_long _ _ _ 5 4 c.loop.rest.now _ _ c.in-Ok.ensures refl

pub slice_bounds-rest-start : goal.slice_bounds-rest-start
slice_bounds-rest-start c = slice_bounds-rest-count c

pub loop-preserved : goal.loop-preserved
loop-preserved c =
    let n = c.args.n in
    let l = c.loop in
    l.invariant ∙ nodes_on n l.counter l.rest.now (search rules) (sym (ap (λ (a : Answer ℕ). a.fault) c.in-Ok.ensures))

-- behind the last node
pub returns-in_err-end_fault : goal.returns-in_err-end_fault
unfolding at_end
returns-in_err-end_fault c =
    let n = c.args.n in
    let l = c.loop in
    let e =
    judged_refused 0 n _ c.in_err-end_fault.ensures
    ∙ sym (l.invariant ∙ frames_end node_reader 4 end n l.counter n l.rest.now (search rules)) in
    search (rules, e)

pub returns : goal.returns
unfolding at_end
returns c =
    let n = c.args.n in
    let l = c.loop in
    judged_fine 0 n c.in_ok-end_fault.ensures
    ∙ sym (l.invariant ∙ frames_end node_reader 4 end n l.counter n l.rest.now (search rules))
