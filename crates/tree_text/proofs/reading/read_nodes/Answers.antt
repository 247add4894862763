-- The head, and what is read behind it. Only the checker need believe this file.
use mathlib.Core.Path.{refl, sym, ap, ◌∙◌}
use Rattle.plan.proofs.SliceLaws.{rest_is}
use Rattle.frame.proofs.ReadingLaws.{then_on, then_stop, read_long}
use Rattle.tree_text.specs.TreeRead.{tree_read_answer}
use Rattle.tree_text.specs.ReadTree.{read_tree_head, read_nodes}
use Rattle.tree_text.proofs.reading.read_nodes.Goals as goal

pub returns-in_default : goal.returns-in_default
unfolding read_nodes
returns-in_default c =
    ap tree_read_answer c.in_default.is
    ∙ then_stop (read_tree_head c.args.text.now) _ c.in_default.field-0 c.in_default.ensures refl

pub slice_bounds-read_behind-count : goal.slice_bounds-read_behind-count
unfolding read_tree_head
slice_bounds-read_behind-count c = read_long _ _ _ 4 2 c.args.text.now _ _ c.in-Ok.ensures refl

pub slice_bounds-read_behind-start : goal.slice_bounds-read_behind-start
slice_bounds-read_behind-start c = slice_bounds-read_behind-count c

pub returns : goal.returns
unfolding read_nodes
returns c =
    let s = c.args.text.now in
    rw (rest_is 5 s) at c.read_behind.ensures ∙ sym (then_on (read_tree_head s) _ c.in-Ok.ensures refl)
