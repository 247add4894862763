-- `tree_answer`: the text stands at the front of blank bytes, and is never refused. Only the checker need believe this file.
use mathlib.Core.Path.{sym, ap, ◌∙◌}
use Rattle.frame.specs.Written.{written_answer}
use Rattle.answer_text.proofs.CodeLaws.{tree_held, never_refused}
use Rattle.answer_text.proofs.tree_answer.Goals as goal

pub returns-in-Ok : goal.returns-in-Ok
returns-in-Ok c =
    tree_held c.args.nodes.now c.blank_text-bytes.result c.requires c.blank_text-bytes.ensures _ _
    (sym (ap written_answer c.in-Ok.is) ∙ c.write_tree.ensures.answer)
    c.write_tree.ensures.buffer

pub returns-in-Err : goal.returns-in-Err
returns-in-Err c =
    absurd
    (never_refused c.args.nodes.now c.blank_text-bytes.result c.requires c.blank_text-bytes.ensures c.in-Err.r
    (sym (ap written_answer c.in-Err.is) ∙ c.write_tree.ensures.answer))
