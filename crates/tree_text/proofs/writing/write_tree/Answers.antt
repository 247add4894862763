-- By the laws of what is answered and left in the buffer. Only the checker need believe this file.
use mathlib.Core.Path.{sym}
use Rattle.tree_text.proofs.CodeLaws.{tree_refused, tree_short, tree_written_lem}
use Rattle.tree_text.proofs.writing.write_tree.Goals as goal

pub returns-then-not-legal_length : goal.returns-then-not-legal_length
returns-then-not-legal_length c =
    let e = tree_refused c.args.bytes.now c.args.out.now (sym c.if-not-legal_length.ensures) in
    record { answer = e.0; buffer = e.1 }

pub returns-then-out-size : goal.returns-then-out-size
returns-then-out-size c =
    let e =
    tree_short c.args.bytes.now c.args.out.now (sym c.if-not-legal_length.ensures) (rw c.node_count-n.ensures at c.if-out-size.true) in
    record { answer = e.0; buffer = e.1 }

pub returns : goal.returns
returns c =
    let e =
    tree_written_lem c.args.bytes.now c.args.out.now (sym c.if-not-legal_length.ensures)
    (rw c.node_count-n.ensures at c.if-out-size.false) in
    record {
      answer = rw c.node_count-n.ensures e.0;
      buffer = rw (c.put_node_frames.ensures, c.put_head.ensures, c.node_count-n.ensures) e.1;
    }
