-- By the laws of what is answered and left in the buffer. Only the checker need believe this file.
use mathlib.Core.Path.{◌∙◌}
use native.Mathlib.Omega.{arith}
use Rattle.tree_text.proofs.CodeLaws.{read_short, read_refused, read_room, read_done}
use Rattle.tree_text.proofs.reading.read_tree.Goals as goal

pub returns-then-out-lt573 : goal.returns-then-out-lt573
returns-then-out-lt573 c =
    let a = c.args in
    let e = read_short a.text.now a.out.now c.if-out-lt573.true in
    record { answer = e.0; buffer = e.1 }

pub returns-in_default : goal.returns-in_default
returns-in_default c =
    let a = c.args in
    let f = read_refused a.text.now a.out.now c.if-out-lt573.false c.in_default.field-0 c.in_default.ensures in
    record { answer = rw c.in_default.is f.0; buffer = f.1 }

pub put_nodes-requires : goal.put_nodes-requires
put_nodes-requires c =
    let a = c.args in
    let room = read_room a.text.now a.out.now c.in-Ok.n c.in-Ok.ensures in
    record { text_room = room.0; buffer_room = omega (arith, room.1, c.if-out-lt573.false) }

pub returns : goal.returns
returns c =
    let a = c.args in
    let d = read_done a.text.now a.out.now c.in-Ok.n c.in-Ok.ensures c.if-out-lt573.false in
    record { answer = d.0; buffer = c.put_nodes.ensures ∙ d.1 }
