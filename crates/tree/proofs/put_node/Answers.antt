-- `put_node`: three bytes put in the place of three. Only the checker need believe this file.
use mathlib.Core.Path.{refl, sym, ◌∙◌}
use Prim.Native.Nat.{◌+◌, ◌-◌, ◌*◌}
use native.Mathlib.Omega.{arith}
use lib.ListN.{length}
use Rattle.std.proofs.lemmas.List.Edits.{sets-eq}
use Rattle.std.proofs.lemmas.Slice.{put_mid-paste}
use Rattle.network.proofs.Booleans.{leb_yes}
use Rattle.tree.specs.Parts.{node_bytes}
use Rattle.tree.proofs.put_node.Goals as goal

pub returns-then-i-bytes : goal.returns-then-i-bytes
returns-then-i-bytes c =
    let xs = c.args.bytes.now in
    let i = 3 * c.args.k in
    let new = node_bytes c.args.v in
    rw (leb_yes (i + 3) (length xs) c.if-i-bytes.true)
    (put_mid-paste i (i + 3 - i) xs c.copy_from_slice.new.self new 3 c.copy_from_slice.ensures.after (omega arith) refl
    ∙ sym (sets-eq new xs i c.if-i-bytes.true))
