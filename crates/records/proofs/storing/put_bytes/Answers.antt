-- `put_bytes`: by cases of the room. Only the checker need believe this file.
use Prim.Native.Nat.{◌+◌, ◌-◌}
use native.Mathlib.Omega.{arith}
use lib.ListN.{length}
use Rattle.records.proofs.StoreLaws.{put_part}
use Rattle.records.proofs.storing.put_bytes.Goals as goal

pub returns : goal.returns
returns c =
    let a = c.args in
    let n = length a.bytes.now in
    put_part a.out.now a.at (a.at + n - a.at) a.bytes.now c.copy_from_slice.new.self (omega arith) (omega arith) c.copy_from_slice.ensures.after
