-- The invariant: what is left to store from here makes the whole frame. Only the checker need believe this file.
use mathlib.Core.Path.{◌≡◌}
use Prim.Native.Nat.{◌+◌, ◌*◌}
use lib.ListN.{drop}
use lib.Seq.{sets}
use Rattle.frame.specs.Frame.{frame_text}
use Rattle.frame.proofs.writing.put_line.Given as goal

abbrev pub invariant-loop-k : goal.invariant-loop-k
invariant-loop-k l = sets l.initial.out l.at (frame_text l.bytes) ≡ sets l.out (l.at + 2 * l.k) (frame_text (drop l.k l.bytes))
