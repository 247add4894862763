-- Laws of bytes that are put into a buffer. Only the checker need believe this file.
use mathlib.Core.Path.{◌≡◌}
use mathlib.Core.List.{List, []}
use Prim.Native.Nat.{ℕ}
use native.Mathlib.Omega.{arith}
use borrow.Author.Tests.{le-leb}
use lib.ListN.{length}
use Rattle.plan.specs.Faults.{put_at}

pub nothing_put : (xs : List ℕ) → xs ≡ put_at xs 0 []
nothing_put xs = rw (le-leb 0 (length xs) (omega arith))
