-- Two bytes are below 65536. Only the checker need believe this file.
use mathlib.Core.Bool.{and-true}
use native.Mathlib.Omega.{arith}
use borrow.Author.Tests.{lt-ltb}
use Rattle.judge.specs.Judge.{bound_fine}
use Rattle.judge.proofs.bound_fine.Goals as goal

pub returns : goal.returns
unfolding bound_fine
returns c = simp (lt-ltb c.args.bound 65536 (omega arith), and-true)
