-- `used`: what is taken of the array is what the network has. Only the checker need believe this file.
use mathlib.Core.Path.{ap, ◌∙◌}
use native.Mathlib.Omega.{arith}
use Rattle.constraints.specs.Used.{constraints_of}
use Rattle.constraints.proofs.UsedLaws.{used_say}
use Rattle.constraints.proofs.used.Goals as goal

pub returns-clause-say : goal.returns-clause-say
returns-clause-say c few =
    let room = c.first.ensures.room in
    ap constraints_of c.first.ensures.taken ∙ used_say c.args.plan.now (omega arith)
