-- `disclosing`: the entries passed are the letters' points. Only the checker need believe this file.
use lib.ListN.{get_or}
use Rattle.plan.specs.Plan.{zero_letter}
use Rattle.game.proofs.CodeLaws.{Filled}
use Rattle.pruning.proofs.view.disclosing.Given as goal

abbrev pub invariant-loop-l : goal.invariant-loop-l
invariant-loop-l l = Filled 6 (λ i. (get_or l.entries i zero_letter).point) l.initial.out l.l l.out
