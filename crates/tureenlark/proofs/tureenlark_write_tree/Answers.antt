-- The number of what the call hands back. Only the checker need believe this file.
use mathlib.Core.Path.{ap, ◌∙◌}
use Rattle.answers.specs.Numbers.{answer_number}
use Rattle.answers.proofs.NumberLaws.{number_counted}
use Rattle.tureenlark.proofs.tureenlark_write_tree.Goals as goal

pub returns-clause-answer : goal.returns-clause-answer
returns-clause-answer c = c.number.ensures ∙ number_counted _ ∙ ap answer_number c.write_tree.ensures.answer
