-- `letters_in`: each entry is what its call gave. Only the checker need believe this file.
use Rattle.std.proofs.Common.{◌+◌, ◌*◌, rules, tests}
use Rattle.plan.specs.Plan.{zero_letter}
use Rattle.records.specs.Records.{letter_from}
use Rattle.plan.proofs.MadeLaws.{made}
use Rattle.records.proofs.plan_record.letters_in.Goals as goal

pub returns : goal.returns
returns c =
    made _ zero_letter (λ i. letter_from c.args.source.now (4 + 2 * i)) _ (λ i y q called. search (rules, tests)) c.from_fn.result 6
    c.from_fn.ensures.items
