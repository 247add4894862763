-- `constraints_in`: each entry is what its call gave. Only the checker need believe this file.
use Rattle.std.proofs.Common.{◌+◌, ◌*◌, rules, tests}
use Rattle.plan.specs.Plan.{zero_constraint}
use Rattle.records.specs.Records.{constraint_from}
use Rattle.plan.proofs.MadeLaws.{made}
use Rattle.records.proofs.plan_record.constraints_in.Goals as goal

pub returns : goal.returns
returns c =
    made _ zero_constraint (λ i. constraint_from c.args.source.now (16 + 6 * i)) _ (λ i y q called. search (rules, tests)) c.from_fn.result 64
    c.from_fn.ensures.items
