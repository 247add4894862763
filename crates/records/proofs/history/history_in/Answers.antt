-- `history_in`: each mask is what its call gave. Only the checker need believe this file.
use Rattle.std.proofs.Common.{◌+◌, get_or, rules, tests}
use Rattle.plan.proofs.MadeLaws.{made}
use Rattle.records.proofs.history.history_in.Goals as goal

pub returns : goal.returns
returns c =
    let masks = made _ 0 (λ i. get_or c.args.source.now (1 + i) 0) _ (λ i y q called. search (rules, tests)) c.from_fn.result 8
    c.from_fn.ensures.items in
    λ n. record { count = c.byte_or_zero.ensures n; masks = masks n }
