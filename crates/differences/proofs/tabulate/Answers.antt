-- `tabulate`: the limits closed, and whether they have no negative cycle. Only the checker need believe this file.
use mathlib.Core.Path.{ap, ◌≡◌, sym, ◌∙◌, subst}
use mathlib.Core.Bool.{not, true}
use mathlib.Core.List.{List}
use Prim.Native.Nat.{ℕ}
use Rattle.network.specs.Mask.{bit}
use Rattle.network.specs.Limits.{all_limited}
use Rattle.network.proofs.Booleans.{denied, granted}
use Rattle.plan.specs.Plan.{network_of}
use Rattle.differences.specs.declared.Row.{Row}
use Rattle.differences.specs.Answers.{Differences}
use Rattle.differences.specs.Tabling.{unconstrained, passes, closed, no_negative_cycle, shown}
use Rattle.differences.specs.Ranges.{InRange}
use Rattle.differences.proofs.ExactLaws.{in_range}
use Rattle.differences.proofs.AnswerLaws.{in_16_bits, is_table, is_none}
use Rattle.differences.proofs.tabulate.Goals as goal
use Rattle.differences.proofs.tabulate.Goals.{After-all_limited-limits, After-close-closed}

-- the limits before the passes
limits-are : (c : After-all_limited-limits) → let a = c.args in
    c.all_limited-limits.result ≡ all_limited (bit a.values) (unconstrained a.plan.horizon) (network_of a.plan).constraints
limits-are c =
    let a = c.args in
    c.all_limited-limits.ensures c.requires.2
    ∙ ap (λ (t : List (List ℕ)). all_limited (bit a.values) t (network_of a.plan).constraints) c.unconstrained.ensures

pub close-closed-requires : goal.close-closed-requires
close-closed-requires c =
    let p = c.args.plan in
    let s = bit c.args.values in
    let bounded = in_range s p.horizon (network_of p).constraints c.requires.0 (in_16_bits p) in
    (c.requires.1, subst (InRange 32768) (sym (limits-are c)) bounded)

-- .. and behind them
closed_is : (c : After-close-closed) → let a = c.args in c.close-closed.result ≡ closed (network_of a.plan) (bit a.values)
unfolding closed
closed_is c = c.close-closed.ensures ∙ ap (passes c.args.plan.points) (limits-are c.before)

pub returns-then-not-no_negative_cycle : goal.returns-then-not-no_negative_cycle
returns-then-not-no_negative_cycle c =
    let p = c.args.plan in
    let said = denied c.no_negative_cycle.ensures (ap not c.if-not-no_negative_cycle.true) in
    is_none (network_of p) (bit c.args.values)
    (ap (no_negative_cycle p.points) (sym (closed_is (goal.at.returns-then-not-no_negative_cycle c).After-close-closed)) ∙ said)

pub returns : goal.returns
returns c =
    let p = c.args.plan in
    let said = granted c.no_negative_cycle.ensures (ap not c.if-not-no_negative_cycle.false) in
    let rows = c.shown_rows-rows.ensures ∙ ap (shown p.points) (closed_is (goal.at.returns c).After-close-closed) in
    ap {B = Differences} (λ (r : List Row). record { scheduled = true; rows = r }) rows
    ∙ is_table (network_of p) (bit c.args.values) (ap (no_negative_cycle p.points) (sym (closed_is (goal.at.returns c).After-close-closed)) ∙ said)
