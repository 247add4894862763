-- `least_slots`: the slots climb, and where a round changes nothing they are the least. Only the checker need believe this file.
use mathlib.Core.Path.{sym, ◌∙◌}
use Rattle.std.specs.Cmp.Lexicographic.{same_text, other_text}
use Rattle.network.specs.Mask.{bit}
use Rattle.constraints.specs.Used.{constraints_of}
use Rattle.verdict.proofs.CodeLaws.{climbing_start, by_rests, by_next, by_less}
use Rattle.verdict.proofs.least_slots.Goals as goal

pub loop-slots-init : goal.loop-slots-init
loop-slots-init c net e = climbing_start c.args.cap net (bit c.args.values)

pub returns-then-eq : goal.returns-then-eq
returns-then-eq c =
    let a = c.args in
    let before = c.loop-slots in
    by_rests a.cap (constraints_of a.constraints.now) (bit a.values) before.slots c.raise_in.new.slots before.invariant c.raise_in.ensures
    (same_text _ _ (sym c.if-eq.true ∙ c.eq.ensures))

pub loop-slots-smaller : goal.loop-slots-smaller
loop-slots-smaller c =
    let a = c.args in
    let before = c.loop-slots in
    by_less a.cap (constraints_of a.constraints.now) (bit a.values) before.slots c.raise_in.new.slots before.invariant c.raise_in.ensures
    (other_text _ _ (sym c.if-eq.false ∙ c.eq.ensures))

pub loop-slots-preserved : goal.loop-slots-preserved
loop-slots-preserved c =
    let a = c.args in
    let before = c.loop-slots in
    by_next a.cap (constraints_of a.constraints.now) (bit a.values) before.slots c.raise_in.new.slots before.invariant c.raise_in.ensures
    (other_text _ _ (sym c.if-eq.false ∙ c.eq.ensures))
