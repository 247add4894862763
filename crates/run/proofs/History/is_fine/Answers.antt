-- By the laws of histories: all masks past the count are zero. Only the checker need believe this file.
use mathlib.Core.Path.{◌≡◌, ◌∙◌}
use lib.ListN.{length, drop}
use native.Mathlib.Omega.{arith}
use Rattle.std.proofs.Common.{rules, tests}
use Rattle.std.proofs.lemmas.Iterator.{cases_from_all, YieldsList-from_slice}
use Rattle.network.proofs.Booleans.{leb_no}
use Rattle.plan.proofs.SliceLaws.{rest_is}
use Rattle.run.proofs.HistoryLaws.{count_faulty, masks_said}
use Rattle.run.proofs.History.is_fine.Goals as goal

pub returns-then-self-le8 : goal.returns-then-self-le8
returns-then-self-le8 c =
    let h = c.args.self in
    let long : length h.masks ≡ 8 = search rules in
    masks_said h c.if-self-le8.true long _ (cases_from_all _ _ _ (λ x. x ≡ 0) (λ x. ¬ (x ≡ 0)) c.all.ensures.ran
    (YieldsList-from_slice (drop h.count h.masks) (c.iter.ensures.rest ∙ rest_is h.count h.masks))
    (λ x q k. search (rules, tests)) (λ x q k. search (rules, tests)))

pub returns-else-self-le8 : goal.returns-else-self-le8
returns-else-self-le8 c = leb_no c.args.self.count 8 (λ le. let gt = c.if-self-le8.false in absurd (omega arith)) ∙ count_faulty _ c.if-self-le8.false
