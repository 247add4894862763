-- By the laws of what reporting answers. Only the checker need believe this file.
use mathlib.Core.Path.{ap, ◌≡◌, refl, sym, ◌∙◌}
use mathlib.Core.Bool.{not}
use borrow.Author.Rules.{rules}
use lib.ListN.{length}
use Rattle.network.proofs.Booleans.{denied, granted}
use Rattle.run.specs.Run.{show_answer}
use Rattle.run.specs.Told.{instruct, may_report, instructed, shown_told}
use Rattle.run.proofs.ToldLaws.{room_for_one}
use Rattle.run.proofs.ShownLaws.{report_refused, report_after_done, report_outside, report_inside}
use Rattle.run.proofs.History.report.Goals as goal
use Rattle.run.proofs.History.report.Goals.{After-subset, In-Instruct, Start}

long : (c : Start) → length c.args.self.masks ≡ 8
long c = search rules

-- an instruction is told
told : (c : In-Instruct) →
    let a = c.args in
    instruct (instructed c.in-Instruct.v) ≡ show_answer a.plan a.nodes.now a.self
told c = sym (ap shown_told c.in-Instruct.is) ∙ c.show.ensures

may-be : (c : After-subset) →
    let a = c.args in
    c.subset.result ≡ may_report a.plan (instructed c.in-Instruct.v) a.mask
may-be c = c.subset.ensures ∙ rw c.heard.ensures refl

pub returns-then-not-subset : goal.returns-then-not-subset
returns-then-not-subset c =
    let outside = denied (may-be (goal.at.returns-then-not-subset c).After-subset) (ap not c.if-not-subset.true) in
    c.refused-then-not-subset.ensures ∙ report_outside _ _ _ _ _ (told (goal.at.returns-then-not-subset c).In-Instruct) outside

pub with_mask-requires : goal.with_mask-requires
with_mask-requires c = room_for_one _ _ _ _ (long (goal.at.with_mask-requires c).Start) (sym (told (goal.at.with_mask-requires c).In-Instruct))

pub returns-in-Refused : goal.returns-in-Refused
returns-in-Refused c =
    c.refused.ensures ∙ report_refused _ _ _ _ c.in-Refused.r (sym (ap shown_told c.in-Refused.is) ∙ c.show.ensures)

pub returns-in-Done : goal.returns-in-Done
returns-in-Done c =
    c.refused-in-Done.ensures ∙ report_after_done _ _ _ _ (sym (ap shown_told c.in-Done.is) ∙ c.show.ensures)

pub returns-else-not-subset : goal.returns-else-not-subset
returns-else-not-subset c =
    let inside = granted (may-be (goal.at.returns-else-not-subset c).After-subset) (ap not c.if-not-subset.false) in
    rw c.with_mask.ensures (report_inside _ _ _ _ _ (told (goal.at.returns-else-not-subset c).In-Instruct) inside)
