-- Each value is what the call ensures of the first 400 bytes, and those behind them do not count. Only the checker need believe this file.
use mathlib.Core.Path.{◌≡◌, sym, ap, ◌∙◌}
use native.Mathlib.Omega.{arith}
use lib.ListN.{take, drop, take-append-drop}
use lib.Seq.{length-take-le}
use Rattle.records.specs.Records.{plan_in}
use Rattle.records.proofs.RecordsTheorems.{behind_ignored}
use Rattle.records.proofs.plan_record.plan_in.Goals as goal
use Rattle.records.proofs.plan_record.plan_in.Goals.{Start}

pub slice_bounds-record-end : goal.slice_bounds-record-end
slice_bounds-record-end c = sym (length-take-le 400 c.args.source.now (omega arith))

-- the slice says what the whole does
front-says : (c : Start) → plan_in (take 400 c.args.source.now) ≡ plan_in c.args.source.now
front-says c =
    let b = c.args.source.now in
    sym (behind_ignored (take 400 b) (drop 400 b) (length-take-le 400 b (omega arith))) ∙ ap plan_in (take-append-drop 400 b)

pub returns : goal.returns
unfolding plan_in
returns c =
    let made : _ ≡ plan_in (take 400 c.args.source.now) =
    λ i. record {
      horizon = c.byte_or_zero.ensures i;
      points = c.byte_or_zero-2.ensures i;
      letters = c.byte_or_zero-3.ensures i;
      constraints = c.byte_or_zero-4.ensures i;
      letter = c.letters_in.ensures i;
      constraint = c.constraints_in.ensures i;
    } in
    made ∙ front-says (goal.at.returns c).Start
