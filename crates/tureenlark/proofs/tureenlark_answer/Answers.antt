-- The text is stored where there is room for it. Only the checker need believe this file.
use mathlib.Core.Path.{sym, ◌∙◌, ap}
use native.Mathlib.Omega.{arith}
use Prim.Native.Nat.{◌≤◌}
use lib.ListN.{length}
use lib.Seq.{length-take-le}
use Rattle.plan.specs.Faults.{put_at}
use Rattle.answer_text.specs.declared.AnswerText.{AnswerText}
use Rattle.answer_text.specs.AnswerText.{answer_text}
use Rattle.answer_text.proofs.AnswerTextTheorems.{text_is, text_inside}
use Rattle.tureenlark.specs.Library.{answer_fault}
use Rattle.tureenlark.proofs.LibraryLaws.{number_refused, number_fine, filled_short, put_long, short, long}
use Rattle.tureenlark.proofs.tureenlark_answer.Goals as goal

pub returns-then-text-n : goal.returns-then-text-n
returns-then-text-n c =
    let input = c.args.input.now in
    let t = c.args.text.now in
    let is = c.answer_to-answer.ensures in
    let n = ap (λ (x : AnswerText). x.length) is in
    let e = short (length (answer_text input)) t (rw (← n) (omega arith)) in
    record {
      answer = c.refused.ensures ∙ number_refused (answer_fault input t) (length (answer_text input)) e;
      buffer = filled_short (answer_fault input t) (answer_text input) t e;
    }

pub slice_bounds-put_bytes-end : goal.slice_bounds-put_bytes-end
slice_bounds-put_bytes-end c =
    let r = c.answer_to-answer.result in
    sym (length-take-le r.length r.bytes (text_inside c.args.input.now r c.answer_to-answer.ensures))

pub returns : goal.returns
returns c =
    let input = c.args.input.now in
    let t = c.args.text.now in
    let is = c.answer_to-answer.ensures in
    let r = c.answer_to-answer.result in
    let n = ap (λ (x : AnswerText). x.length) is in
    let h : length (answer_text input) ≤ length t = rw (← n) (omega arith) in
    let e = long (length (answer_text input)) t h in
    record {
      answer = n ∙ number_fine (answer_fault input t) (length (answer_text input)) e;
      buffer = c.put_bytes.ensures ∙ ap (put_at t 0) (text_is input r is) ∙ put_long (answer_fault input t) (answer_text input) t e h;
    }
