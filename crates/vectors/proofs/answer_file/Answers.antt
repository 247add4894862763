-- `vectors::answer_file` is safe: the text that it writes lies inside the bytes that it was handed. Only the checker need believe this file.
use Rattle.answer_text.proofs.AnswerTextTheorems.{text_length}
use Rattle.vectors.proofs.answer_file.Goals as goal

pub slice_bounds-print-end : goal.slice_bounds-print-end
slice_bounds-print-end c = text_length _ c.answer_to-answer.result c.answer_to-answer.ensures
