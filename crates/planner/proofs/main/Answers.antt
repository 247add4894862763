-- `planner::main` is safe: the text that it writes lies inside the bytes that it was handed. Only the checker need believe this file.
use Rattle.answer_text.proofs.AnswerTextTheorems.{text_length}
use Rattle.planner.proofs.main.Goals as goal

pub slice_bounds-print-end : goal.slice_bounds-print-end
slice_bounds-print-end c = text_length _ c.answer_to-answer.result c.answer_to-answer.ensures
