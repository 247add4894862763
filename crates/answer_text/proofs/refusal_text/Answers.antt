-- `refusal_text`: the frame stands at the front of blank bytes. Only the checker need believe this file.
use Rattle.answer_text.proofs.CodeLaws.{refusal_held}
use Rattle.answer_text.proofs.refusal_text.Goals as goal

pub returns : goal.returns
returns c =
    refusal_held c.args.r c.into.result c.blank_text-bytes.result _ c.into.ensures c.blank_text-bytes.ensures
    c.put_frame.ensures
