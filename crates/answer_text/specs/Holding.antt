-- Definitions: a text as the program's function hands it back. To be believed, for the contracts only.
use Rattle.std.specs.Prelude.{List, ◌++◌, ℕ, ◌-◌, length, replicate}
use Rattle.answer_text.specs.declared.AnswerText.{AnswerText}

-- a text at the front of 1,724 bytes, the length of the longest, and zeros behind it
abbrev pub holding : List ℕ → AnswerText
holding text = record { bytes = text ++ replicate (1724 - length text) 0; length = length text }
