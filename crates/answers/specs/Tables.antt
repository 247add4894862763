-- Definitions: the layout of a table of differences as 128 bytes, and how they are read. That nothing is lost is in proofs/TableLaws.antt
-- (`table_back`). To be believed, for the library only.
use Rattle.std.specs.Prelude.{List, [], ◌∷◌, ℕ, ◌+◌, ◌*◌, ◌/◌, ◌%◌, get_or}
use Rattle.network.specs.Mask.{join_below}
use Rattle.plan.specs.Plan.{listed}
use Rattle.differences.specs.declared.Row.{Row}
use Rattle.differences.specs.Answers.{zero_row}

abbrev pub table_length : ℕ
table_length = 128

-- an entry: two bytes, high byte first
abbrev pub entry_bytes : ℕ → List ℕ
entry_bytes bits = bits / 256 ∷ bits % 256 ∷ []

-- a row: its eight entries
abbrev pub row_bytes : Row → List ℕ
row_bytes row = join_below 8 (λ y. entry_bytes (get_or row.to y 0))

-- the table: row by row
abbrev pub table_bytes : List Row → List ℕ
table_bytes rows = join_below 8 (λ x. row_bytes (get_or rows x zero_row))

-- the same, read: the 16 bits that stand at a place, and the rows; bytes that are missing are zero
abbrev pub bits_in : List ℕ → ℕ → ℕ
bits_in bs at = 256 * get_or bs at 0 + get_or bs (at + 1) 0

unfoldable pub rows_in : List ℕ → List Row
rows_in bs = listed 8 (λ x. record { to = listed 8 (λ y. bits_in bs (16 * x + 2 * y)) })
