-- Definitions: hexadecimal digits, 0-9 and A-F in upper case. To be believed, for demand 1, 2.
use Rattle.std.specs.Prelude.{cond, ℕ, ◌+◌, ltb}

-- the digit of a value below 16
unfoldable pub hex_digit : ℕ → ℕ
hex_digit v = cond (ltb v 10) (48 + v) (55 + v)
