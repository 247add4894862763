-- Definitions: a frame: a line of bytes, two digits each, and a line feed. Its first byte is its kind. To be believed, for demand 1, 2.
use Rattle.std.specs.Prelude.{◌≡◌, List, [], ◌∷◌, ◌++◌, ℕ, ◌/◌, ◌%◌, ◌<◌, length, get_or}
use Rattle.frame.specs.Hex.{hex_digit}

-- every entry of a list is a byte
abbrev pub Bytes : List ℕ → Type 0
Bytes bs = (k : ℕ) → get_or bs k 0 < 256

-- the bytes, high digit first, and a line feed
abbrev pub frame_text : List ℕ → List ℕ
frame_text [] = 10 ∷ []
frame_text (b ∷ bs) = hex_digit (b / 16) ∷ hex_digit (b % 16) ∷ frame_text bs

-- the text begins with a whole frame of this kind, which says n bytes more
abbrev pub Begins : ℕ → ℕ → List ℕ → Type 0
Begins kind n s = (bs : List ℕ) × (rest : List ℕ) × (length bs ≡ n) × Bytes bs × (s ≡ frame_text (kind ∷ bs) ++ rest)

-- 7F refusal: its number
abbrev pub fault_text : ℕ → List ℕ
fault_text n = frame_text (127 ∷ n ∷ [])
