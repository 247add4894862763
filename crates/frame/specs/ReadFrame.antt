-- Definitions: digits and frames read: the bytes of the frame at the front of a text. Computed: pinned by `whole_text` of
-- frame/proofs/FrameLaws.antt.
use Rattle.std.specs.Prelude.{cond, ◌&&◌, Bool, Option, Some, None, List, ℕ, ◌+◌, ◌-◌, ◌*◌, ◌%◌, leb, ltb, eqb, get_or}
use Rattle.network.specs.Mask.{all_below}

-- the value of the digit c, and 16 where c is none: 48 to 57 are 0-9, 65 to 70 are A-F
unfoldable pub digit_of : ℕ → ℕ
digit_of c = cond (leb 48 c && leb c 57) (c - 48) (cond (leb 65 c && leb c 70) (c - 55) 16)

-- the byte that two digits say, high digit first, and 256 where one of them is none
unfoldable pub pair_of : ℕ → ℕ → ℕ
pair_of h l = cond (ltb h 16 && ltb l 16) (16 * h + l) 256

-- These numbers, and those of `byte_at` below, as the code has them: v where it is below n, nothing where it is none.
abbrev pub if_below : ℕ → ℕ → Option ℕ
if_below n v = cond (ltb v n) (Some v) None

-- how many characters a frame of n bytes has
abbrev pub frame_length : ℕ → ℕ
frame_length n = 2 * n + 1

-- ---- the frame at the front of a text. (Past the end of a text `get_or` gives 0, which is no digit and no line feed.)

-- byte k of it, and 256 where two digits do not stand there
unfoldable pub byte_at : List ℕ → ℕ → ℕ
byte_at s k = pair_of (digit_of (get_or s (2 * k) 0)) (digit_of (get_or s (2 * k + 1) 0))

-- the same as a byte: of a whole frame every `byte_at` is below 256
abbrev pub value_at : List ℕ → ℕ → ℕ
value_at s k = byte_at s k % 256

-- the text begins with a whole frame of this kind that has n bytes, the kind counted
unfoldable pub whole : ℕ → ℕ → List ℕ → Bool
whole kind n s = eqb (byte_at s 0) kind && all_below n (λ k. ltb (byte_at s k) 256) && eqb (get_or s (2 * n) 0) 10
