-- Definitions: a text that is written out between quotes, as the numbers of its characters. Computed: pinned by `cases` of
-- cases/proofs/CasesTheorem.antt.
use Rattle.std.specs.Prelude.{List, [], ◌∷◌, ℕ}
use Prim.Native.Char.{code}
use Prim.Native.String.{String}
use Prim.Native.String as string

-- the numbers of the characters
abbrev pub characters : String → List ℕ
characters string.[] = []
characters (string.◌∷◌ c s) = code c ∷ characters s
