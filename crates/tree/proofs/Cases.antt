-- Cases: what a lent buffer holds. Only the checker need believe this file; a reader may like to.
use mathlib.Core.Path.{◌≡◌, refl}
use mathlib.Core.List.{List, [], ◌∷◌, ◌++◌}
use Prim.Native.Nat.{ℕ}
use lib.ListN.{replicate}
use Rattle.tree.specs.Nodes.{overwritten}

-- 575 bytes are lent, none of them 0
abbrev pub lent : List ℕ
lent = replicate 573 255 ++ (7 ∷ 8 ∷ [])

-- one node, then zeros up to byte 573; the last two bytes stay
pub buffers :
    (overwritten (0 ∷ 1 ∷ 0 ∷ []) lent ≡ 0 ∷ 1 ∷ 0 ∷ (replicate 570 0 ++ (7 ∷ 8 ∷ [])))
    × (overwritten [] lent ≡ replicate 573 0 ++ (7 ∷ 8 ∷ []))
buffers = (refl, refl)
