-- Definitions: the next mask inside a set. Computed: pinned by `next_inside_cases` of masks/proofs/NextLaws.antt.
use Rattle.std.specs.Prelude.{ℕ, suc}
use Rattle.network.specs.Mask.{bit, submask}
use Rattle.network.specs.Below.{rank}

-- of the masks inside a set, the one numbered one higher than m; 0, which is number 0, behind the last
abbrev pub next_inside : ℕ → ℕ → ℕ
next_inside set m = submask 8 (bit set) (suc (rank 8 (bit set) m))
