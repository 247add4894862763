-- Definitions: a tree in memory, three bytes to a node, and a lent buffer that holds one. To be believed, for demand 1, 2, 3.
use Rattle.std.specs.Prelude.{Bool, ◌&&◌, List, ◌++◌, ℕ, ◌*◌, ◌/◌, ◌%◌, ◌-◌, leb, eqb, length, take, drop, replicate}

-- the bytes of the most nodes that a tree has, 191
abbrev pub most_bytes : ℕ
most_bytes = 573

-- a byte length: a multiple of 3 from 3 to 573
unfoldable pub legal_length : ℕ → Bool
legal_length n = eqb (n % 3) 0 && leb 3 n && leb n most_bytes

-- how many nodes the bytes have
abbrev pub node_count : List ℕ → ℕ
node_count bs = length bs / 3

-- the bytes of the first k nodes
abbrev pub first_nodes : List ℕ → ℕ → List ℕ
first_nodes bs k = take (3 * k) bs

-- a buffer, before it xs, with these bytes at its front, then zeros up to byte 573; bytes past 573 stay
abbrev pub overwritten : List ℕ → List ℕ → List ℕ
overwritten bytes xs = bytes ++ (replicate (most_bytes - length bytes) 0 ++ drop most_bytes xs)
