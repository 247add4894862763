-- `near`: the conditions passed lead to none that moved. Only the checker need believe this file.
use mathlib.Core.Path.{◌≡◌}
use mathlib.Core.Bool.{Bool, false, ◌&&◌}
use Prim.Native.Nat.{ℕ, ◌%◌, ◌^◌, ◌≤◌}
use lib.Bits.{bit_xor}
use Rattle.network.specs.Mask.{bit}
use Rattle.network.specs.Below.{any_below}
use Rattle.table.specs.declared.View.{View}
use Rattle.table.proofs.rounds.near.Given as goal

-- condition q is unheard, and the scenario that differs in it moved
abbrev pub leads : View → ℕ → ℕ → ℕ → Bool
leads v moved c q = bit v.unheard q && bit moved (bit_xor c (2 ^ q) % 64)

abbrev pub invariant-loop-q : goal.invariant-loop-q
invariant-loop-q l = (l.q ≤ 6) × (any_below l.q (leads l.v l.moved l.c.letters) ≡ false)
