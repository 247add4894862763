-- Laws of the total of eight slots, by which a climb is measured. Only the checker need believe this file.
use mathlib.Core.Path.{◌≡◌, sym, ◌∙◌}
use mathlib.Core.List.{List}
use Prim.Native.Nat.{ℕ, ◌*◌, ◌≤◌, ◌<◌}
use native.Mathlib.Omega.{arith}
use native.Mathlib.Nat.{le_refl, le_trans}
use lib.ListN.{length}
use lib.Seq.{ext_get_or}
use Rattle.network.specs.Below.{sum_below}
use Rattle.network.specs.Network.{slots_in}
use Rattle.network.proofs.BelowLaws.{sum_le, sum_same}

abbrev pub total : List ℕ → ℕ
total slots = sum_below 8 (slots_in slots)

-- slots no later than others, and with the same total, are the same
pub total_same :
    (a b : List ℕ) → length a ≡ 8 → length b ≡ 8 → ((x : ℕ) → slots_in a x ≤ slots_in b x) → total b ≤ total a → a ≡ b
total_same a b long-a long-b h t =
    ext_get_or 0 a b (long-a ∙ sym long-b) (λ x lt. sum_same 8 (slots_in a) (slots_in b) (λ k l. h k) t x (omega arith))

module _ (cap : ℕ) (slots : List ℕ) (capped : (x : ℕ) → slots_in slots x ≤ cap) where
  pub total_capped : total slots ≤ 8 * cap
  total_capped = sum_le 8 (slots_in slots) cap (λ k lt. capped k)

  -- all of them at the cap
  pub total_top : 8 * cap ≤ total slots → (x : ℕ) → x < 8 → slots_in slots x ≡ cap
  total_top t =
      sum_same 8 (slots_in slots) (λ k. cap) (λ k lt. capped k) (le_trans (sum_le 8 (λ k. cap) cap (λ k lt. le_refl cap)) t)
