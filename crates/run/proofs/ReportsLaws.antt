-- Laws of the history that holds given reports: it is fine, it holds them, and with one report more it is the longer one. Only the checker
-- need believe this file.
use mathlib.Core.Path.{◌≡◌, sym, ap, ◌∙◌}
use mathlib.Core.List.{List, [], ◌∷◌, ◌++◌}
use mathlib.Core.Bool.{true}
use Prim.Native.Nat.{ℕ, ◌+◌, ◌-◌, ◌≤◌, ◌<◌}
use native.Mathlib.Omega.{arith}
use lib.ListN.{length, length-append, get_or, replicate}
use lib.Seq.{take-append_seam, get_or-append-add}
use Rattle.plan.proofs.SliceLaws.{all_same, put_next}
use Rattle.run.specs.History.{history_of, longer, history_fine, reports_in}
use Rattle.run.proofs.HistoryLaws.{fine_made}

module _ (os : List ℕ) where
  abbrev unused : List ℕ
  unused = replicate (8 - length os) 0

  pub history_fine_lem : length os ≤ 8 → history_fine (history_of os) ≡ true
  history_fine_lem le =
      fine_made (history_of os) le (λ i ge lt. let past : i ≡ length os + (i - length os) = omega arith in
      ap (λ (x : ℕ). get_or (os ++ unused) x 0) past
      ∙ get_or-append-add os unused (i - length os) 0
      ∙ all_same (8 - length os) 0 (i - length os))

  pub holds_reports : reports_in (history_of os) ≡ os
  holds_reports = take-append_seam os unused

  pub longer_is : (o : ℕ) → length os < 8 → longer (history_of os) o ≡ history_of (os ++ o ∷ [])
  longer_is o lt =
      let n : length (os ++ o ∷ []) ≡ length os + 1 = length-append os (o ∷ []) in
      λ i. record { count = sym n i; masks = put_next 8 0 os o lt i }
