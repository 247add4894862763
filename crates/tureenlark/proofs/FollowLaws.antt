-- Laws of the record that `follow` hands back, as bytes. Only the checker need believe this file.
use mathlib.Core.Path.{◌≡◌, refl, ap, ◌∙◌}
use mathlib.Core.List.{map}
use Prim.Native.Nat.{◌+◌, ◌-◌, ◌≤◌}
use native.Mathlib.Omega.{arith}
use lib.ListN.{length, get_or, replicate, length-append, length-map, length-replicate}
use Rattle.network.specs.Mask.{join_below}
use Rattle.network.proofs.JoinLaws.{join_length}
use Rattle.following.specs.declared.Followed.{Followed}
use Rattle.following.specs.Calls.{Progress}
use Rattle.following.specs.Following.{zero_step, step_record, followed_record}
use Rattle.answers.specs.Steps.{step_bytes}
use Rattle.tureenlark.specs.Library.{steps_bytes}

module _ (v : Followed) (r : Progress) (is : v ≡ followed_record r) where
  pub record_count : v.count ≡ length r.steps
  unfolding followed_record
  record_count = ap (λ (x : Followed). x.count) is

  pub record_history : v.history ≡ r.history
  unfolding followed_record
  record_history = ap (λ (x : Followed). x.history) is

  pub record_steps : join_below 8 (λ i. step_bytes (get_or v.steps i zero_step)) ≡ steps_bytes r
  unfolding steps_bytes
  record_steps = ap (λ (x : Followed). join_below 8 (λ i. step_bytes (get_or x.steps i zero_step))) is

  pub steps_few : length v.steps ≡ 8 → length r.steps ≤ 8
  unfolding followed_record
  steps_few eight =
      let log = r.steps in
      let all : length v.steps ≡ length log + (8 - length log) =
      ap (λ (x : Followed). length x.steps) is
      ∙ length-append (map step_record log) (replicate (8 - length log) zero_step)
      ∙ rw (length-map log step_record, length-replicate (8 - length log) zero_step) in
      omega arith

pub steps_length_lem : (r : Progress) → length (steps_bytes r) ≡ 32
unfolding steps_bytes
steps_length_lem r = join_length 8 4 (λ i. step_bytes (get_or (followed_record r).steps i zero_step)) (λ i lt. refl)
