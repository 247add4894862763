-- Laws of the first fault of a record. Only the checker need believe this file.
use mathlib.Core.Path.{◌≡◌}
use mathlib.Core.Bool.{Bool, true, false}
use Rattle.plan.specs.declared.Plan.{Plan}
use Rattle.plan.specs.declared.Refusal.TheVariants as refusal
use Rattle.plan.specs.Refusal.{refusal_number}
use Rattle.plan.specs.Faults.{unless, first}
use Rattle.judge.specs.Judge.{head_fine, letters_fine, constraints_fine, plan_fault}

-- the head's part of the judgement
abbrev pub head_of : Plan → Bool
head_of p = head_fine p.horizon p.points p.letters p.constraints

module _ (p : Plan) where
  pub head_fault_lem : head_of p ≡ false → plan_fault p ≡ refusal_number refusal.Head
  unfolding plan_fault first unless
  head_fault_lem h = rw h

  pub letters_fault : head_of p ≡ true → letters_fine p ≡ false → plan_fault p ≡ refusal_number refusal.Letters
  unfolding plan_fault first unless
  letters_fault h l = rw (h, l)

  pub constraints_fault : head_of p ≡ true → letters_fine p ≡ true → constraints_fine p ≡ false → plan_fault p ≡ refusal_number refusal.Constraints
  unfolding plan_fault first unless
  constraints_fault h l c = rw (h, l, c)

  pub no_fault : head_of p ≡ true → letters_fine p ≡ true → constraints_fine p ≡ true → plan_fault p ≡ 0
  unfolding plan_fault first unless
  no_fault h l c = rw (h, l, c)
