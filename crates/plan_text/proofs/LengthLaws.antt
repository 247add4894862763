-- Laws of the length of a plan text. Only the checker need believe this file.
use mathlib.Core.Path.{◌≡◌, refl}
use mathlib.Core.List.{◌++◌}
use Prim.Native.Nat.{◌+◌, ◌*◌}
use lib.ListN.{length, replicate, length-append}
use Rattle.network.specs.Mask.{all_below}
use Rattle.network.specs.Below.{any_below}
use Rattle.network.proofs.JoinLaws.{join_length}
use Rattle.plan.specs.declared.Plan.{Plan}
use Rattle.plan.specs.Faults.{unless, first}
use Rattle.plan.specs.Plan.{zero_constraint, letter_at, constraint_at, listed}
use Rattle.plan.specs.WellFormed.{WellFormed}
use Rattle.judge.specs.Judge.{head_fine, taken_before, letter_fine, letter_entry, letters_fine, bound_fine, constraint_fine, constraint_entry, constraints_fine, plan_fault}
use Rattle.judge.proofs.WellFormedLaws.{fine_exactly}
use Rattle.plan_text.specs.PlanText.{head_text, letter_text, constraint_text, plan_text}
use Rattle.plan_text.specs.WritePlan.{letters_text, constraints_text}

-- 11 characters of the head, 9 of each letter, 15 of each constraint
pub plan_length_lem : (p : Plan) → length (plan_text p) ≡ 11 + 9 * p.letters + 15 * p.constraints
unfolding plan_text
plan_length_lem p =
    let letters : length (letters_text p) ≡ 9 * p.letters = join_length p.letters 9 (λ i. letter_text i (letter_at p i)) (λ i lt. refl) in
    let constraints : length (constraints_text p) ≡ 15 * p.constraints =
    join_length p.constraints 15 (λ j. constraint_text (constraint_at p j)) (λ j lt. refl) in
    rw (length-append (head_text p ++ letters_text p) (constraints_text p), length-append (head_text p) (letters_text p), letters, constraints)

-- ---- a plan with all its entries used

abbrev pub longest : Plan
longest =
    record {
      horizon = 0;
      points = 6;
      letters = 6;
      constraints = 64;
      letter = listed 6 (λ i. record { point = i; kind = 0 });
      constraint = replicate 64 zero_constraint;
    }

pub longest_fine : WellFormed longest
unfolding plan_fault first unless head_fine letters_fine letter_entry letter_fine taken_before constraints_fine constraint_entry constraint_fine bound_fine all_below any_below listed
longest_fine = (fine_exactly longest).0 refl
