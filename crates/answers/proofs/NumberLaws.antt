-- Laws of answers as numbers. Only the checker need believe this file.
use mathlib.Core.Path.{◌≡◌, refl}
use mathlib.Core.Bool.{Bool, false}
use Prim.Native.Nat.{ℕ}
use mathlib.Core.List.{List}
use Rattle.std.specs.Prelude.{Option, Some, None, Result, Ok, Err}
use Rattle.network.specs.Mask.{digit}
use Rattle.plan.specs.declared.Plan.{Plan}
use Rattle.plan.specs.declared.Refusal.{Refusal}
use Rattle.plan.specs.Refusal.{refusal_number, judged_number}
use Rattle.plan.specs.Answer.{answer_of}
use Rattle.plan.proofs.RefusalLaws as refusals
use Rattle.plan_text.specs.PlanRead.{plan_read_answer}
use Rattle.run.specs.declared.Shown.{Shown}
use Rattle.run.specs.declared.Shown.TheVariants as shown
use Rattle.run.specs.Told.{shown_told}
use Rattle.differences.specs.declared.DifferenceTable.{DifferenceTable}
use Rattle.differences.specs.Answers.{table_answer}
use Rattle.verdict.specs.Answers.{verdict_answer}
use Rattle.answers.specs.Numbers.{fault_number, numbered, answer_number, fixed_number, test_number, table_number, told_number, number_of, some_number}

-- a refusal's number, whatever stands beside it
pub refused_is : (r : Refusal) (v : ℕ) → fault_number (refusal_number r) ≡ numbered (refusal_number r) v
unfolding numbered
refused_is r v = rw (refusals.some_number r)

-- and the number of each call's answer, by what the answer says
pub number_judged : (a : Result (Unit {0}) Refusal) → number_of (λ _. 1) a ≡ numbered (judged_number a) 1
unfolding numbered
number_judged (Ok _) = refl
number_judged (Err r) = refused_is r 1

pub number_read : (a : Result Plan Refusal) → number_of (λ _. 1) a ≡ numbered (plan_read_answer a).fault 1
unfolding numbered
number_read (Ok p) = refl
number_read (Err r) = refused_is r 1

pub number_counted : (a : Result ℕ Refusal) → number_of (λ n. n) a ≡ answer_number (answer_of 0 a)
unfolding numbered
number_counted (Ok n) = refl
number_counted (Err r) = refused_is r 0

pub number_tested : (a : Result Bool Refusal) → number_of digit a ≡ test_number (answer_of false a)
unfolding numbered
number_tested (Ok b) = refl
number_tested (Err r) = refused_is r 0

pub number_fixed : (a : Result (Option (List ℕ)) Refusal) → number_of some_number a ≡ fixed_number (verdict_answer a)
unfolding numbered
number_fixed (Ok None) = refl
number_fixed (Ok (Some slots)) = refl
number_fixed (Err r) = refused_is r 0

pub number_tabled : (a : Result (Option DifferenceTable) Refusal) → number_of some_number a ≡ table_number (table_answer a)
unfolding numbered
number_tabled (Ok None) = refl
number_tabled (Ok (Some t)) = refl
number_tabled (Err r) = refused_is r 0

pub told_refused : (a : Shown) (r : Refusal) → a ≡ shown.Refused r → fault_number (refusal_number r) ≡ told_number (shown_told a)
told_refused a r e = rw e
