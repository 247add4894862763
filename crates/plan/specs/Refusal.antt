-- Definitions: document 01's number of each refusal. Nothing else in the definitions says these numbers. To be believed, for demand 1, 3.
use Rattle.std.specs.Prelude.{ℕ, Result, Ok, Err}
use Rattle.plan.specs.declared.Refusal.{Refusal}
use Rattle.plan.specs.declared.Refusal.TheVariants as refusal

abbrev pub refusal_number : Refusal → ℕ
refusal_number refusal.PlanText = 1
refusal_number refusal.Head = 2
refusal_number refusal.Letters = 3
refusal_number refusal.Constraints = 4
refusal_number refusal.TreeText = 5
refusal_number refusal.Shape = 6
refusal_number refusal.Broken = 7
refusal_number refusal.Mask = 8
refusal_number refusal.AfterDone = 9
refusal_number refusal.Buffer = 10
refusal_number refusal.Hopeless = 11

-- 0 for fine, else the refusal's number
abbrev pub judged_number : Result (Unit {0}) Refusal → ℕ
judged_number (Ok _) = 0
judged_number (Err r) = refusal_number r
