-- Definitions: what a verdict says, and number and values of each case of what the verdict and the screen hand back. To be believed, for
-- demand 1, 2, 3.
use Rattle.std.specs.Prelude.{Bool, true, false, List, ℕ, Option, Some, None, Result, Ok, Err, replicate}
use Rattle.plan.specs.declared.Refusal.{Refusal}
use Rattle.plan.specs.Answer.{Answer, fine, refused}

-- what is said under fixed outcomes: whether there is a schedule, and the eight slots of the least one
pub record Fixed : Type 0 where
  pub scheduled : Bool
  pub slots : List ℕ

-- document 01's "none"
abbrev pub none : Fixed
none = record { scheduled = false; slots = replicate 8 0 }

-- what the verdict hands back: the slots of the least schedule, or "none", or why it is refused
abbrev pub Verdict : Type 0
Verdict = Result (Option (List ℕ)) Refusal

-- what it says where it is not refused
abbrev pub saying : Option (List ℕ) → Fixed
saying (Some slots) = record { scheduled = true; slots = slots }
saying None = none

abbrev pub verdict_answer : Verdict → Answer Fixed
verdict_answer (Ok said) = fine (saying said)
verdict_answer (Err r) = refused none r

-- what the screen hands back: whether the plan passes, or why it is refused
abbrev pub screen_answer : Result Bool Refusal → Answer Bool
screen_answer (Ok passed) = fine passed
screen_answer (Err r) = refused false r
