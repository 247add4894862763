-- Definitions: what a call answers in document 01's numbers and values. To be believed, for demand 1, 2, 3.
use Rattle.std.specs.Prelude.{ℕ, Result, Ok, Err}
use Rattle.plan.specs.declared.Refusal.{Refusal}
use Rattle.plan.specs.Refusal.{refusal_number}

-- an answer: the fault, and the value
pub record Answer (A : Type 0) : Type 0 where
  pub fault : ℕ
  pub value : A

abbrev pub fine : {A : Type 0} → A → Answer A
fine a = record { fault = 0; value = a }

abbrev pub refused : {A : Type 0} → A → Refusal → Answer A
refused zeros r = record { fault = refusal_number r; value = zeros }

-- number and value of each case of what a call hands back; beside a refusal the value's place is all zero
abbrev pub answer_of : {A : Type 0} → A → Result A Refusal → Answer A
answer_of zeros (Ok a) = fine a
answer_of zeros (Err r) = refused zeros r
