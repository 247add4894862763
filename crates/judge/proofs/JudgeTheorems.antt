-- Theorems on the judge: fine, 2, 3 and 4 are each given exactly. Read the statements; only the checker need believe the proofs.
use mathlib.Core.Path.{◌≡◌, sym, ap, ◌∙◌}
use mathlib.Core.Logic.{◌↔◌}
use Rattle.plan.specs.declared.Plan.{Plan}
use Rattle.std.specs.Prelude.{Result, Ok, Err}
use Rattle.plan.specs.declared.Refusal.{Refusal}
use Rattle.plan.specs.declared.Refusal.TheVariants as refusal
use Rattle.plan.specs.Refusal.{refusal_number, judged_number}
use Rattle.plan.specs.WellFormed.{FineHead, FineLetters, FineConstraints, WellFormed}
use Rattle.plan.proofs.RefusalLaws.{fine_is, refused_is}
use Rattle.judge.specs.Judge.{plan_fault}
use Rattle.judge.proofs.WellFormedLaws as laws

-- ---- the fault of a plan record, whatever record it is

module _ (p : Plan) where
  -- none exactly where it is well formed
  pub fine_exactly : (plan_fault p ≡ 0) ↔ WellFormed p
  fine_exactly = laws.fine_exactly p

  -- 2 exactly where a value of its head is out of range
  pub head_refused_exactly : (plan_fault p ≡ refusal_number refusal.Head) ↔ (¬ FineHead p)
  head_refused_exactly = laws.head_refused_exactly p

  -- 3 exactly where its head is fine and its letters are not
  pub letters_refused_exactly : (plan_fault p ≡ refusal_number refusal.Letters) ↔ (FineHead p × ¬ FineLetters p)
  letters_refused_exactly = laws.letters_refused_exactly p

  -- 4 exactly where its head and its letters are fine and its constraints are not
  pub constraints_refused_exactly :
      (plan_fault p ≡ refusal_number refusal.Constraints) ↔ (FineHead p × FineLetters p × ¬ FineConstraints p)
  constraints_refused_exactly = laws.constraints_refused_exactly p

-- ---- the same of what `judge` hands back, by its promise

module _ (p : Plan) (r : Result (Unit {0}) Refusal) (promise : judged_number r ≡ plan_fault p) where
  pub judged_fine_exactly : (r ≡ Ok tt) ↔ WellFormed p
  judged_fine_exactly =
      (λ f. (laws.fine_exactly p).0 (sym promise ∙ ap judged_number f), λ wf. fine_is r (promise ∙ (laws.fine_exactly p).1 wf))

  -- an answer that has a refusal's number is that refusal
  number_exactly : {A : Type 0} (k : Refusal) → ((plan_fault p ≡ refusal_number k) ↔ A) → (r ≡ Err k) ↔ A
  number_exactly k f =
      (λ e. f.0 (sym promise ∙ ap judged_number e), λ a. refused_is r k (promise ∙ f.1 a))

  pub judged_head_exactly : (r ≡ Err refusal.Head) ↔ (¬ FineHead p)
  judged_head_exactly = number_exactly refusal.Head (laws.head_refused_exactly p)

  pub judged_letters_exactly : (r ≡ Err refusal.Letters) ↔ (FineHead p × ¬ FineLetters p)
  judged_letters_exactly = number_exactly refusal.Letters (laws.letters_refused_exactly p)

  pub judged_constraints_exactly :
      (r ≡ Err refusal.Constraints) ↔ (FineHead p × FineLetters p × ¬ FineConstraints p)
  judged_constraints_exactly = number_exactly refusal.Constraints (laws.constraints_refused_exactly p)
