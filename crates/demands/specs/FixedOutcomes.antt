-- Document 01, "Fixed outcomes and the screen", as one statement about a planner, over what `least_schedule` and `screen_plan` hand back
-- where their contracts cite the planner's definitions. proofs/FixedOutcomesTheorem.antt proves it of this planner,
-- proofs/FurtherImpostors.antt refutes it of another. To be believed, for the verdict only.
use Rattle.std.specs.Prelude.{◌≡◌, ◌↔◌, Bool, true, false, ℕ, Result, Ok}
use Rattle.network.specs.Fixed.{Setting, PassesScreen}
use Rattle.plan.specs.declared.Plan.{Plan}
use Rattle.plan.specs.Plan.{network_of}
use Rattle.plan.specs.WellFormed.{WellFormed}
use Rattle.plan.specs.declared.Refusal.{Refusal}
use Rattle.verdict.specs.Says.{Says}
use Rattle.verdict.specs.Answers.{Verdict, verdict_answer, screen_answer}
use Rattle.demands.specs.Planner.{Planner}

pub record FixedOutcomes (P : Planner) : Type 0 where
  -- something is handed back
  pub verdict_said : (p : Plan) (m : ℕ) → (r : Verdict) × (verdict_answer r ≡ P.fixes p m)
  pub screen_said : (p : Plan) → (r : Result Bool Refusal) × (screen_answer r ≡ P.screens p)
  -- a well-formed plan and a mask that sets all its letters: the least schedule, or "none" where there is no schedule
  pub verdict :
      (p : Plan) (m : ℕ) (r : Verdict) → verdict_answer r ≡ P.fixes p m → WellFormed p → Setting (network_of p) m → Says p m r
  -- (whatever the planner: one answer alone says so)
  pub one_verdict : (p : Plan) (m : ℕ) (v w : Verdict) → Says p m v → Says p m w → v ≡ w
  -- a well-formed plan passes the screen exactly when every setting of all its letters has a schedule, and fails it exactly when one has none
  pub passes :
      (p : Plan) (r : Result Bool Refusal) → screen_answer r ≡ P.screens p → WellFormed p → (r ≡ Ok true) ↔ PassesScreen (network_of p)
  pub fails :
      (p : Plan) (r : Result Bool Refusal) → screen_answer r ≡ P.screens p → WellFormed p → (r ≡ Ok false) ↔ (¬ PassesScreen (network_of p))
