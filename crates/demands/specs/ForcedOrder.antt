-- Card 2, "Which step must come before which", as one statement about a planner, over what `difference_table` hands back where its contract
-- cites the planner's definitions. proofs/ForcedOrderTheorem.antt proves it of this planner, proofs/FurtherImpostors.antt refutes it of
-- others. To be believed, for card 2 only.
use Rattle.std.specs.Prelude.{◌≡◌, ◌↔◌, ℕ, ◌<◌, negsuc, ◌≤ℤ◌, Option, None, Result, Ok, Err}
use Rattle.network.specs.Mask.{bit}
use Rattle.network.specs.Fixed.{Setting, Schedulable}
use Rattle.network.specs.Differences.{ForcedBefore}
use Rattle.plan.specs.declared.Plan.{Plan}
use Rattle.plan.specs.declared.Refusal.{Refusal}
use Rattle.plan.specs.Plan.{network_of}
use Rattle.plan.specs.WellFormed.{WellFormed}
use Rattle.verdict.specs.Answers.{Verdict, verdict_answer}
use Rattle.differences.specs.declared.DifferenceTable.{DifferenceTable}
use Rattle.differences.specs.Answers.{table_answer, rows_of}
use Rattle.differences.specs.Says.{entry, Says}
use Rattle.demands.specs.Planner.{Planner}

pub record ForcedOrder (P : Planner) : Type 0 where
  -- something is handed back
  pub said : (p : Plan) (m : ℕ) → (t : Result (Option DifferenceTable) Refusal) × (table_answer t ≡ P.tabulates p m)
  -- a well-formed plan and a mask that sets all its letters: at row X, column Y the largest value that time of Y minus time of X takes in any
  -- schedule within the horizon, zero where a point is unused; or "none" where there is no schedule, and all is zero
  pub table :
      (p : Plan) (m : ℕ) (t : Result (Option DifferenceTable) Refusal) → table_answer t ≡ P.tabulates p m → WellFormed p → Setting (network_of p) m →
      Says p m t
  -- (whatever the planner: one answer alone says so)
  pub one_table :
      (p : Plan) (m : ℕ) (t u : Result (Option DifferenceTable) Refusal) → Says p m t → Says p m u → t ≡ u
  -- where a schedule exists, X is forced strictly before Y exactly when row Y, column X is at most -1 (`negsuc 0`)
  pub forced :
      (p : Plan) (m : ℕ) (t : Result (Option DifferenceTable) Refusal) → table_answer t ≡ P.tabulates p m → WellFormed p → Setting (network_of p) m →
      Schedulable (network_of p) (bit m) → (x y : ℕ) → x < p.points → y < p.points →
      ForcedBefore (network_of p) (bit m) x y ↔ (entry (rows_of t) y x ≤ℤ negsuc 0)
  -- "none" exactly where the verdict says none, and refused as in the verdict, whatever is handed in
  pub none :
      (p : Plan) (m : ℕ) (t : Result (Option DifferenceTable) Refusal) (v : Verdict) → table_answer t ≡ P.tabulates p m → verdict_answer v ≡ P.fixes p m →
      (t ≡ Ok None) ↔ (v ≡ Ok None)
  pub refused :
      (p : Plan) (m : ℕ) (t : Result (Option DifferenceTable) Refusal) (v : Verdict) → table_answer t ≡ P.tabulates p m → verdict_answer v ≡ P.fixes p m →
      (r : Refusal) → (t ≡ Err r) ↔ (v ≡ Err r)
