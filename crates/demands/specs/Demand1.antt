-- Demand 1, as one statement about a planner: whatever is handed in gets a result or a refusal by one of the numbers that document 01, or
-- its card, gives the call, in its order, and every lent byte afterwards is as it says. proofs/Demand1Theorem.antt proves it of this planner. (None of its
-- calls has a `requires`, and each contract equates the whole answer and every lent byte with the planner's definitions.) To be believed,
-- for demand 1.
use Rattle.std.specs.Prelude.{◌≡◌, List, ℕ, ◌≤◌, length}
use Rattle.plan.specs.declared.Plan.{Plan}
use Rattle.plan.specs.declared.Refusal.{Refusal}
use Rattle.plan.specs.Refusal.{refusal_number}
use Rattle.frame.specs.Frame.{fault_text}
use Rattle.run.specs.declared.History.{History}
use Rattle.following.specs.Calls.{begun, after_calls}
use Rattle.following.specs.Following.{calls_in}
use Rattle.demands.specs.Planner.{Planner}
use Rattle.demands.specs.EachCall.{AnswersJudge, AnswersReadPlan, AnswersWritePlan, AnswersReadTree, AnswersWriteTree}
use Rattle.demands.specs.EachCall.{AnswersCheck, AnswersSearch, AnswersShow, AnswersReport, AnswersVerdict, AnswersScreen, AnswersTable, AnswersProgram}

pub record Demand1 (P : Planner) : Type 0 where
  pub judge : (p : Plan) → AnswersJudge p (P.judges p)
  pub read_plan_lem : (t : List ℕ) → AnswersReadPlan t (P.reads_plan t)
  pub write_plan_lem : (p : Plan) (xs : List ℕ) → AnswersWritePlan p xs (P.writes_plan p xs) (P.plan_written p xs)
  pub read_tree_lem : (t xs : List ℕ) → AnswersReadTree t xs (P.reads_tree t xs) (P.tree_read t xs)
  pub write_tree_lem : (bs xs : List ℕ) → AnswersWriteTree bs xs (P.writes_tree bs xs) (P.tree_written bs xs)
  pub check : (p : Plan) (bs : List ℕ) → AnswersCheck p bs (P.checks p bs)
  pub search : (p : Plan) (xs : List ℕ) → AnswersSearch p xs (P.searches p xs) (P.leaves p xs)
  pub show : (p : Plan) (bs : List ℕ) (h : History) → AnswersShow p bs h (P.run.shows p bs h)
  pub report :
      (p : Plan) (bs : List ℕ) (h : History) (o : ℕ) →
      AnswersReport p h o (P.run.shows p bs h) (P.run.reports p bs h o)
  -- following: the calls of the list one after the other, and no more than eight steps (a history has eight masks by its type)
  pub follow :
      (p : Plan) (bs : List ℕ) (h : History) (calls : List ℕ) →
      P.follows p bs h calls ≡ after_calls P.run p bs (begun h) (calls_in calls)
  pub follow_few :
      (p : Plan) (bs : List ℕ) (h : History) (calls : List ℕ) → length h.masks ≡ 8 → length (P.follows p bs h calls).steps ≤ 8
  pub verdict : (p : Plan) (values : ℕ) → AnswersVerdict p values (P.fixes p values)
  pub screen : (p : Plan) → AnswersScreen p (P.screens p)
  pub differences : (p : Plan) (values : ℕ) → AnswersTable p values (P.tabulates p values)
  -- a refusal's frame: 7F and its number
  pub refuse_frame : (r : Refusal) → P.refuses r ≡ fault_text (refusal_number r)
  pub program : (input : List ℕ) → AnswersProgram input (P.prints input)
