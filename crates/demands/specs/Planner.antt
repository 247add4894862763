-- Definitions: what answers the calls of document 01 and of the cards. The demands are of any such planner. To be believed, for demand 1, 2, 3.
use Rattle.std.specs.Prelude.{Bool, List, ℕ}
use Rattle.plan.specs.declared.Plan.{Plan}
use Rattle.plan.specs.declared.Refusal.{Refusal}
use Rattle.plan.specs.Answer.{Answer}
use Rattle.run.specs.declared.History.{History}
use Rattle.following.specs.Calls.{Run, Progress}
use Rattle.verdict.specs.Answers.{Fixed}
use Rattle.differences.specs.Answers.{Differences}

-- What each call answers, and what it leaves in a buffer that is lent to it, given last. A fault is document 01's number, 0 for none.
pub record Planner : Type 0 where
  -- a plan record; a plan text; a plan record written: the text's length
  pub judges : Plan → ℕ
  pub reads_plan : List ℕ → Answer Plan
  pub writes_plan : Plan → List ℕ → Answer ℕ
  pub plan_written : Plan → List ℕ → List ℕ
  -- a tree text read: the number of nodes; a tree's bytes written: the text's length; a plan record and a tree's bytes checked
  pub reads_tree : List ℕ → List ℕ → Answer ℕ
  pub tree_read : List ℕ → List ℕ → List ℕ
  pub writes_tree : List ℕ → List ℕ → Answer ℕ
  pub tree_written : List ℕ → List ℕ → List ℕ
  pub checks : Plan → List ℕ → ℕ
  -- a plan record searched: the number of nodes
  pub searches : Plan → List ℕ → Answer ℕ
  pub leaves : Plan → List ℕ → List ℕ
  -- showing and reporting; and a list of calls, as bytes, over a plan record, a tree's bytes and a history
  pub run : Run
  pub follows : Plan → List ℕ → History → List ℕ → Progress
  -- a plan record and a mask that sets all letters: the schedule or "none"; whether a plan record passes the screen
  pub fixes : Plan → ℕ → Answer Fixed
  pub screens : Plan → Answer Bool
  -- card 2: a plan record and a mask that sets all letters: the table of differences or "none"
  pub tabulates : Plan → ℕ → Answer Differences
  -- a refusal's frame; what the program prints for its input
  pub refuses : Refusal → List ℕ
  pub prints : List ℕ → List ℕ
