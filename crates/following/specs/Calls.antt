-- Definitions: a crew's list of calls over one plan and tree (document 01, "The crew's run"). To be believed, for demand 1, 2, 3.
use Rattle.std.specs.Prelude.{List, [], ◌∷◌, ◌++◌, ℕ, zero, suc}
use Rattle.network.specs.Crew.{Step}
use Rattle.plan.specs.declared.Plan.{Plan}
use Rattle.plan.specs.Answer.{Answer}
use Rattle.run.specs.declared.History.{History}
use Rattle.run.specs.Told.{Told, instruct, complete, refuse}

-- What answers a crew's calls: this planner's run, or any other.
pub record Run : Type 0 where
  pub shows : Plan → List ℕ → History → Told
  pub reports : Plan → List ℕ → History → ℕ → Answer History

-- a call: showing, or reporting a mask
pub data Call : Type 0 where
  showing : Call
  reporting : ℕ → Call

-- how far a crew has come: its history, and the steps that it followed
pub record Progress : Type 0 where
  pub history : History
  pub steps : List Step

abbrev pub begun : History → Progress
begun h = record { history = h; steps = [] }

-- Each accepted report (one without a fault) follows (document 01's word) the instruction told at the history it was given; no other
-- report follows any.
unfoldable pub steps_of : Told → ℕ → ℕ → List Step
steps_of (instruct m) o zero = record { instruction = m; report = o } ∷ []
steps_of (instruct m) o (suc fault) = []
steps_of complete o fault = []
steps_of (refuse n) o fault = []

-- Each call is given the history as the call before left it: a report leaves the one that it hands back, a showing the one it was given.
module _ (R : Run) (p : Plan) (tree : List ℕ) where
  unfoldable pub after_call : Progress → Call → Progress
  after_call r showing = r
  after_call r (reporting o) =
      let answer = R.reports p tree r.history o in
      record { history = answer.value; steps = r.steps ++ steps_of (R.shows p tree r.history) o answer.fault }

  unfoldable pub after_calls : Progress → List Call → Progress
  after_calls r [] = r
  after_calls r (call ∷ calls) = after_calls (after_call r call) calls
