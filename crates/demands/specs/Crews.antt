-- Definitions: crews: the calls that one made over a plan and a tree, with what each call handed back (document 01, "The crew's run"). To
-- be believed, for demand 3.
use Rattle.std.specs.Prelude.{◌≡◌, List, [], ◌∷◌, ◌++◌, ℕ, Result, Ok, Err}
use Rattle.network.specs.Crew.{Step}
use Rattle.plan.specs.declared.Plan.{Plan}
use Rattle.plan.specs.declared.Refusal.{Refusal}
use Rattle.run.specs.declared.History.{History}
use Rattle.run.specs.declared.Shown.{Shown}
use Rattle.run.specs.declared.Shown.TheVariants as shown
use Rattle.run.specs.declared.Reported.{Reported}
use Rattle.run.specs.History.{empty_history}
use Rattle.run.specs.Told.{instructed, shown_told, reported_answer}
use Rattle.following.specs.Calls.{Run}

-- what showing and reporting hand back at a history, as a contract says that cites R's definitions
module _ (R : Run) (p : Plan) (tree : List ℕ) (h : History) where
  abbrev pub ShownBy : Shown → Type 0
  ShownBy says = shown_told says ≡ R.shows p tree h

  abbrev pub ReportedBy : ℕ → Reported → Type 0
  ReportedBy o a = reported_answer a ≡ R.reports p tree h o

-- A call that was made, and what it handed back. A report has with it what showing says at the history that it was given: what the crew was
-- told there (document 01's term), asked or not.
pub data Made : Type 0 where
  showed : Shown → Made
  reported : ℕ → Shown → Reported → Made

-- Each call was answered, and given the history as the call before left it: a report leaves the one that it hands back, a showing the one
-- that it was given.
unfoldable pub Answered : Run → Plan → List ℕ → History → List Made → Type 0
Answered R p tree h [] = Unit {0}
Answered R p tree h (showed says ∷ calls) = ShownBy R p tree h says × Answered R p tree h calls
Answered R p tree h (reported o says a ∷ calls) =
    ShownBy R p tree h says × ReportedBy R p tree h o a × Answered R p tree a.history calls

-- something is handed back, whatever the history and the mask
pub record AlwaysAnswers (R : Run) (p : Plan) (tree : List ℕ) : Type 0 where
  pub shows : (h : History) → (s : Shown) × ShownBy R p tree h s
  pub reports : (h : History) (o : ℕ) → (a : Reported) × ReportedBy R p tree h o a

-- the masks of the accepted reports, in order
abbrev pub accepted_by : ℕ → Result (Unit {0}) Refusal → List ℕ
accepted_by o (Ok _) = o ∷ []
accepted_by o (Err r) = []

unfoldable pub accepted_in : List Made → List ℕ
accepted_in [] = []
accepted_in (showed says ∷ calls) = accepted_in calls
accepted_in (reported o says a ∷ calls) = accepted_by o a.answer ++ accepted_in calls

-- the history that is held after the calls
unfoldable pub held_after : History → List Made → History
held_after h [] = h
held_after h (showed says ∷ calls) = held_after h calls
held_after h (reported o says a ∷ calls) = held_after a.history calls

-- An accepted report follows the instruction told at the history it was given (document 01's words); no other report follows any.
abbrev pub followed_by : Shown → ℕ → Result (Unit {0}) Refusal → List Step
followed_by (shown.Instruct v) o (Ok _) = record { instruction = instructed v; report = o } ∷ []
followed_by (shown.Instruct v) o (Err r) = []
followed_by shown.Done o a = []
followed_by (shown.Refused r) o a = []

unfoldable pub steps_taken : List Made → List Step
steps_taken [] = []
steps_taken (showed says ∷ calls) = steps_taken calls
steps_taken (reported o says a ∷ calls) = followed_by says o a.answer ++ steps_taken calls

-- One crew: its calls, the first one given the empty history, and what showing says at the history that it holds then, asked or not.
pub record Crew (R : Run) (p : Plan) (tree : List ℕ) : Type 0 where
  pub calls : List Made
  pub answered : Answered R p tree empty_history calls
  pub says : Shown
  pub told : ShownBy R p tree (held_after empty_history calls) says

module _ {R : Run} {p : Plan} {tree : List ℕ} (crew : Crew R p tree) where
  abbrev pub history_held : History
  history_held = held_after empty_history crew.calls

  abbrev pub reports_made : List ℕ
  reports_made = accepted_in crew.calls

  abbrev pub steps_followed : List Step
  steps_followed = steps_taken crew.calls

  -- the run is done when the crew is told done
  abbrev pub Done : Type 0
  Done = crew.says ≡ shown.Done
