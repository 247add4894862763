-- Laws: demand 3's parts 4 to 6 of lists of calls, where each call's answer is a function of what it is given. The theorem is proved of
-- these, and impostors are refuted by them; the statement itself is over the values that calls hand back (specs/Demand3.antt). Only the
-- checker need believe this file.
use mathlib.Core.Path.{◌≡◌}
use mathlib.Core.Logic.{◌↔◌}
use mathlib.Core.List.{List, map}
use mathlib.Core.Bool.{true}
use Prim.Native.Nat.{ℕ, ◌≤◌, ◌<◌}
use Rattle.network.specs.Network.{keeps}
use Rattle.network.specs.Game.{start, Move, Outcome}
use Rattle.network.specs.Tree.{Tree}
use Rattle.network.specs.FirstMoves.{FirstMoves}
use Rattle.network.specs.Crew.{Step, times_performed, slot_by_steps, value_by_steps, HeardAlike, ToldAlike}
use Rattle.plan.specs.declared.Plan.{Plan}
use Rattle.plan.specs.Plan.{network_of}
use Rattle.run.specs.declared.History.{History}
use Rattle.run.specs.History.{history_of, empty_history, longer}
use Rattle.run.specs.Told.{Told, instruct, complete, instruction_at}
use Rattle.following.specs.Calls.{Run, Call, begun, after_calls}

-- one crew's list of calls, the first one given the empty history
module _ (R : Run) (p : Plan) (tree : List ℕ) (calls : List Call) where
  abbrev pub history_after : History
  history_after = (after_calls R p tree (begun empty_history) calls).history

  abbrev pub steps_after : List Step
  steps_after = (after_calls R p tree (begun empty_history) calls).steps

  abbrev pub reports_after : List ℕ
  reports_after = map (λ st. st.report) steps_after

  abbrev pub told_after : Told
  told_after = R.shows p tree history_after

  abbrev pub ListDone : Type 0
  ListDone = told_after ≡ complete

-- `CanBeLengthened` of the functions
pub record Lengthened (R : Run) (p : Plan) (tree : List ℕ) (h : History) : Type 0 where
  pub instruction : Move
  pub is_told : R.shows p tree h ≡ instruct instruction
  pub accepts_exactly : (o : ℕ) → ((R.reports p tree h o).fault ≡ 0) ↔ Outcome (network_of p) instruction o
  pub lengthens : (o : ℕ) → (R.reports p tree h o).fault ≡ 0 → (R.reports p tree h o).value ≡ longer h o

-- `EveryCrew` and `EveryTwoCrews` of lists of calls
pub record EveryList (R : Run) (p : Plan) (tree : List ℕ) (calls : List Call) : Type 0 where
  pub holds_reports : history_after R p tree calls ≡ history_of (reports_after R p tree calls)
  pub at_most_8 : (history_after R p tree calls).count ≤ 8
  pub told_by_rule :
      (t : Tree) → FirstMoves (network_of p) t (start (network_of p)) →
      told_after R p tree calls ≡ instruction_at p t (reports_after R p tree calls)
  pub goes_on : ¬ ListDone R p tree calls → Lengthened R p tree (history_after R p tree calls)
  pub performed_once : ListDone R p tree calls → (x : ℕ) → x < p.points → times_performed (steps_after R p tree calls) x ≡ 1
  pub within_horizon_lem : ListDone R p tree calls → (x : ℕ) → x < p.points → slot_by_steps (steps_after R p tree calls) x ≤ p.horizon
  pub constraints_held :
      ListDone R p tree calls →
      keeps (network_of p) (slot_by_steps (steps_after R p tree calls)) (value_by_steps (network_of p) (steps_after R p tree calls)) ≡ true

abbrev pub EveryTwoLists : Run → Plan → List ℕ → Type 0
EveryTwoLists R p tree =
    (calls calls' : List Call) → ListDone R p tree calls → ListDone R p tree calls' → (u : ℕ) →
    HeardAlike (network_of p) (steps_after R p tree calls) (steps_after R p tree calls') u →
    ToldAlike (steps_after R p tree calls) (steps_after R p tree calls') u
