-- Cases: a crew's list of calls over the tree of K4 (document 01, K14), by computing: how far it comes, and its calls as bytes. Only the
-- checker need believe this file; a reader may like to.
use mathlib.Core.Path.{◌≡◌, refl}
use mathlib.Core.List.{List, [], ◌∷◌}
use Prim.Native.Nat.{ℕ}
use lib.ListN.{replicate}
use Rattle.network.specs.Game.{Move}
use Rattle.network.specs.Crew.{Step}
use Rattle.plan.proofs.Cases.{k4}
use Rattle.checker.proofs.Cases.{k4_tree}
use Rattle.run.specs.History.{history_of, empty_history}
use Rattle.run.specs.Told.{instruct, complete, refuse}
use Rattle.run.proofs.Cases.{running, move}
use Rattle.following.specs.Calls.{Call, showing, reporting, Progress, begun, steps_of, after_call, after_calls}
use Rattle.following.specs.ThisRun.{the_run}
use Rattle.following.specs.Following.{calls_in, followed_record}

-- To unfold this is to unfold all that a list of calls over a tree computes.
unfoldable pub calling : Unit {0}
unfolding running steps_of after_call after_calls
calling = tt

abbrev pub step : Move → ℕ → Step
step m o = record { instruction = m; report = o }

-- ---- one call

-- a showing leaves the crew where it is, whatever its history
pub showing_leaves : (r : Progress) → after_call the_run k4 k4_tree r showing ≡ r
unfolding after_call
showing_leaves r = refl

-- how far a crew has come after these calls
abbrev pub come : List Call → Progress
come calls = after_calls the_run k4 k4_tree (begun empty_history) calls

-- an accepted report leaves the longer history and is a step; a refused one leaves the history and is none
pub one_call :
    (come [] ≡ begun empty_history)
    × (come (reporting 1 ∷ []) ≡ record { history = history_of (1 ∷ []); steps = step (move 0 1 0) 1 ∷ [] })
    × (come (reporting 0 ∷ []) ≡ record { history = history_of (0 ∷ []); steps = step (move 0 1 0) 0 ∷ [] })
    × (come (reporting 2 ∷ []) ≡ begun empty_history) × (come (reporting 255 ∷ []) ≡ begun empty_history)
unfolding calling
one_call = (refl, refl, refl, refl, refl)

-- what a report follows: the instruction told, where it is accepted, and nothing else
pub followed_or_not :
    (steps_of (instruct (move 1 2 0)) 3 0 ≡ step (move 1 2 0) 3 ∷ []) × (steps_of (instruct (move 1 2 0)) 3 8 ≡ [])
    × (steps_of complete 3 0 ≡ []) × (steps_of (refuse 9) 3 0 ≡ [])
unfolding steps_of
followed_or_not = (refl, refl, refl, refl)

-- ---- K14: a showing, report 2 (refused, 8), report 1, a showing, report 0, report 0 (refused, 9)

abbrev pub k14_calls : List Call
k14_calls = showing ∷ reporting 2 ∷ reporting 1 ∷ showing ∷ reporting 0 ∷ reporting 0 ∷ []

abbrev pub k14_steps : List Step
k14_steps = step (move 0 1 0) 1 ∷ step (move 1 2 0) 0 ∷ []

pub k14 : come k14_calls ≡ record { history = record { count = 2; masks = 1 ∷ 0 ∷ replicate 6 0 }; steps = k14_steps }
unfolding calling
k14 = refl

-- Once done, a report leaves everything, whatever its mask.
pub k14_done : (o : ℕ) → after_call the_run k4 k4_tree (come k14_calls) (reporting o) ≡ come k14_calls
unfolding calling
k14_done o = refl

-- ---- the same as bytes

pub k14_bytes : calls_in (0 ∷ 7 ∷ 1 ∷ 2 ∷ 255 ∷ 1 ∷ 0 ∷ 0 ∷ 2 ∷ 0 ∷ 1 ∷ 0 ∷ 1 ∷ []) ≡ k14_calls
unfolding calls_in
k14_bytes = refl

pub few_bytes : (calls_in [] ≡ []) × (calls_in (1 ∷ []) ≡ []) × (calls_in (1 ∷ 5 ∷ []) ≡ reporting 5 ∷ [])
unfolding calls_in
few_bytes = (refl, refl, refl)

-- two steps recorded, and six zero ones
pub k14_recorded :
    followed_record (come k14_calls)
    ≡ record {
      history = history_of (1 ∷ 0 ∷ []);
      count = 2;
      steps =
          record { instruction = record { slot = 0; points = 1; choices = 0 }; report = 1 }
          ∷ record { instruction = record { slot = 1; points = 2; choices = 0 }; report = 0 }
          ∷ replicate 6 (record { instruction = record { slot = 0; points = 0; choices = 0 }; report = 0 });
    }
unfolding calling followed_record
k14_recorded = refl

-- begun at a history of one report: two reports in the end, and one step followed
pub begun_later :
    followed_record (after_calls the_run k4 k4_tree (begun (history_of (1 ∷ []))) (calls_in (1 ∷ 1 ∷ 1 ∷ 0 ∷ [])))
    ≡ record {
      history = history_of (1 ∷ 0 ∷ []);
      count = 1;
      steps =
          record { instruction = record { slot = 1; points = 2; choices = 0 }; report = 0 }
          ∷ replicate 7 (record { instruction = record { slot = 0; points = 0; choices = 0 }; report = 0 });
    }
unfolding calling followed_record calls_in
begun_later = refl

-- at a malformed history every call is refused, and leaves it
pub malformed_stays :
    after_calls the_run k4 k4_tree (begun (record { count = 9; masks = replicate 8 0 })) (showing ∷ reporting 0 ∷ reporting 1 ∷ [])
    ≡ begun (record { count = 9; masks = replicate 8 0 })
unfolding calling
malformed_stays = refl
