-- Cases: document 01's K14, from the search to the end of the run, by computing: what is handed back for K4 and left in a buffer, a crew's
-- calls with what each hands back, and what it did by its steps. So demand 3 is not said of nothing. Only the checker need believe this file; a reader may like to.
use Rattle.std.specs.Prelude.{Ok, Err}
use mathlib.Core.Path.{◌≡◌, refl}
use mathlib.Core.Logic.{inl, inr}
use mathlib.Core.List.{List, [], ◌∷◌}
use mathlib.Core.Bool.{Bool, true}
use Prim.Native.Nat.{ℕ, ◌<◌}
use native.Mathlib.Omega.{arith}
use lib.ListN.{replicate}
use Rattle.network.specs.Network.{keeps}
use Rattle.network.specs.Crew.{times_performed, slot_by_steps, value_by_steps, Some, Hears}
use Rattle.plan.specs.declared.Refusal.{Refusal}
use Rattle.plan.specs.declared.Refusal.TheVariants as refusal
use Rattle.plan.specs.Plan.{network_of}
use Rattle.plan.proofs.Cases.{k4}
use Rattle.tree.specs.Nodes.{first_nodes, overwritten}
use Rattle.checker.proofs.Cases.{k4_tree}
use Rattle.search.proofs.Cases.{computing}
use Rattle.run.specs.declared.Instruction.{Instruction}
use Rattle.run.specs.declared.Reported.{Reported}
use Rattle.run.specs.declared.Shown.{Shown}
use Rattle.run.specs.declared.Shown.TheVariants as shown
use Rattle.run.specs.History.{history_of}
use Rattle.run.specs.Told.{instruct, complete}
use Rattle.run.proofs.Cases.{running, move}
use Rattle.following.specs.Calls.{showing, reporting}
use Rattle.following.specs.ThisRun.{the_run}
use Rattle.following.proofs.Cases.{calling, step, k14_calls, k14_steps}
use Rattle.demands.specs.ThisPlanner.{planner}
use Rattle.demands.specs.Crews.{Made, showed, reported, Answered, held_after, steps_taken, Crew, history_held, steps_followed, Done}
use Rattle.demands.specs.Demand3.{SearchedBy}
use Rattle.demands.proofs.ListLaws.{steps_after, told_after}
use Rattle.demands.proofs.MadeLaws.{calls_of}

-- K4's tree is the one that the search makes of K4: three nodes, and zeros behind them
abbrev k4_lent : List ℕ
k4_lent = replicate 573 255

pub k4_searched : SearchedBy planner k4 k4_lent (Ok 3) (overwritten k4_tree k4_lent)
unfolding computing
k4_searched = record { answer = refl; buffer = refl }

pub k4_made : first_nodes (overwritten k4_tree k4_lent) 3 ≡ k4_tree
k4_made = refl

-- ---- K14, call by call: what each is given and hands back

abbrev instruction : ℕ → ℕ → ℕ → Instruction
instruction t ps ch = record { slot = t; points = ps; choices = ch }

abbrev at_root : Shown
at_root = shown.Instruct (instruction 0 1 0)

-- in slot 1 where condition 0 is true
abbrev after_true : Shown
after_true = shown.Instruct (instruction 1 2 0)

abbrev accepted : List ℕ → Reported
accepted os = record { answer = Ok tt; history = history_of os }

abbrev refused : Refusal → List ℕ → Reported
refused r os = record { answer = Err r; history = history_of os }

-- shown the root; report 2 is refused (8), report 1 accepted; shown slot 1; report 0 accepted; a further report is refused (9)
abbrev k14_made : List Made
k14_made =
    showed at_root ∷ reported 2 at_root (refused refusal.Mask []) ∷ reported 1 at_root (accepted (1 ∷ [])) ∷ showed after_true
    ∷ reported 0 after_true (accepted (1 ∷ 0 ∷ [])) ∷ reported 0 shown.Done (refused refusal.AfterDone (1 ∷ 0 ∷ [])) ∷ []

-- each is answered as the contracts say, and at the end the crew is told done
pub k14_crew : Crew the_run k4 k4_tree
unfolding calling Answered held_after
k14_crew =
    record {
      calls = k14_made;
      answered = (refl, (refl, refl, (refl, refl, (refl, (refl, refl, (refl, refl, tt))))));
      says = shown.Done;
      told = refl;
    }

pub k14_done : Done k14_crew
unfolding k14_crew
k14_done = refl

-- the history that it holds, and the steps that it followed
pub k14 : (history_held k14_crew ≡ record { count = 2; masks = 1 ∷ 0 ∷ replicate 6 0 }) × (steps_followed k14_crew ≡ k14_steps)
unfolding held_after steps_taken k14_crew
k14 = (refl, refl)

-- the same calls, as a list
pub k14_listed : calls_of the_run k4 k4_tree k14_crew ≡ k14_calls
unfolding k14_crew
k14_listed = refl

-- the other outcome, and a crew that stops on the way
pub k14_others :
    (steps_after the_run k4 k4_tree (reporting 0 ∷ reporting 0 ∷ []) ≡ step (move 0 1 0) 0 ∷ step (move 2 2 0) 0 ∷ [])
    × (told_after the_run k4 k4_tree (reporting 0 ∷ reporting 0 ∷ []) ≡ complete)
    × (told_after the_run k4 k4_tree (reporting 1 ∷ showing ∷ []) ≡ instruct (move 1 2 0))
unfolding calling
k14_others = (refl, refl, refl)

-- ---- what the crew of K14 did by its steps

-- each point once, point 0 in slot 0 and point 1 in slot 1; condition 0 true; the constraints of K4 kept
pub k14_did :
    (times_performed k14_steps 0 ≡ 1) × (times_performed k14_steps 1 ≡ 1) × (slot_by_steps k14_steps 0 ≡ 0) × (slot_by_steps k14_steps 1 ≡ 1)
    × (value_by_steps (network_of k4) k14_steps 0 ≡ true)
    × (keeps (network_of k4) (slot_by_steps k14_steps) (value_by_steps (network_of k4) k14_steps) ≡ true)
unfolding running times_performed slot_by_steps value_by_steps
k14_did = (refl, refl, refl, refl, refl, refl)

-- before slot 1 it has heard that condition 0 is true; before slot 0 it has heard nothing
pub k14_heard : Some (Hears (network_of k4) 1 0 true) k14_steps × ((l : ℕ) (v : Bool) → ¬ Some (Hears (network_of k4) 0 l v) k14_steps)
unfolding calling Some
k14_heard = (inl (omega arith, refl, refl), nothing)
  where
    nothing : (l : ℕ) (v : Bool) → ¬ Some (Hears (network_of k4) 0 l v) k14_steps
    nothing l v (inl h) = let z : 0 < 0 = h.0 in omega arith
    nothing l v (inr (inl h)) = let z : 1 < 0 = h.0 in omega arith
    nothing l v (inr (inr none)) = absurd none
