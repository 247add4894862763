-- Demand 3, as one statement about a planner: hopeless exactly where no strategy is dynamic and viable, else the tree of first moves, and
-- the run over every list of calls. It is said of the values that `search`, `show` and `report` hand back where their contracts cite the
-- planner's definitions, in the words of document 01's "The crew's run". proofs/Demand3Theorem.antt proves it of this planner,
-- proofs/Impostors.antt refutes it of others. To be believed, for demand 3.
use Rattle.std.specs.Prelude.{◌≡◌, ◌↔◌, List, map, true, ℕ, ◌≤◌, ◌<◌, length, Result, Ok, Err}
use Rattle.network.specs.Network.{keeps}
use Rattle.network.specs.Strategy.{DynamicallyConsistent}
use Rattle.network.specs.Game.{start, Outcome}
use Rattle.network.specs.Tree.{Tree, preorder}
use Rattle.network.specs.FirstMoves.{FirstMoves}
use Rattle.network.specs.Policy.{Policy, SucceedsAlways}
use Rattle.network.specs.Crew.{times_performed, slot_by_steps, value_by_steps, HeardAlike, ToldAlike}
use Rattle.plan.specs.declared.Plan.{Plan}
use Rattle.plan.specs.declared.Refusal.TheVariants as refusal
use Rattle.plan.specs.declared.Refusal.{Refusal}
use Rattle.plan.specs.Plan.{network_of}
use Rattle.plan.specs.WellFormed.{WellFormed}
use Rattle.tree.specs.Nodes.{most_bytes, first_nodes, overwritten}
use Rattle.tree.specs.Trees.{tree_bytes}
use Rattle.search.specs.Searched.{searched_answer}
use Rattle.run.specs.declared.History.{History}
use Rattle.run.specs.declared.Instruction.{Instruction}
use Rattle.run.specs.declared.Shown.{Shown}
use Rattle.run.specs.declared.Shown.TheVariants as shown
use Rattle.run.specs.declared.Reported.{Reported}
use Rattle.run.specs.History.{history_of, longer}
use Rattle.run.specs.Told.{instructed, shown_told, instruction_at}
use Rattle.following.specs.Calls.{Run}
use Rattle.demands.specs.Planner.{Planner}
use Rattle.demands.specs.Crews.{ReportedBy, AlwaysAnswers, Crew, history_held, steps_followed, reports_made, Done}

-- ---- The search

-- what `search` hands back, and leaves in the bytes lent to it
pub record SearchedBy (P : Planner) (p : Plan) (lent : List ℕ) (r : Result ℕ Refusal) (left : List ℕ) : Type 0 where
  pub answer : searched_answer r ≡ P.searches p lent
  pub buffer : left ≡ P.leaves p lent

-- refused as hopeless (document 01's term)
abbrev pub Hopeless : Result ℕ Refusal → Type 0
Hopeless r = r ≡ Err refusal.Hopeless

-- ---- A run over a plan and a tree

-- The history can be lengthened (document 01's term): an instruction is told at it, each mask inside the conditions disclosed by that
-- instruction's points, and no other, is accepted as a report, and what is handed back then is the history with that mask behind its reports.
pub record CanBeLengthened (R : Run) (p : Plan) (tree : List ℕ) (h : History) (says : Shown) : Type 0 where
  pub instruction : Instruction
  pub is_told : says ≡ shown.Instruct instruction
  pub accepts_exactly :
      (o : ℕ) (a : Reported) → ReportedBy R p tree h o a → (a.answer ≡ Ok tt) ↔ Outcome (network_of p) (instructed instruction) o
  pub lengthens : (o : ℕ) (a : Reported) → ReportedBy R p tree h o a → a.answer ≡ Ok tt → a.history ≡ longer h o

-- parts 4 and 5: what holds of every crew, whatever it called
pub record EveryCrew {R : Run} {p : Plan} {tree : List ℕ} (crew : Crew R p tree) : Type 0 where
  -- The history holds the masks of the accepted reports, in order: at most 8. Each of them follows an instruction. What is told at the
  -- history is the instruction at it by document 01's rule, in the tree of first moves.
  pub holds_reports : history_held crew ≡ history_of (reports_made crew)
  pub each_follows : reports_made crew ≡ map (λ st. st.report) (steps_followed crew)
  pub at_most_8 : (history_held crew).count ≤ 8
  pub told_by_rule :
      (t : Tree) → FirstMoves (network_of p) t (start (network_of p)) → shown_told crew.says ≡ instruction_at p t (reports_made crew)
  -- unless the run is done, it can be lengthened
  pub goes_on : ¬ Done crew → CanBeLengthened R p tree (history_held crew) crew.says
  -- Once it is done, each point was performed exactly once, within the horizon, and every relevant constraint has held: relevant by the
  -- values that choices and reports set, held by the slots of the instructions followed.
  pub performed_once : Done crew → (x : ℕ) → x < p.points → times_performed (steps_followed crew) x ≡ 1
  pub within_horizon_lem : Done crew → (x : ℕ) → x < p.points → slot_by_steps (steps_followed crew) x ≤ p.horizon
  pub constraints_held :
      Done crew → keeps (network_of p) (slot_by_steps (steps_followed crew)) (value_by_steps (network_of p) (steps_followed crew)) ≡ true

-- part 6: two crews, both done, that heard alike before a slot were told alike in it
abbrev pub EveryTwoCrews : Run → Plan → List ℕ → Type 0
EveryTwoCrews R p tree =
    (crew crew' : Crew R p tree) → Done crew → Done crew' → (u : ℕ) →
    HeardAlike (network_of p) (steps_followed crew) (steps_followed crew') u → ToldAlike (steps_followed crew) (steps_followed crew') u

-- ---- The statement

-- of a plan that was searched with these bytes lent, of what was handed back and of the bytes as they were left
pub record Demand3For (R : Run) (p : Plan) (lent : List ℕ) (r : Result ℕ Refusal) (left : List ℕ) : Type 0 where
  -- 1. refused as hopeless exactly when no dynamic and viable strategy exists in slots 0 to the horizon
  pub hopeless_exactly : Hopeless r ↔ (¬ DynamicallyConsistent (network_of p))
  -- 2. So nobody can manage a plan so refused: nobody who settles each decision with its point and hears each outcome only in a later slot
  -- can, within the horizon and whichever outcomes come, perform each point once and keep every relevant constraint.
  pub nobody : Hopeless r → (π : Policy) → ¬ SucceedsAlways (network_of p) π
  -- 3. Every other plan gets the tree of first moves, byte for byte: there is one, and each such tree is what it gets: the number of its
  -- nodes, and its bytes, then zeros up to byte 573; bytes past 573 stay.
  pub has_tree : ¬ Hopeless r → (t : Tree) × FirstMoves (network_of p) t (start (network_of p))
  pub gets_tree :
      ¬ Hopeless r → (t : Tree) → FirstMoves (network_of p) t (start (network_of p)) →
      (r ≡ Ok (length (preorder (network_of p) t))) × (left ≡ overwritten (tree_bytes (network_of p) t) lent)
  -- 4 and 5. For every list of calls over that plan and the tree that the search made: as many nodes as it answered, as it left them. Every
  -- call hands something back, so that there are such lists.
  pub always_answers : (n : ℕ) → r ≡ Ok n → AlwaysAnswers R p (first_nodes left n)
  pub every_crew : (n : ℕ) → r ≡ Ok n → (crew : Crew R p (first_nodes left n)) → EveryCrew crew
  -- 6. for every two such lists, both done, and every slot
  pub every_two_crews : (n : ℕ) → r ≡ Ok n → EveryTwoCrews R p (first_nodes left n)

-- of every well-formed plan and every buffer of 573 bytes or more: the search hands something back, and of that
abbrev pub Demand3 : Planner → Type 0
Demand3 P =
    (p : Plan) (lent : List ℕ) → WellFormed p → most_bytes ≤ length lent → ((r : Result ℕ Refusal) × (left : List ℕ) × SearchedBy P p lent r left)
    × ((r : Result ℕ Refusal) (left : List ℕ) → SearchedBy P p lent r left → Demand3For P.run p lent r left)
