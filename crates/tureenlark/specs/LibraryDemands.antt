-- Demands 1, 2 and 3, and card 2, of the exported calls, over buffers of any length and contents, as one statement about a library. It speaks of the
-- bytes that a program hands over and gets back. proofs/LibraryTheorem.antt proves it of this library. To be believed, for the library
-- only.
use Rattle.std.specs.Prelude.{◌≡◌, true, ◌↔◌, ◌⊎◌, List, [], ◌∷◌, ◌++◌, ℕ, ◌+◌, ◌*◌, ◌≤◌, ◌<◌, eqb, negsuc, length, take, drop, replicate, ◌≤ℤ◌, Some, None, Ok}
use Rattle.network.specs.Mask.{bit}
use Rattle.network.specs.Strategy.{Strategy, Viable, Dynamic, DynamicallyConsistent}
use Rattle.network.specs.Game.{start}
use Rattle.network.specs.Tree.{Tree, preorder}
use Rattle.network.specs.FirstMoves.{FirstMoves}
use Rattle.network.specs.Policy.{Policy, SucceedsAlways}
use Rattle.network.specs.Fixed.{Setting, PassesScreen}
use Rattle.network.specs.Differences.{ForcedBefore}
use Rattle.plan.specs.declared.Plan.{Plan}
use Rattle.plan.specs.Plan.{signed, network_of}
use Rattle.plan.specs.WellFormed.{WellFormed}
use Rattle.frame.specs.Frame.{Bytes}
use Rattle.tree.specs.Nodes.{most_bytes, legal_length, node_count, first_nodes, overwritten}
use Rattle.tree.specs.Trees.{tree_bytes}
use Rattle.plan_text.specs.PlanText.{plan_text}
use Rattle.tree_text.specs.TreeText.{tree_text}
use Rattle.following.specs.Calls.{begun, after_calls}
use Rattle.following.specs.Following.{calls_in}
use Rattle.verdict.specs.Says.{Says}
use Rattle.differences.specs.Answers.{zero_row}
use Rattle.differences.specs.Says as tables
use Rattle.demands.specs.EachCall.{Sized, OneOf, AnswersJudge, AnswersReadPlan, AnswersWritePlan, AnswersReadTree, AnswersWriteTree}
use Rattle.demands.specs.EachCall.{AnswersCheck, AnswersSearch, AnswersShow, AnswersReport, AnswersVerdict, AnswersScreen, AnswersTable, AnswersProgram}
use Rattle.demands.specs.Demand2.{DescribesStrategy}
use Rattle.demands.specs.Crews.{Crew}
use Rattle.demands.specs.Demand3.{EveryCrew, EveryTwoCrews}
use Rattle.records.specs.Records.{plan_in, plan_bytes, plan_length, history_in, history_bytes, history_length}
use Rattle.answers.specs.Tables.{table_length, table_bytes, bits_in, rows_in}
use Rattle.tureenlark.specs.Exported.{Exported, refusals, answer_in, fault_in, move_in, told_in, run_of, bytes_of_steps}

-- a result from `low` to `high`, or a refusal with one of these numbers
abbrev pub ResultOr : ℕ → ℕ → List ℕ → ℕ → Type 0
ResultOr low high numbers n = ((low ≤ n) × (n ≤ high)) ⊎ ((k : ℕ) × OneOf numbers k × (n ≡ refusals + k))

-- refused with 10
abbrev pub Ten : ℕ → Type 0
Ten n = n ≡ refusals + 10

pub record LibraryDemands (L : Exported) : Type 0 where
  -- ---- The numbers that each call can answer
  pub judge_numbers : (plan : List ℕ) → ResultOr 1 1 (2 ∷ 3 ∷ 4 ∷ 10 ∷ []) (L.judge_plan plan)
  pub read_plan_numbers : (text plan : List ℕ) → ResultOr 1 1 (1 ∷ 2 ∷ 3 ∷ 4 ∷ 10 ∷ []) (L.read_plan text plan)
  pub write_plan_numbers : (plan text : List ℕ) → ResultOr 11 1025 (2 ∷ 3 ∷ 4 ∷ 10 ∷ []) (L.write_plan plan text)
  pub read_tree_numbers : (text tree : List ℕ) → ResultOr 1 191 (5 ∷ 10 ∷ []) (L.read_tree text tree)
  pub write_tree_numbers : (tree text : List ℕ) → ResultOr 14 1724 (6 ∷ 10 ∷ []) (L.write_tree tree text)
  pub check_numbers : (plan tree : List ℕ) → ResultOr 1 1 (2 ∷ 3 ∷ 4 ∷ 6 ∷ 7 ∷ 10 ∷ []) (L.check_tree plan tree)
  pub search_numbers : (plan tree : List ℕ) → ResultOr 1 191 (2 ∷ 3 ∷ 4 ∷ 10 ∷ 11 ∷ []) (L.search plan tree)
  pub show_numbers :
      (plan tree history instruction : List ℕ) →
      ResultOr 0 1 (2 ∷ 3 ∷ 4 ∷ 6 ∷ 7 ∷ 8 ∷ 9 ∷ 10 ∷ []) (L.show plan tree history instruction)
  pub report_numbers :
      (plan tree history : List ℕ) (mask : ℕ) →
      ResultOr 1 1 (2 ∷ 3 ∷ 4 ∷ 6 ∷ 7 ∷ 8 ∷ 9 ∷ 10 ∷ []) (L.report plan tree history mask)
  pub follow_numbers : (plan tree history calls steps : List ℕ) → ResultOr 0 8 (10 ∷ []) (L.follow plan tree history calls steps)
  pub least_schedule_numbers :
      (plan : List ℕ) (values : ℕ) (schedule : List ℕ) → ResultOr 0 1 (2 ∷ 3 ∷ 4 ∷ 8 ∷ 10 ∷ []) (L.least_schedule plan values schedule)
  pub screen_numbers : (plan : List ℕ) → ResultOr 0 1 (2 ∷ 3 ∷ 4 ∷ 10 ∷ []) (L.screen plan)
  pub differences_numbers :
      (plan : List ℕ) (values : ℕ) (table : List ℕ) → ResultOr 0 1 (2 ∷ 3 ∷ 4 ∷ 8 ∷ 10 ∷ []) (L.differences plan values table)
  pub answer_numbers : (input text : List ℕ) → ResultOr 5 1724 (10 ∷ []) (L.answer input text)
  -- ---- A record that is too short, which document 01 doesn't know: 10 before anything else, and no byte changes; but the place of a
  -- schedule or table that was to be made, where there is one, is zero
  pub judge_short : (plan : List ℕ) → length plan < plan_length → Ten (L.judge_plan plan)
  pub read_plan_short :
      (text plan : List ℕ) → length plan < plan_length → Ten (L.read_plan text plan) × (L.read_plan_left text plan ≡ plan)
  pub write_plan_short :
      (plan text : List ℕ) → length plan < plan_length → Ten (L.write_plan plan text) × (L.write_plan_left plan text ≡ text)
  pub check_short : (plan tree : List ℕ) → length plan < plan_length → Ten (L.check_tree plan tree)
  pub search_short : (plan tree : List ℕ) → length plan < plan_length → Ten (L.search plan tree) × (L.search_left plan tree ≡ tree)
  pub show_short_lem :
      (plan tree history instruction : List ℕ) →
      (length plan < plan_length) ⊎ ((length history < history_length) ⊎ (length instruction < 3)) →
      Ten (L.show plan tree history instruction) × (L.show_left plan tree history instruction ≡ instruction)
  pub report_short_lem :
      (plan tree history : List ℕ) (mask : ℕ) → (length plan < plan_length) ⊎ (length history < history_length) →
      Ten (L.report plan tree history mask) × (L.report_left plan tree history mask ≡ history)
  pub follow_short_lem :
      (plan tree history calls steps : List ℕ) →
      (length plan < plan_length) ⊎ ((length history < history_length) ⊎ (length steps < 32)) →
      Ten (L.follow plan tree history calls steps) × (L.follow_history plan tree history calls steps ≡ history)
      × (L.follow_steps plan tree history calls steps ≡ steps)
  pub least_schedule_no_place :
      (plan : List ℕ) (values : ℕ) (schedule : List ℕ) → length schedule < 8 →
      Ten (L.least_schedule plan values schedule) × (L.least_schedule_left plan values schedule ≡ schedule)
  pub least_schedule_short :
      (plan : List ℕ) (values : ℕ) (schedule : List ℕ) → length plan < plan_length → 8 ≤ length schedule →
      Ten (L.least_schedule plan values schedule) × (L.least_schedule_left plan values schedule ≡ replicate 8 0 ++ drop 8 schedule)
  pub screen_short : (plan : List ℕ) → length plan < plan_length → Ten (L.screen plan)
  pub differences_no_place :
      (plan : List ℕ) (values : ℕ) (table : List ℕ) → length table < table_length →
      Ten (L.differences plan values table) × (L.differences_left plan values table ≡ table)
  pub differences_short :
      (plan : List ℕ) (values : ℕ) (table : List ℕ) → length plan < plan_length → table_length ≤ length table →
      Ten (L.differences plan values table) × (L.differences_left plan values table ≡ replicate table_length 0 ++ drop table_length table)
  -- ---- Plans
  pub judge : (plan : List ℕ) → plan_length ≤ length plan → AnswersJudge (plan_in plan) (fault_in (L.judge_plan plan))
  pub read_plan_lem :
      (text plan : List ℕ) → plan_length ≤ length plan →
      AnswersReadPlan text (record { fault = fault_in (L.read_plan text plan); value = plan_in (L.read_plan_left text plan) })
  -- every byte of the record, and none behind it
  pub read_plan_bytes :
      (text plan : List ℕ) → plan_length ≤ length plan →
      L.read_plan_left text plan ≡ plan_bytes (plan_in (L.read_plan_left text plan)) ++ drop plan_length plan
  -- a text that was read is the only text of what is then in the record, and every well-formed plan's text is read
  pub read_plan_exactly :
      (text plan : List ℕ) → plan_length ≤ length plan → (p : Plan) → Sized p →
      ((L.read_plan text plan ≡ 1) × (plan_in (L.read_plan_left text plan) ≡ p)) ↔ ((text ≡ plan_text p) × WellFormed p)
  -- .. and it is written back from there
  pub read_plan_back :
      (text plan buffer : List ℕ) → L.read_plan text plan ≡ 1 → length text ≤ length buffer →
      (L.write_plan (L.read_plan_left text plan) buffer ≡ length text)
      × (L.write_plan_left (L.read_plan_left text plan) buffer ≡ text ++ drop (length text) buffer)
  pub write_plan_lem :
      (plan text : List ℕ) → plan_length ≤ length plan →
      AnswersWritePlan (plan_in plan) text (answer_in (L.write_plan plan text)) (L.write_plan_left plan text)
  -- ---- Trees
  pub read_tree_lem : (text tree : List ℕ) → AnswersReadTree text tree (answer_in (L.read_tree text tree)) (L.read_tree_left text tree)
  pub write_tree_lem : (tree text : List ℕ) → AnswersWriteTree tree text (answer_in (L.write_tree tree text)) (L.write_tree_left tree text)
  -- what is written of a tree reads back, and so no two trees are written as one text
  pub tree_back :
      (tree text buffer : List ℕ) → Bytes tree → legal_length (length tree) ≡ true → length (tree_text tree) ≤ length text →
      most_bytes ≤ length buffer → let written = take (L.write_tree tree text) (L.write_tree_left tree text) in
      (L.read_tree written buffer ≡ node_count tree) × (L.read_tree_left written buffer ≡ tree ++ drop (length tree) buffer)
  pub check : (plan tree : List ℕ) → plan_length ≤ length plan → AnswersCheck (plan_in plan) tree (fault_in (L.check_tree plan tree))
  -- yes exactly for a well-formed plan and a tree whose strategy is dynamic and viable
  pub check_yes :
      (plan tree : List ℕ) → plan_length ≤ length plan → let p = plan_in plan in (L.check_tree plan tree ≡ 1)
      ↔ (WellFormed p × ((σ : Strategy) × DescribesStrategy p tree σ × Dynamic (network_of p) σ × Viable (network_of p) σ))
  -- ---- The search: 7F0B exactly where no strategy exists, so that nobody can manage the plan; else the bytes of the tree of first moves
  pub search :
      (plan tree : List ℕ) → plan_length ≤ length plan →
      AnswersSearch (plan_in plan) tree (answer_in (L.search plan tree)) (L.search_left plan tree)
  pub search_hopeless :
      (plan tree : List ℕ) → plan_length ≤ length plan → WellFormed (plan_in plan) → most_bytes ≤ length tree →
      (L.search plan tree ≡ refusals + 11) ↔ (¬ DynamicallyConsistent (network_of (plan_in plan)))
  pub search_nobody :
      (plan tree : List ℕ) → plan_length ≤ length plan → L.search plan tree ≡ refusals + 11 → (π : Policy) →
      ¬ SucceedsAlways (network_of (plan_in plan)) π
  pub search_tree :
      (plan tree : List ℕ) → plan_length ≤ length plan → WellFormed (plan_in plan) → most_bytes ≤ length tree →
      DynamicallyConsistent (network_of (plan_in plan)) →
      (t : Tree) × FirstMoves (network_of (plan_in plan)) t (start (network_of (plan_in plan)))
      × (L.search plan tree ≡ length (preorder (network_of (plan_in plan)) t))
      × (L.search_left plan tree ≡ overwritten (tree_bytes (network_of (plan_in plan)) t) tree)
  -- ---- The crew's run
  pub show :
      (plan tree history instruction : List ℕ) → plan_length ≤ length plan → history_length ≤ length history → 3 ≤ length instruction →
      AnswersShow (plan_in plan) tree (history_in history)
      (told_in (L.show plan tree history instruction) (L.show_left plan tree history instruction))
  -- an instruction's three bytes, and no byte behind them; else none changes
  pub show_bytes :
      (plan tree history instruction : List ℕ) → let left = L.show_left plan tree history instruction in
      (L.show plan tree history instruction ≡ 1 →
      left ≡ (move_in left).slot ∷ (move_in left).points ∷ (move_in left).choices ∷ drop 3 instruction)
      × (¬ (L.show plan tree history instruction ≡ 1) → left ≡ instruction)
  pub report :
      (plan tree history instruction : List ℕ) (mask : ℕ) → plan_length ≤ length plan → history_length ≤ length history →
      3 ≤ length instruction → AnswersReport (plan_in plan) (history_in history) mask
      (told_in (L.show plan tree history instruction) (L.show_left plan tree history instruction))
      (record { fault = fault_in (L.report plan tree history mask); value = history_in (L.report_left plan tree history mask) })
  -- every byte of the history, and none behind it; a refused report changes none
  pub report_bytes :
      (plan tree history : List ℕ) (mask : ℕ) → history_length ≤ length history → let left = L.report_left plan tree history mask in
      (left ≡ history_bytes (history_in left) ++ drop history_length history) × (¬ (L.report plan tree history mask ≡ 1) → left ≡ history)
  -- The crew's promises, over the tree that the search made: each call is given the nine bytes that the call before left (`report_bytes`: they
  -- are those of the history that they hold).
  pub every_crew :
      (plan lent : List ℕ) → plan_length ≤ length plan → L.search plan lent < refusals →
      (crew : Crew (run_of L plan) (plan_in plan) (first_nodes (L.search_left plan lent) (L.search plan lent))) → EveryCrew crew
  pub every_two_crews :
      (plan lent : List ℕ) → plan_length ≤ length plan → L.search plan lent < refusals →
      EveryTwoCrews (run_of L plan) (plan_in plan) (first_nodes (L.search_left plan lent) (L.search plan lent))
  -- a list of calls: as many accepted reports as are answered, the history that is left, the steps followed; no byte behind them
  pub follow :
      (plan tree history calls steps : List ℕ) → plan_length ≤ length plan → history_length ≤ length history → 32 ≤ length steps →
      let r = after_calls (run_of L plan) (plan_in plan) tree (begun (history_in history)) (calls_in calls) in
      (L.follow plan tree history calls steps ≡ length r.steps)
      × (L.follow_history plan tree history calls steps ≡ history_bytes r.history ++ drop history_length history)
      × (L.follow_steps plan tree history calls steps ≡ bytes_of_steps 8 r.steps ++ drop 32 steps)
  -- ---- Fixed outcomes, the screen, the table of differences, the program
  pub least_schedule_lem :
      (plan : List ℕ) (values : ℕ) (schedule : List ℕ) → plan_length ≤ length plan → 8 ≤ length schedule →
      let n = L.least_schedule plan values schedule in let left = L.least_schedule_left plan values schedule in
      AnswersVerdict (plan_in plan) values (record { fault = fault_in n; value = record { scheduled = eqb n 1; slots = take 8 left } })
      × (drop 8 left ≡ drop 8 schedule)
  pub least_schedule_says :
      (plan : List ℕ) (values : ℕ) (schedule : List ℕ) → plan_length ≤ length plan → 8 ≤ length schedule → WellFormed (plan_in plan) →
      Setting (network_of (plan_in plan)) values →
      let n = L.least_schedule plan values schedule in let slots = take 8 (L.least_schedule_left plan values schedule) in
      ((n ≡ 1) × Says (plan_in plan) values (Ok (Some slots)))
      ⊎ ((n ≡ 0) × Says (plan_in plan) values (Ok None) × (slots ≡ replicate 8 0))
  pub screen :
      (plan : List ℕ) → plan_length ≤ length plan → let n = L.screen plan in
      AnswersScreen (plan_in plan) (record { fault = fault_in n; value = eqb n 1 })
  pub screen_passes :
      (plan : List ℕ) → plan_length ≤ length plan → WellFormed (plan_in plan) →
      ((L.screen plan ≡ 1) ↔ PassesScreen (network_of (plan_in plan))) × ((L.screen plan ≡ 0) ↔ (¬ PassesScreen (network_of (plan_in plan))))
  -- the table of differences: 128 bytes, and no byte behind them
  pub differences :
      (plan : List ℕ) (values : ℕ) (table : List ℕ) → plan_length ≤ length plan → table_length ≤ length table →
      let n = L.differences plan values table in let left = L.differences_left plan values table in
      AnswersTable (plan_in plan) values (record { fault = fault_in n; value = record { scheduled = eqb n 1; rows = rows_in left } })
      × (left ≡ table_bytes (rows_in left) ++ drop table_length table)
  -- (128 zeros beside "none" and any refusal)
  pub differences_zero :
      (plan : List ℕ) (values : ℕ) (table : List ℕ) → table_length ≤ length table → ¬ (L.differences plan values table ≡ 1) →
      L.differences_left plan values table ≡ replicate table_length 0 ++ drop table_length table
  pub differences_says :
      (plan : List ℕ) (values : ℕ) (table : List ℕ) → plan_length ≤ length plan → table_length ≤ length table → WellFormed (plan_in plan) →
      Setting (network_of (plan_in plan)) values →
      let n = L.differences plan values table in let rows = rows_in (L.differences_left plan values table) in
      ((n ≡ 1) × tables.Says (plan_in plan) values (Ok (Some (record { rows = rows }))))
      ⊎ ((n ≡ 0) × tables.Says (plan_in plan) values (Ok None) × (rows ≡ replicate 8 zero_row))
  -- where a table is answered, X is forced strictly before Y exactly when the entry at row Y, column X is at most -1
  pub differences_forced :
      (plan : List ℕ) (values : ℕ) (table : List ℕ) → plan_length ≤ length plan → table_length ≤ length table →
      L.differences plan values table ≡ 1 → (x y : ℕ) → x < (plan_in plan).points → y < (plan_in plan).points →
      ForcedBefore (network_of (plan_in plan)) (bit values) x y
      ↔ (signed (bits_in (L.differences_left plan values table) (16 * y + 2 * x)) ≤ℤ negsuc 0)
  -- what the program prints, where there is room for it
  pub answer :
      (input : List ℕ) → (printed : List ℕ) × AnswersProgram input printed
      × ((text : List ℕ) → length text < length printed → Ten (L.answer input text) × (L.answer_left input text ≡ text))
      × ((text : List ℕ) → length printed ≤ length text →
      (L.answer input text ≡ length printed) × (L.answer_left input text ≡ printed ++ drop (length printed) text))
