-- Definitions: what each call has to answer, and to leave in a buffer that is lent to it, for whatever is handed in: document 01's "Who
-- gets which number", and what the cards add to it, call by call. To be believed, for demand 1, 2.
use Rattle.std.specs.Prelude.{◌≡◌, ◌↔◌, ◌⊎◌, Bool, true, false, List, [], ◌∷◌, ◌++◌, ℕ, ◌*◌, ◌≤◌, ◌<◌, length, take, drop, replicate}
use Rattle.network.specs.Strategy.{Viable, DynamicallyConsistent}
use Rattle.network.specs.Game.{start, Move, Outcome}
use Rattle.network.specs.Tree.{Tree, strategy_of}
use Rattle.network.specs.FirstMoves.{FirstMoves}
use Rattle.network.specs.Fixed.{Setting}
use Rattle.plan.specs.declared.Plan.{Plan}
use Rattle.plan.specs.Answer.{Answer}
use Rattle.plan.specs.Plan.{zero_plan, network_of}
use Rattle.plan.specs.WellFormed.{FineHead, FineLetters, FineConstraints, WellFormed}
use Rattle.frame.specs.Frame.{Bytes, fault_text}
use Rattle.tree.specs.Nodes.{most_bytes, legal_length, first_nodes, overwritten}
use Rattle.tree.specs.Trees.{tree_bytes, Describes}
use Rattle.plan_text.specs.PlanText.{plan_text}
use Rattle.plan_text.specs.FirstFault.{FirstFault}
use Rattle.tree_text.specs.TreeText.{tree_text}
use Rattle.run.specs.declared.History.{History}
use Rattle.run.specs.History.{history_fine, reports_in, longer}
use Rattle.run.specs.Told.{Told, instruct, complete, refuse, instruction_at}
use Rattle.verdict.specs.Answers.{Fixed, none}
use Rattle.differences.specs.Answers.{Differences, zero_row, no_table}
use Rattle.differences.specs.Says.{bits_at}

-- ---- Words for what follows

-- a record's arrays have six and 64 places by their types
abbrev pub Sized : Plan → Type 0
Sized p = (length p.letter ≡ 6) × (length p.constraint ≡ 64)

-- one of these numbers
unfoldable pub OneOf : List ℕ → ℕ → Type 0
OneOf [] n = ⊥
OneOf (m ∷ ms) n = (n ≡ m) ⊎ OneOf ms n

-- A lent buffer, `before` the call and `after` it: without a fault these bytes were put at its front and all behind them stayed; under a
-- fault no byte changed.
pub record Fills (fault : ℕ) (bytes before after : List ℕ) : Type 0 where
  pub has_room : fault ≡ 0 → length bytes ≤ length before
  pub front : fault ≡ 0 → after ≡ bytes ++ drop (length bytes) before
  pub refused : ¬ (fault ≡ 0) → after ≡ before

-- the text says these bytes of a tree
pub record SaysTree (t bs : List ℕ) : Type 0 where
  pub text : t ≡ tree_text bs
  pub bytes : Bytes bs
  pub legal : legal_length (length bs) ≡ true

-- ---- Plans and their texts

-- a plan record: no fault where it is well formed, else the first of 2, 3, 4
pub record AnswersJudge (p : Plan) (n : ℕ) : Type 0 where
  pub numbers : OneOf (0 ∷ 2 ∷ 3 ∷ 4 ∷ []) n
  pub fine : (n ≡ 0) ↔ WellFormed p
  pub head : (n ≡ 2) ↔ (¬ FineHead p)
  pub letters : (n ≡ 3) ↔ (FineHead p × ¬ FineLetters p)
  pub constraints : (n ≡ 4) ↔ (FineHead p × FineLetters p × ¬ FineConstraints p)

-- reading a plan text: the well-formed plan whose text it is; or 1, 2, 3, 4 by its first faulty frame, beside which the place is all zero
pub record AnswersReadPlan (t : List ℕ) (a : Answer Plan) : Type 0 where
  pub numbers : OneOf (0 ∷ 1 ∷ 2 ∷ 3 ∷ 4 ∷ []) a.fault
  pub first : (n : ℕ) → ¬ (n ≡ 0) → (a.fault ≡ n) ↔ FirstFault t n
  pub read : a.fault ≡ 0 → Sized a.value × WellFormed a.value × (t ≡ plan_text a.value)
  pub zero_place : ¬ (a.fault ≡ 0) → a.value ≡ zero_plan

-- writing a plan: 2, 3, 4, then 10; else the text's length, and only its bytes change
pub record AnswersWritePlan (p : Plan) (before : List ℕ) (a : Answer ℕ) (after : List ℕ) : Type 0 where
  pub judged : ¬ WellFormed p → AnswersJudge p a.fault
  pub numbers : WellFormed p → OneOf (0 ∷ 10 ∷ []) a.fault
  pub room : WellFormed p → (a.fault ≡ 10) ↔ (length before < length (plan_text p))
  pub counted : a.fault ≡ 0 → a.value ≡ length (plan_text p)
  pub beside : ¬ (a.fault ≡ 0) → a.value ≡ 0
  pub bytes : Fills a.fault (plan_text p) before after

-- ---- Trees and their texts

-- reading a tree text: 10, then 5; else the number of nodes, and only the nodes' bytes change
pub record AnswersReadTree (t before : List ℕ) (a : Answer ℕ) (after : List ℕ) : Type 0 where
  pub numbers : OneOf (0 ∷ 5 ∷ 10 ∷ []) a.fault
  pub room : (a.fault ≡ 10) ↔ (length before < most_bytes)
  pub text : most_bytes ≤ length before → (a.fault ≡ 5) ↔ (¬ ((bs : List ℕ) × SaysTree t bs))
  pub read : a.fault ≡ 0 → (bs : List ℕ) × SaysTree t bs × (length bs ≡ 3 * a.value) × Fills 0 bs before after
  pub refused : ¬ (a.fault ≡ 0) → (a.value ≡ 0) × (after ≡ before)

-- writing a tree's bytes: 6 for their length, then 10; else the text's length, and only its bytes change
pub record AnswersWriteTree (bs before : List ℕ) (a : Answer ℕ) (after : List ℕ) : Type 0 where
  pub numbers : OneOf (0 ∷ 6 ∷ 10 ∷ []) a.fault
  pub shape : (a.fault ≡ 6) ↔ (legal_length (length bs) ≡ false)
  pub room : legal_length (length bs) ≡ true → (a.fault ≡ 10) ↔ (length before < length (tree_text bs))
  pub counted : a.fault ≡ 0 → a.value ≡ length (tree_text bs)
  pub beside : ¬ (a.fault ≡ 0) → a.value ≡ 0
  pub bytes : Fills a.fault (tree_text bs) before after

-- checking: 2, 3, 4, then 6 for the length and where the bytes are no tree's, then 7 where not every path keeps its relevant constraints
pub record AnswersCheck (p : Plan) (bs : List ℕ) (n : ℕ) : Type 0 where
  pub judged : ¬ WellFormed p → AnswersJudge p n
  pub numbers : WellFormed p → OneOf (0 ∷ 6 ∷ 7 ∷ []) n
  pub length_first : WellFormed p → legal_length (length bs) ≡ false → n ≡ 6
  pub shape : WellFormed p → (n ≡ 6) ↔ (¬ ((t : Tree) × Describes (network_of p) bs t))
  pub broken : WellFormed p → (n ≡ 7) ↔ ((t : Tree) × Describes (network_of p) bs t × (¬ Viable (network_of p) (strategy_of (network_of p) t)))

-- ---- The search

-- 10, then 2, 3, 4, then 11 (demand 3 says when). The first 573 bytes are a tree of as many nodes as are answered and zeros, or all zero under
-- 11; under every other refusal no byte changes; bytes past 573 never do.
pub record AnswersSearch (p : Plan) (before : List ℕ) (a : Answer ℕ) (after : List ℕ) : Type 0 where
  pub room : (a.fault ≡ 10) ↔ (length before < most_bytes)
  pub judged : most_bytes ≤ length before → ¬ WellFormed p → AnswersJudge p a.fault
  pub numbers : most_bytes ≤ length before → WellFormed p → OneOf (0 ∷ 11 ∷ []) a.fault
  pub tree :
      a.fault ≡ 0 → (bs : List ℕ) × (bs ≡ first_nodes after a.value) × (length bs ≡ 3 * a.value) × AnswersCheck p bs 0
      × (after ≡ overwritten bs before)
  pub beside : ¬ (a.fault ≡ 0) → a.value ≡ 0
  pub hopeless : a.fault ≡ 11 → after ≡ overwritten [] before
  pub refused : ¬ (a.fault ≡ 0) → ¬ (a.fault ≡ 11) → after ≡ before
  pub past : drop most_bytes after ≡ drop most_bytes before

-- ---- The crew's run

-- Showing: an instruction, done, or 2, 3, 4, 6, 7 as the checker says, then 8 for the history's count and its unused masks, then its masks in
-- turn, 9 before 8 at each, by the tree that the bytes describe
pub record AnswersShow (p : Plan) (bs : List ℕ) (h : History) (told : Told) : Type 0 where
  pub numbers : (n : ℕ) → told ≡ refuse n → OneOf (2 ∷ 3 ∷ 4 ∷ 6 ∷ 7 ∷ 8 ∷ 9 ∷ []) n
  pub checked : (n : ℕ) → ¬ (n ≡ 0) → AnswersCheck p bs n → told ≡ refuse n
  pub history : AnswersCheck p bs 0 → history_fine h ≡ false → told ≡ refuse 8
  pub by_tree :
      AnswersCheck p bs 0 → history_fine h ≡ true → (t : Tree) → Describes (network_of p) bs t → told ≡ instruction_at p t (reports_in h)

-- Reporting o, where showing tells this: the same refusals, then 9 where the run is done, then 8 where o is no outcome of the instruction. The
-- longer history is handed back, or the one that was given.
pub record AnswersReport (p : Plan) (h : History) (o : ℕ) (told : Told) (a : Answer History) : Type 0 where
  pub numbers : OneOf (0 ∷ 2 ∷ 3 ∷ 4 ∷ 6 ∷ 7 ∷ 8 ∷ 9 ∷ []) a.fault
  pub shown : (n : ℕ) → told ≡ refuse n → a.fault ≡ n
  pub done : told ≡ complete → a.fault ≡ 9
  pub accepted : (m : Move) → told ≡ instruct m → (a.fault ≡ 0) ↔ Outcome (network_of p) m o
  pub mask : (m : Move) → told ≡ instruct m → (a.fault ≡ 8) ↔ (¬ Outcome (network_of p) m o)
  pub lengthened : a.fault ≡ 0 → a.value ≡ longer h o
  pub refused : ¬ (a.fault ≡ 0) → a.value ≡ h

-- ---- Fixed outcomes, the screen, the table of differences, the program

-- the verdict: 2, 3, 4, then 8 for a letter that the plan lacks; eight zeros beside a refusal and beside "none"
pub record AnswersVerdict (p : Plan) (values : ℕ) (a : Answer Fixed) : Type 0 where
  pub judged : ¬ WellFormed p → AnswersJudge p a.fault
  pub numbers : WellFormed p → OneOf (0 ∷ 8 ∷ []) a.fault
  pub letters : WellFormed p → (a.fault ≡ 8) ↔ (¬ Setting (network_of p) values)
  pub refused : ¬ (a.fault ≡ 0) → a.value ≡ none
  pub zeros : a.value.scheduled ≡ false → a.value.slots ≡ replicate 8 0

-- the screen: 2, 3, 4; no beside a refusal
pub record AnswersScreen (p : Plan) (a : Answer Bool) : Type 0 where
  pub judged : AnswersJudge p a.fault
  pub beside : ¬ (a.fault ≡ 0) → a.value ≡ false

-- The table of differences (card 2): 2, 3, 4, then 8 for a letter that the plan lacks. 64 zeros beside a refusal and beside "none"; rows and
-- columns of points that the plan lacks are zero.
pub record AnswersTable (p : Plan) (values : ℕ) (t : Answer Differences) : Type 0 where
  pub judged : ¬ WellFormed p → AnswersJudge p t.fault
  pub numbers : WellFormed p → OneOf (0 ∷ 8 ∷ []) t.fault
  pub letters : WellFormed p → (t.fault ≡ 8) ↔ (¬ Setting (network_of p) values)
  pub refused : ¬ (t.fault ≡ 0) → t.value ≡ no_table
  pub zeros : t.value.scheduled ≡ false → t.value.rows ≡ replicate 8 zero_row
  pub unused : (x y : ℕ) → (p.points ≤ x) ⊎ (p.points ≤ y) → bits_at t.value.rows x y ≡ 0

-- the frame of 11, or the text of the tree of first moves
abbrev pub PrintedFor : Plan → List ℕ → Type 0
PrintedFor p printed =
    ((¬ DynamicallyConsistent (network_of p)) × (printed ≡ fault_text 11))
    ⊎ (DynamicallyConsistent (network_of p)
    × ((t : Tree) × FirstMoves (network_of p) t (start (network_of p)) × (printed ≡ tree_text (tree_bytes (network_of p) t))))

-- The program: the first 1,026 bytes of the input are judged as a plan. What is printed is the 7F frame of the number of their first faulty
-- frame; or they are the text of a well-formed plan, and it is the frame of 11 where that has no strategy, else the text of the tree of first
-- moves.
abbrev pub AnswersProgram : List ℕ → List ℕ → Type 0
AnswersProgram input printed =
    ((n : ℕ) × FirstFault (take 1026 input) n × (printed ≡ fault_text n))
    ⊎ ((p : Plan) × Sized p × WellFormed p × (take 1026 input ≡ plan_text p) × PrintedFor p printed)
