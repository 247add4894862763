-- Definitions: document 01's cases K1 to K14, with its bytes and numbers, as one statement about the definitions that the contracts cite.
-- Computed: pinned by `cases` of cases/proofs/CasesTheorem.antt.
use Rattle.std.specs.Prelude.{◌≡◌, true, List, [], ◌∷◌, ℕ}
use Prim.Native.String.{String}
use Rattle.network.specs.Game.{Move}
use Rattle.plan.specs.declared.Plan.{Plan}
use Rattle.plan.specs.Answer.{Answer, fine}
use Rattle.frame.specs.Characters.{characters}
use Rattle.checker.specs.Checker.{check_fault}
use Rattle.verdict.specs.Verdict.{screened}
use Rattle.run.specs.declared.History.{History}
use Rattle.run.specs.History.{empty_history, history_of}
use Rattle.run.specs.Run.{show_answer, report_answer}
use Rattle.run.specs.Told.{Told, instruct, complete}
use Rattle.answer_text.specs.AnswerText.{plan_in, tree_of, answer_text}

-- the program prints this text for that input
abbrev pub Prints : String → String → Type 0
Prints input output = answer_text (characters input) ≡ characters output

-- the plan that a text says
abbrev pub plan_of : String → Plan
plan_of text = (plan_in (characters text)).value

-- a node in memory: (slot, points, choices)
abbrev pub node : ℕ → ℕ → ℕ → List ℕ → List ℕ
node slot points choices behind = slot ∷ points ∷ choices ∷ behind

abbrev pub move : ℕ → ℕ → ℕ → Move
move slot points choices = record { slot = slot; points = points; choices = choices }

-- ---- the plans

abbrev pub k1 : String
k1 = "0103010000\n"

-- K1 with one constraint
abbrev pub k2 : String
k2 = "0103010001\n030000FFFF0000\n"

abbrev pub k3 : String
k3 = "0103010001\n03000000000000\n"

-- the listing
abbrev pub k4 : String
k4 = "0102020102\n02000000\n03000100010101\n030100FFFE0100\n"

-- K4 at horizon 1
abbrev pub k5 : String
k5 = "0101020102\n02000000\n03000100010101\n030100FFFE0100\n"

-- K4 with the first bound 0, horizon 63
abbrev pub k6 : String
k6 = "013F020102\n02000000\n03000100000101\n030100FFFE0100\n"

-- K6 with letter 0 a decision, horizon 2, and the same at horizon 1
abbrev pub k7 : String
k7 = "0102020102\n02000001\n03000100000101\n030100FFFE0100\n"

abbrev pub k8 : String
k8 = "0101020102\n02000001\n03000100000101\n030100FFFE0100\n"

-- condition 0 at point 0, decision 1 at point 1, point 1 at most 1 after point 0, self-loops of -1 on point 0 where the letters differ,
-- horizon 1
abbrev pub k9 : String
k9 = "0101020203\n02000000\n02010101\n03000100010000\n030000FFFF0301\n030000FFFF0302\n"

-- K9 with point 1 at most 0 after point 0
abbrev pub k10 : String
k10 = "0101020203\n02000000\n02010101\n03000100000000\n030000FFFF0301\n030000FFFF0302\n"

-- ---- the trees

-- K4's; with its children exchanged; with a child in slot 0, the first and the second
abbrev pub k4_tree : List ℕ
k4_tree = node 0 1 0 (node 2 2 0 (node 1 2 0 []))

abbrev pub k11_tree : List ℕ
k11_tree = node 0 1 0 (node 1 2 0 (node 2 2 0 []))

abbrev pub k12_tree : List ℕ
k12_tree = node 0 1 0 (node 0 2 0 (node 1 2 0 []))

abbrev pub k12_second : List ℕ
k12_second = node 0 1 0 (node 2 2 0 (node 0 2 0 []))

-- ---- K14: over K4 and its tree

-- what a crew is told at these reports
abbrev pub told : List ℕ → Told
told os = show_answer (plan_of k4) k4_tree (history_of os)

-- what reporting a mask answers at these reports
abbrev pub reported : List ℕ → ℕ → Answer History
reported os o = report_answer (plan_of k4) k4_tree (history_of os) o

-- ---- the statement

pub record Cases : Type 0 where
  pub case_1 : Prints k1 "0401\n05000100\n"
  pub case_2 : Prints k2 "7F0B\n"
  pub case_3 : Prints k3 "0401\n05000100\n"
  pub case_4 : Prints k4 "0403\n05000100\n05020200\n05010200\n"
  pub case_4_tree : tree_of (plan_of k4) ≡ k4_tree
  pub case_5 : Prints k5 "7F0B\n"
  pub case_6 : Prints k6 "7F0B\n"
  pub case_6_passes : screened (plan_of k6) ≡ fine true
  pub case_7 : Prints k7 "0402\n05000100\n05020200\n"
  pub case_7_tree : tree_of (plan_of k7) ≡ node 0 1 0 (node 2 2 0 [])
  pub case_8 : Prints k8 "0402\n05000200\n05010101\n"
  pub case_8_tree : tree_of (plan_of k8) ≡ node 0 2 0 (node 1 1 1 [])
  pub case_9 : Prints k9 "0403\n05000100\n05010200\n05010202\n"
  pub case_9_tree : tree_of (plan_of k9) ≡ node 0 1 0 (node 1 2 0 (node 1 2 2 []))
  pub case_10 : Prints k10 "7F0B\n"
  pub case_4_checked : check_fault (plan_of k4) k4_tree ≡ 0
  pub case_11 : check_fault (plan_of k4) k11_tree ≡ 7
  pub case_12 : check_fault (plan_of k4) k12_tree ≡ 6
  pub case_12_second : check_fault (plan_of k4) k12_second ≡ 6
  pub case_13 : check_fault (plan_of k5) k4_tree ≡ 6
  -- K14: report 1 leads to slot 1 ..
  pub case_14_root : told [] ≡ instruct (move 0 1 0)
  pub case_14_report_1 : reported [] 1 ≡ fine (history_of (1 ∷ []))
  pub case_14_slot_1 : told (1 ∷ []) ≡ instruct (move 1 2 0)
  -- .. report 2 at the root is 8 ..
  pub case_14_report_2 : reported [] 2 ≡ record { fault = 8; value = empty_history }
  -- .. after report 1, report 0 leads to done ..
  pub case_14_report_0 : reported (1 ∷ []) 0 ≡ fine (history_of (1 ∷ 0 ∷ []))
  pub case_14_done : told (1 ∷ 0 ∷ []) ≡ complete
  -- .. and a further report is 9, whatever its mask
  pub case_14_further : (o : ℕ) → reported (1 ∷ 0 ∷ []) o ≡ record { fault = 9; value = history_of (1 ∷ 0 ∷ []) }
