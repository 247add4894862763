-- Theorem: document 01's cases K1 to K14. Read the statement in specs/Cases.antt; only the checker need believe the proof.
use mathlib.Core.Path.{◌≡◌, refl}
use Rattle.network.specs.Mask.{all_below, join_below}
use Rattle.network.specs.Below.{any_below}
use Rattle.plan.specs.Faults.{unless, first, answered, and_then}
use Rattle.plan.proofs.Cases as plans
use Rattle.judge.specs.Judge.{head_fine, taken_before, letter_fine, bound_fine, constraint_fine}
use Rattle.frame.specs.Hex.{hex_digit}
use Rattle.frame.specs.ReadFrame.{digit_of, pair_of, byte_at, whole}
use Rattle.frame.specs.Texts.{frame_fault, frames_from, at_end}
use Rattle.frame.specs.Characters.{characters}
use Rattle.plan_text.specs.ReadPlan.{read_head, read_letter, read_constraint, read_plan}
use Rattle.tree_text.specs.TreeText.{tree_text}
use Rattle.checker.specs.Checker.{check_fault}
use Rattle.checker.proofs.Cases.{k4_and_k11_to_k13}
use Rattle.verdict.proofs.Cases.{screens}
use Rattle.search.proofs.Cases.{k1_to_k3, k4_and_k5, k7_and_k8, k9_and_k10}
use Rattle.run.proofs.Cases.{running, k14_told, k14_accepts, k14_refuses, k14_after_done}
use Rattle.cases.specs.Cases.{Cases, k1, k2, k3, k4, k5, k6, k7, k8, k9, k10, k12_second}
use Rattle.cases.proofs.SearchCases.{k6_answer}
use Rattle.cases.proofs.PrintedLaws.{makes_tree, prints_tree, prints_hopeless}

-- ---- What is computed here. To unfold a name of this section is to unfold all that its line names.

frames : Unit {0}
unfolding frame_fault frames_from at_end and_then answered first unless whole byte_at pair_of digit_of all_below any_below
frames = tt

-- the plan that a text says
reading : Unit {0}
unfolding frames read_plan read_head read_letter read_constraint head_fine taken_before letter_fine bound_fine constraint_fine
reading = tt

-- the text of a tree, or of a refusal
writing : Unit {0}
unfolding tree_text join_below hex_digit
writing = tt

-- ---- The cases. Computed: that a text says the plan record which other crates' cases are about, and the text of a tree or a refusal.
-- Cited: what the search, the screen, the checker and the run answer for that record.

-- the checker's own cases have the tree whose first child is in slot 0
k12_second_checked : check_fault plans.k4 k12_second ≡ 6
unfolding running
k12_second_checked = refl

pub cases : Cases
unfolding reading writing
cases =
    record {
      case_1 = prints_tree _ _ k1_to_k3.0 (characters k1) refl;
      case_2 = prints_hopeless _ _ k1_to_k3.1.0 (characters k2) refl;
      case_3 = prints_tree _ _ k1_to_k3.2 (characters k3) refl;
      case_4 = prints_tree _ _ k4_and_k5.0 (characters k4) refl;
      case_4_tree = makes_tree _ _ k4_and_k5.0 (characters k4) refl;
      case_5 = prints_hopeless _ _ k4_and_k5.1.0 (characters k5) refl;
      case_6 = prints_hopeless _ _ k6_answer (characters k6) refl;
      case_6_passes = screens.1;
      case_7 = prints_tree _ _ k7_and_k8.0 (characters k7) refl;
      case_7_tree = makes_tree _ _ k7_and_k8.0 (characters k7) refl;
      case_8 = prints_tree _ _ k7_and_k8.1 (characters k8) refl;
      case_8_tree = makes_tree _ _ k7_and_k8.1 (characters k8) refl;
      case_9 = prints_tree _ _ k9_and_k10.0 (characters k9) refl;
      case_9_tree = makes_tree _ _ k9_and_k10.0 (characters k9) refl;
      case_10 = prints_hopeless _ _ k9_and_k10.1.0 (characters k10) refl;
      case_4_checked = k4_and_k11_to_k13.0;
      case_11 = k4_and_k11_to_k13.1;
      case_12 = k4_and_k11_to_k13.2;
      case_12_second = k12_second_checked;
      case_13 = k4_and_k11_to_k13.3;
      case_14_root = k14_told.0;
      case_14_report_1 = k14_accepts.0;
      case_14_slot_1 = k14_told.1;
      case_14_report_2 = k14_refuses.0;
      case_14_report_0 = k14_accepts.2;
      case_14_done = k14_told.3;
      case_14_further = λ o. (k14_after_done o).0;
    }
