-- Definitions: this library: for each exported call the definitions that its contract cites, to be held beside the contracts. Computed: pinned
-- by `library_demands` of tureenlark/proofs/LibraryTheorem.antt.
use Rattle.tree_text.specs.ReadTree.{read_tree_leaves}
use Rattle.tree_text.specs.WriteTree.{write_tree_leaves}
use Rattle.tureenlark.specs.Exported.{Exported}
use Rattle.tureenlark.specs.Library.{judge_plan_number, read_plan_number, read_plan_left, write_plan_number, write_plan_left}
use Rattle.tureenlark.specs.Library.{read_tree_number, write_tree_number, check_tree_number, search_number, search_left}
use Rattle.tureenlark.specs.Library.{show_number, show_left, report_number, report_left, follow_number, follow_history, follow_steps}
use Rattle.tureenlark.specs.Library.{least_schedule_number, least_schedule_left, screen_number, answer_text_number, answer_text_left}
use Rattle.tureenlark.specs.Library.{differences_number, differences_left}

abbrev pub library : Exported
library =
    record {
      judge_plan = judge_plan_number;
      read_plan = read_plan_number;
      read_plan_left = read_plan_left;
      write_plan = write_plan_number;
      write_plan_left = write_plan_left;
      read_tree = read_tree_number;
      read_tree_left = read_tree_leaves;
      write_tree = write_tree_number;
      write_tree_left = write_tree_leaves;
      check_tree = check_tree_number;
      search = search_number;
      search_left = search_left;
      show = show_number;
      show_left = show_left;
      report = report_number;
      report_left = report_left;
      follow = follow_number;
      follow_history = follow_history;
      follow_steps = follow_steps;
      least_schedule = least_schedule_number;
      least_schedule_left = least_schedule_left;
      screen = screen_number;
      differences = differences_number;
      differences_left = differences_left;
      answer = answer_text_number;
      answer_left = answer_text_left;
    }
