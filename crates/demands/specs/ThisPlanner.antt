-- Definitions: this planner: for each call the definitions that its contract cites, to be held beside the contracts. `demand2`,
-- `fixed_outcomes`, `demand3` and `forced_order` are of it too. Computed: pinned by `demand1` of demands/proofs/Demand1Theorem.antt.
use Rattle.frame.specs.Texts.{refusal_text}
use Rattle.judge.specs.Judge.{plan_fault}
use Rattle.plan_text.specs.WritePlan.{write_plan, write_plan_leaves}
use Rattle.plan_text.specs.ReadPlan.{read_plan}
use Rattle.tree_text.specs.WriteTree.{write_tree, write_tree_leaves}
use Rattle.tree_text.specs.ReadTree.{read_tree, read_tree_leaves}
use Rattle.checker.specs.Checker.{check_fault}
use Rattle.search.specs.Search.{search_answer, search_leaves}
use Rattle.following.specs.Calls.{begun, after_calls}
use Rattle.following.specs.ThisRun.{the_run}
use Rattle.following.specs.Following.{calls_in}
use Rattle.verdict.specs.Verdict.{least_schedule, screened}
use Rattle.differences.specs.Tabling.{difference_table}
use Rattle.answer_text.specs.AnswerText.{answer_text}
use Rattle.demands.specs.Planner.{Planner}

abbrev pub planner : Planner
planner =
    record {
      judges = plan_fault;
      reads_plan = read_plan;
      writes_plan = write_plan;
      plan_written = write_plan_leaves;
      reads_tree = read_tree;
      tree_read = read_tree_leaves;
      writes_tree = write_tree;
      tree_written = write_tree_leaves;
      checks = check_fault;
      searches = search_answer;
      leaves = search_leaves;
      run = the_run;
      follows = λ p tree h calls. after_calls the_run p tree (begun h) (calls_in calls);
      fixes = least_schedule;
      screens = screened;
      tabulates = difference_table;
      refuses = refusal_text;
      prints = answer_text;
    }
