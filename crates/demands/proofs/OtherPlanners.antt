-- Planners that differ from this one in some calls, for Impostors.antt and FurtherImpostors.antt. Only the checker need believe this file.
use mathlib.Core.List.{List}
use Prim.Native.Nat.{ℕ}
use Rattle.plan.specs.declared.Plan.{Plan}
use Rattle.plan.specs.Answer.{Answer}
use Rattle.following.specs.Calls.{Run}
use Rattle.following.specs.ThisRun.{the_run}
use Rattle.verdict.specs.Answers.{Fixed}
use Rattle.differences.specs.Answers.{Differences}
use Rattle.demands.specs.Planner.{Planner}
use Rattle.demands.specs.ThisPlanner.{planner}

-- with these calls, the others as here
abbrev other :
    (List ℕ → Answer Plan) → (Plan → List ℕ → Answer ℕ) → (Plan → List ℕ → List ℕ) → (Plan → List ℕ → ℕ) → (Plan → List ℕ → Answer ℕ) →
    (Plan → List ℕ → List ℕ) → Run → (Plan → ℕ → Answer Fixed) → (Plan → ℕ → Answer Differences) → Planner
other reads writes written checks searches leaves run fixes tabulates =
    record {
      judges = planner.judges;
      reads_plan = reads;
      writes_plan = writes;
      plan_written = written;
      reads_tree = planner.reads_tree;
      tree_read = planner.tree_read;
      writes_tree = planner.writes_tree;
      tree_written = planner.tree_written;
      checks = checks;
      searches = searches;
      leaves = leaves;
      run = run;
      follows = planner.follows;
      fixes = fixes;
      screens = planner.screens;
      tabulates = tabulates;
      refuses = planner.refuses;
      prints = planner.prints;
    }

-- another reader of plans; another writer; another checker
abbrev pub reading : (List ℕ → Answer Plan) → Planner
reading reads =
    other reads planner.writes_plan planner.plan_written planner.checks planner.searches planner.leaves the_run planner.fixes planner.tabulates

abbrev pub writing : (Plan → List ℕ → Answer ℕ) → (Plan → List ℕ → List ℕ) → Planner
writing writes written =
    other planner.reads_plan writes written planner.checks planner.searches planner.leaves the_run planner.fixes planner.tabulates

abbrev pub checking : (Plan → List ℕ → ℕ) → Planner
checking checks =
    other planner.reads_plan planner.writes_plan planner.plan_written checks planner.searches planner.leaves the_run planner.fixes planner.tabulates

-- another search and run; another run alone; another verdict; another table of differences
abbrev pub searching : (Plan → List ℕ → Answer ℕ) → (Plan → List ℕ → List ℕ) → Run → Planner
searching searches leaves run =
    other planner.reads_plan planner.writes_plan planner.plan_written planner.checks searches leaves run planner.fixes planner.tabulates

abbrev pub running : Run → Planner
running run = searching planner.searches planner.leaves run

abbrev pub fixing : (Plan → ℕ → Answer Fixed) → Planner
fixing fixes =
    other planner.reads_plan planner.writes_plan planner.plan_written planner.checks planner.searches planner.leaves the_run fixes planner.tabulates

abbrev pub tabulating : (Plan → ℕ → Answer Differences) → Planner
tabulating tabulates =
    other planner.reads_plan planner.writes_plan planner.plan_written planner.checks planner.searches planner.leaves the_run
    planner.fixes tabulates
