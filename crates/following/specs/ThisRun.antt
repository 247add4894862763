-- Definitions: this planner's run: the definitions that the contracts of `show` and `report` cite. Computed: pinned by `demand3` of
-- demands/proofs/Demand3Theorem.antt.
use Rattle.run.specs.Run.{show_answer, report_answer}
use Rattle.following.specs.Calls.{Run}

abbrev pub the_run : Run
the_run = record { shows = show_answer; reports = report_answer }
