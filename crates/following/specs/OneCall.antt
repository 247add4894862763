-- Definitions: what one call of a list leaves in the record. Not to be believed: only theorems and inner contracts use it.
use Rattle.std.specs.Prelude.{◌≡◌, List, ℕ, ◌+◌, set}
use Rattle.plan.specs.declared.Plan.{Plan}
use Rattle.run.specs.declared.Instruction.{Instruction}
use Rattle.run.specs.declared.History.{History}
use Rattle.following.specs.declared.Followed.{Followed}
use Rattle.following.specs.declared.Call as code
use Rattle.following.specs.declared.Call.TheVariants as call
use Rattle.following.specs.Calls.{Call, showing, reporting, Progress, after_call}
use Rattle.following.specs.ThisRun.{the_run}
use Rattle.following.specs.Following.{followed_record}

-- the record with one step more, and the history then
abbrev pub one_step_more : Followed → History → Instruction → ℕ → Followed
one_step_more f h v o =
    record { history = h; count = f.count + 1; steps = set f.steps f.count (record { instruction = v; report = o }) }

-- the call that the code has
abbrev pub meant : code.Call → Call
meant call.Show = showing
meant (call.Report o) = reporting o

-- r records what a call leaves, wherever f records how far the crew had come
abbrev pub AfterCall : Plan → List ℕ → Followed → Call → Followed → Type 0
AfterCall p tree f c r =
    (progress : Progress) → f ≡ followed_record progress → r ≡ followed_record (after_call the_run p tree progress c)
