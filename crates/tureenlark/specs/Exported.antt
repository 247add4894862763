-- Definitions: what the exported calls answer, and leave in the buffers lent to them, and how their numbers and bytes are read. Names
-- follow the exported functions. To be believed, for the library only.
use Rattle.std.specs.Prelude.{cond, List, [], ◌∷◌, ℕ, zero, suc, ◌-◌, ltb, eqb, get_or, replicate}
use Rattle.network.specs.Game.{Move}
use Rattle.network.specs.Crew.{Step}
use Rattle.plan.specs.Answer.{Answer, fine}
use Rattle.run.specs.Told.{Told, instruct, complete, refuse}
use Rattle.following.specs.Calls.{Run}
use Rattle.records.specs.Records.{history_bytes, history_in}

-- Each call's number, and each lent buffer afterwards (`..Left`). Arguments are the buffers in their order, and masks.
pub record Exported : Type 0 where
  pub judge_plan : List ℕ → ℕ
  pub read_plan : List ℕ → List ℕ → ℕ
  pub read_plan_left : List ℕ → List ℕ → List ℕ
  pub write_plan : List ℕ → List ℕ → ℕ
  pub write_plan_left : List ℕ → List ℕ → List ℕ
  pub read_tree : List ℕ → List ℕ → ℕ
  pub read_tree_left : List ℕ → List ℕ → List ℕ
  pub write_tree : List ℕ → List ℕ → ℕ
  pub write_tree_left : List ℕ → List ℕ → List ℕ
  pub check_tree : List ℕ → List ℕ → ℕ
  pub search : List ℕ → List ℕ → ℕ
  pub search_left : List ℕ → List ℕ → List ℕ
  pub show : List ℕ → List ℕ → List ℕ → List ℕ → ℕ
  pub show_left : List ℕ → List ℕ → List ℕ → List ℕ → List ℕ
  pub report : List ℕ → List ℕ → List ℕ → ℕ → ℕ
  pub report_left : List ℕ → List ℕ → List ℕ → ℕ → List ℕ
  pub follow : List ℕ → List ℕ → List ℕ → List ℕ → List ℕ → ℕ
  pub follow_history : List ℕ → List ℕ → List ℕ → List ℕ → List ℕ → List ℕ
  pub follow_steps : List ℕ → List ℕ → List ℕ → List ℕ → List ℕ → List ℕ
  pub least_schedule : List ℕ → ℕ → List ℕ → ℕ
  pub least_schedule_left : List ℕ → ℕ → List ℕ → List ℕ
  pub screen : List ℕ → ℕ
  pub differences : List ℕ → ℕ → List ℕ → ℕ
  pub differences_left : List ℕ → ℕ → List ℕ → List ℕ
  pub answer : List ℕ → List ℕ → ℕ
  pub answer_left : List ℕ → List ℕ → List ℕ

-- ---- numbers

-- a number below 7F00 (hexadecimal) is a result; another one is a refusal, what is above 7F00 being document 01's number
abbrev pub refusals : ℕ
refusals = 32512

abbrev pub answer_in : ℕ → Answer ℕ
answer_in n = cond (ltb n refusals) (fine n) (record { fault = n - refusals; value = 0 })

abbrev pub fault_in : ℕ → ℕ
fault_in n = (answer_in n).fault

-- ---- what a crew is told, and its run

-- slot, points, choices
abbrev pub move_in : List ℕ → Move
move_in bs = record { slot = get_or bs 0 0; points = get_or bs 1 0; choices = get_or bs 2 0 }

-- 1 and an instruction, 0 for done, or a refusal
abbrev pub told_in : ℕ → List ℕ → Told
told_in n bytes = cond (eqb n 1) (instruct (move_in bytes)) (cond (eqb n 0) complete (refuse (fault_in n)))

-- showing and reporting over a plan's bytes: a history is handed over as its nine bytes, and so is the one that is handed back
abbrev pub run_of : Exported → List ℕ → Run
run_of L plan =
    let place : List ℕ = replicate 3 0 in
    record {
      shows = λ p tree h. told_in (L.show plan tree (history_bytes h) place) (L.show_left plan tree (history_bytes h) place);
      reports = λ p tree h o.
          record {
            fault = fault_in (L.report plan tree (history_bytes h) o);
            value = history_in (L.report_left plan tree (history_bytes h) o);
          };
    }

-- n steps, four bytes each: slot, points and choices told, the mask reported; zeros behind the last
unfoldable pub bytes_of_steps : ℕ → List Step → List ℕ
bytes_of_steps zero log = []
bytes_of_steps (suc n) [] = 0 ∷ 0 ∷ 0 ∷ 0 ∷ bytes_of_steps n []
bytes_of_steps (suc n) (st ∷ log) =
    st.instruction.slot ∷ st.instruction.points ∷ st.instruction.choices ∷ st.report ∷ bytes_of_steps n log
