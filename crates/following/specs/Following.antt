-- Definitions: a list of calls as bytes, and the record of what following it leaves. To be believed, for demand 1.
use Rattle.std.specs.Prelude.{List, [], ◌∷◌, ◌++◌, map, ℕ, zero, suc, ◌-◌, length, replicate}
use Rattle.network.specs.Crew as crew
use Rattle.following.specs.declared.Step.{Step}
use Rattle.following.specs.declared.Followed.{Followed}
use Rattle.following.specs.Calls.{Call, showing, reporting, Progress}

-- Two bytes are a call: 0 and any byte is a showing; another byte and a mask is the reporting of that mask. A last byte by itself is none.
abbrev pub call_of : ℕ → ℕ → Call
call_of zero o = showing
call_of (suc k) o = reporting o

unfoldable pub calls_in : List ℕ → List Call
calls_in [] = []
calls_in (kind ∷ []) = []
calls_in (kind ∷ o ∷ bytes) = call_of kind o ∷ calls_in bytes

-- the record of a crew's progress: its history, how many steps it followed, and the steps in order, with zeros behind them
abbrev pub zero_step : Step
zero_step = record { instruction = record { slot = 0; points = 0; choices = 0 }; report = 0 }

abbrev pub step_record : crew.Step → Step
step_record st =
    record {
      instruction = record { slot = st.instruction.slot; points = st.instruction.points; choices = st.instruction.choices };
      report = st.report;
    }

unfoldable pub followed_record : Progress → Followed
followed_record r =
    record {
      history = r.history;
      count = length r.steps;
      steps = map step_record r.steps ++ replicate (8 - length r.steps) zero_step;
    }
