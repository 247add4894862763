-- Laws: the exported calls of the crew's run, over records that are long enough. Only the checker need believe this file;
-- specs/LibraryDemands.antt has the statements.
use Rattle.std.specs.Prelude.{Ok}
use mathlib.Core.Path.{◌≡◌, refl, sym, ap, ◌∙◌, subst}
use mathlib.Core.Bool.{cond}
use mathlib.Core.List.{List, [], ◌∷◌, ◌++◌, map}
use Prim.Native.Nat.{ℕ, zero, suc, ◌+◌, ◌-◌, ◌≤◌, ◌<◌}
use native.Mathlib.Omega.{arith}
use lib.Dec.{eqb}
use lib.ListN.{length, drop, get_or, replicate, take-append-drop, length-set, get_or-append}
use Rattle.network.specs.Mask.{join_below}
use Rattle.network.specs.Crew as crew
use Rattle.network.proofs.JoinLaws.{join_first}
use Rattle.network.proofs.Booleans.{by_test, eqb_is, eqb_no, differs}
use Rattle.plan.specs.Answer.{Answer, fine}
use Rattle.plan.specs.Faults.{first, filled}
use Rattle.plan.specs.Plan.{listed}
use Rattle.plan.proofs.PlanLaws.{listed_same}
use Rattle.tree.specs.Nodes.{first_nodes}
use Rattle.search.specs.Search.{search_answer}
use Rattle.search.proofs.SearchTheorems.{answered_exactly, fault_is}
use Rattle.run.specs.declared.History.{History}
use Rattle.run.specs.Told.{Told, instruct, complete, refuse}
use Rattle.run.specs.Run.{show_answer, report_answer}
use Rattle.run.proofs.RunTheorems.{accepted_longer, refused_same}
use Rattle.following.specs.Calls.{Progress, begun, after_calls}
use Rattle.following.specs.ThisRun.{the_run}
use Rattle.following.specs.Following.{calls_in, zero_step, step_record, followed_record}
use Rattle.demands.specs.EachCall.{AnswersShow, AnswersReport}
use Rattle.demands.specs.Crews.{Crew}
use Rattle.demands.specs.Demand3.{EveryCrew, EveryTwoCrews, Demand3For}
use Rattle.demands.proofs.Demand1Laws.{stays}
use Rattle.demands.proofs.Demand1Theorem.{demand1, show_numbered}
use Rattle.demands.proofs.Demand3Theorem.{demand3}
use Rattle.demands.proofs.AgreeLaws.{Eight, Agrees, calls_agree, calls_eight, every_crew_of, two_crews_of}
use Rattle.records.specs.Records.{plan_in, plan_length, history_in, history_bytes, history_length}
use Rattle.records.proofs.RecordsTheorems.{history_crosses, history_bytes_cross}
use Rattle.answers.specs.Numbers.{fault_number, numbered, told_number}
use Rattle.answers.specs.Steps.{told_bytes, step_bytes}
use Rattle.tureenlark.specs.Library.{plan_short, history_short, instruction_length, steps_length, show_short, told_at, show_number}
use Rattle.tureenlark.specs.Library.{show_left, report_short, report_at, report_number, report_left, search_number, search_left}
use Rattle.tureenlark.specs.Library.{steps_bytes, follow_short, followed, follow_number, follow_history, follow_steps}
use Rattle.tureenlark.specs.Exported.{refusals, fault_in, move_in, told_in, run_of, bytes_of_steps}
use Rattle.tureenlark.specs.ThisLibrary.{library}
use Rattle.tureenlark.proofs.LibraryLaws.{long, then_short}
use Rattle.tureenlark.proofs.FollowLaws.{steps_length_lem}
use Rattle.tureenlark.proofs.LibraryTheorems.{report_refused_same}
use Rattle.tureenlark.proofs.DecodeLaws.{fault_in_lem, is_result, told_in_lem}
use Rattle.tureenlark.proofs.RangeLaws.{eight_in}
use Rattle.tureenlark.proofs.PlanCallLaws.{search_left_is, result_is}

-- bytes at the front of a buffer, and what stands behind them
pub front_is : (f : ℕ) (bytes xs : List ℕ) → f ≡ 0 → filled f bytes xs ≡ bytes ++ drop (length bytes) xs
unfolding filled
front_is f bytes xs e = rw e

-- ---- showing

module _ (plan tree history instruction : List ℕ) where
  abbrev told : Told
  told = told_at plan tree history

  abbrev fault : ℕ
  fault = show_short plan history instruction

  number_is : fault ≡ 0 → show_number plan tree history instruction ≡ told_number told
  number_is e = ap (λ (f : ℕ). cond (eqb f 0) (told_number told) (fault_number f)) e

  number_short : ¬ (fault ≡ 0) → show_number plan tree history instruction ≡ refusals + fault
  number_short some = rw (eqb_no fault 0 some)

  module _ (enough : plan_length ≤ length plan) (nine : history_length ≤ length history) (three : 3 ≤ length instruction) where
    pub none_short : fault ≡ 0
    none_short =
        then_short (plan_short plan) _ 0 (long plan_length plan enough)
        (then_short (history_short history) _ 0 (long history_length history nine) (long instruction_length instruction three))

    pub told_is : told_in (show_number plan tree history instruction) (show_left plan tree history instruction) ≡ told
    told_is =
        let left = front_is fault (told_bytes told) instruction none_short in
        ap (λ (n : ℕ). told_in n (show_left plan tree history instruction)) (number_is none_short)
        ∙ ap (told_in (told_number told)) left
        ∙ told_in_lem told (show_numbered (plan_in plan) tree (history_in history)) (drop (length (told_bytes told)) instruction)

    pub show_so :
        AnswersShow (plan_in plan) tree (history_in history)
        (told_in (show_number plan tree history instruction) (show_left plan tree history instruction))
    show_so = subst (AnswersShow (plan_in plan) tree (history_in history)) (sym told_is) (demand1.show (plan_in plan) tree (history_in history))

  -- an instruction's bytes, and what stood behind them
  abbrev ThreeBytes : List ℕ → Type 0
  ThreeBytes left = left ≡ (move_in left).slot ∷ (move_in left).points ∷ (move_in left).choices ∷ drop 3 instruction

  bytes_by_told :
      (x : Told) → let left = told_bytes x ++ drop (length (told_bytes x)) instruction in
      (told_number x ≡ 1 → left ≡ (move_in left).slot ∷ (move_in left).points ∷ (move_in left).choices ∷ drop 3 instruction)
      × (¬ (told_number x ≡ 1) → told_bytes x ++ drop (length (told_bytes x)) instruction ≡ instruction)
  bytes_by_told (instruct m) = (λ e. refl, λ n. absurd (n refl))
  bytes_by_told complete = (λ e. let z : ◌≡◌ {A = ℕ} 0 1 = e in absurd (omega arith), λ n. refl)
  bytes_by_told (refuse k) = (λ e. absurd (omega (arith, e)), λ n. refl)

  pub show_bytes_so :
      let left = show_left plan tree history instruction in
      (show_number plan tree history instruction ≡ 1 →
      left ≡ (move_in left).slot ∷ (move_in left).points ∷ (move_in left).choices ∷ drop 3 instruction)
      × (¬ (show_number plan tree history instruction ≡ 1) → show_left plan tree history instruction ≡ instruction)
  show_bytes_so =
      by_test (eqb fault 0)
      (λ y. let e = eqb_is fault 0 y in
      let left = front_is fault (told_bytes told) instruction e in
      let n = number_is e in
      let so = bytes_by_told told in (
        λ one. subst ThreeBytes (sym left) (so.0 (sym n ∙ one)),
        λ some. left ∙ so.1 (λ one. some (n ∙ one)),
      ))
      (λ z. let some = differs fault 0 z in
      let stays = stays fault (told_bytes told) instruction some in (
        λ one. absurd (omega (arith, number_short some, one)),
        λ n. stays,
      ))

-- ---- reporting

-- nine bytes hold a history, whatever stands behind them
pub history_front : (h : History) → length h.masks ≡ 8 → (rest : List ℕ) → history_in (history_bytes h ++ rest) ≡ h
history_front h eight rest =
    let f : ℕ → ℕ = λ i. get_or (history_bytes h ++ rest) (1 + i) 0 in
    let same : listed 8 f ≡ listed 8 (λ i. get_or (history_bytes h) (1 + i) 0) =
    listed_same 8 f (λ i. get_or (history_bytes h) (1 + i) 0) (λ i lt. get_or-append (history_bytes h) rest 0 (1 + i) (omega arith)) in
    (λ k. record { count = h.count; masks = same k }) ∙ history_crosses h eight

module _ (plan tree history : List ℕ) (mask : ℕ) where
  abbrev back : Answer History
  back = report_at plan tree history mask

  eight_back : length back.value.masks ≡ 8
  eight_back =
      by_test (eqb back.fault 0)
      (λ y. ap (λ (h : History). length h.masks) (accepted_longer (plan_in plan) tree (history_in history) mask (eqb_is back.fault 0 y))
      ∙ length-set (history_in history).masks (history_in history).count mask ∙ eight_in history)
      (λ z. ap (λ (h : History). length h.masks) (refused_same (plan_in plan) tree (history_in history) mask (differs back.fault 0 z))
      ∙ eight_in history)

  nine_back : length (history_bytes back.value) ≡ history_length
  nine_back = ap (λ (n : ℕ). suc n) eight_back

  module _ (enough : plan_length ≤ length plan) (nine : history_length ≤ length history) where
    report_long : report_short plan history ≡ 0
    report_long = then_short (plan_short plan) (history_short history) 0 (long plan_length plan enough) (long history_length history nine)

    pub report_left_is : report_left plan tree history mask ≡ history_bytes back.value ++ drop history_length history
    report_left_is =
        front_is (report_short plan history) (history_bytes back.value) history report_long
        ∙ ap (λ (n : ℕ). history_bytes back.value ++ drop n history) nine_back

    pub report_back_is :
        record { fault = fault_in (report_number plan tree history mask); value = history_in (report_left plan tree history mask) } ≡ back
    unfolding first
    report_back_is =
        let fault : fault_in (report_number plan tree history mask) ≡ back.fault =
        ap (λ (f : ℕ). fault_in (numbered (first f back.fault) 1)) report_long ∙ fault_in_lem back.fault 1 (omega arith) in
        let value = ap history_in report_left_is ∙ history_front back.value eight_back (drop history_length history) in
        λ i. record { fault = fault i; value = value i }

    pub report_so :
        (instruction : List ℕ) → 3 ≤ length instruction → AnswersReport (plan_in plan) (history_in history) mask
        (told_in (show_number plan tree history instruction) (show_left plan tree history instruction))
        (record { fault = fault_in (report_number plan tree history mask); value = history_in (report_left plan tree history mask) })
    report_so instruction three =
        let told = told_is plan tree history instruction enough nine three in
        subst (λ (x : Told). AnswersReport (plan_in plan) (history_in history) mask x (record {
          fault = fault_in (report_number plan tree history mask);
          value = history_in (report_left plan tree history mask);
        })) (sym told)
        (subst (AnswersReport (plan_in plan) (history_in history) mask (told_at plan tree history)) (sym report_back_is)
        (demand1.report (plan_in plan) tree (history_in history) mask))

  -- every byte of the history, whether the plan is long enough or not
  own_bytes : history_length ≤ length history → history ≡ history_bytes (history_in history) ++ drop history_length history
  own_bytes nine =
      sym (ap (λ (l : List ℕ). l ++ drop history_length history) (history_bytes_cross history nine) ∙ take-append-drop history_length history)

  pub report_bytes_so :
      history_length ≤ length history →
      (report_left plan tree history mask ≡ history_bytes (history_in (report_left plan tree history mask)) ++ drop history_length history)
      × (¬ (report_number plan tree history mask ≡ 1) → report_left plan tree history mask ≡ history)
  report_bytes_so nine =
      let f = report_short plan history in
      let bytes = history_bytes back.value in
      let left = report_left plan tree history mask in
      let all : left ≡ history_bytes (history_in left) ++ drop history_length history =
      by_test (eqb f 0)
      (λ y. let is = front_is f bytes history (eqb_is f 0 y) ∙ ap (λ (n : ℕ). bytes ++ drop n history) nine_back in
      let there = ap history_in is ∙ history_front back.value eight_back (drop history_length history) in
      is ∙ ap (λ (h : History). history_bytes h ++ drop history_length history) (sym there))
      (λ z. let stays = stays f bytes history (differs f 0 z) in
      stays ∙ own_bytes nine ∙ ap (λ (l : List ℕ). history_bytes (history_in l) ++ drop history_length history) (sym stays)) in
      (all, report_refused_same plan tree history mask)

-- ---- the run through the layouts is this planner's

module _ (plan tree : List ℕ) (enough : plan_length ≤ length plan) where
  agrees : Agrees (run_of library plan) the_run (plan_in plan) tree
  agrees =
      let nine : (h : History) → Eight h → history_length ≤ length (history_bytes h) = λ h eight. omega arith in
      record {
        shows = λ h eight.
            told_is plan tree (history_bytes h) (replicate 3 0) enough (nine h eight) (omega arith)
            ∙ ap (show_answer (plan_in plan) tree) (history_crosses h eight);
        reports = λ h eight o.
            report_back_is plan tree (history_bytes h) o enough (nine h eight)
            ∙ ap (λ (k : History). report_answer (plan_in plan) tree k o) (history_crosses h eight);
        eight_back = λ h eight o.
            subst (λ (k : History). Eight (report_answer (plan_in plan) tree k o).value) (history_crosses h eight)
            (eight_back plan tree (history_bytes h) o);
      }

module _ (plan lent : List ℕ) (enough : plan_length ≤ length plan) (small : search_number plan lent < refusals) where
  abbrev made : List ℕ
  made = first_nodes (search_left plan lent) (search_number plan lent)

  answer_is : search_answer (plan_in plan) lent ≡ fine (search_number plan lent)
  answer_is = result_is plan enough lent small

  promise : Demand3For the_run (plan_in plan) lent (Ok (search_number plan lent)) (search_left plan lent)
  promise =
      let none = sym (fault_is (plan_in plan) lent) ∙ ap (λ (a : Answer ℕ). a.fault) answer_is in
      let (room, wf, c) = (answered_exactly (plan_in plan) lent).0 none in
      (demand3 (plan_in plan) lent wf room).1 (Ok (search_number plan lent)) (search_left plan lent)
      (record { answer = sym answer_is; buffer = search_left_is plan enough lent })

  pub every_crew_so : (crew : Crew (run_of library plan) (plan_in plan) made) → EveryCrew crew
  every_crew_so =
      every_crew_of (run_of library plan) the_run (plan_in plan) made (agrees plan made enough)
      (promise.every_crew (search_number plan lent) refl)

  pub every_two_crews_so : EveryTwoCrews (run_of library plan) (plan_in plan) made
  every_two_crews_so =
      two_crews_of (run_of library plan) the_run (plan_in plan) made (agrees plan made enough)
      (promise.every_two_crews (search_number plan lent) refl)

-- ---- lists of calls

-- the steps of a record, byte by byte, with z zero steps behind them
recorded :
    (n z : ℕ) (log : List crew.Step) → length log ≤ n →
    join_below n (λ i. step_bytes (get_or (map step_record log ++ replicate z zero_step) i zero_step)) ≡ bytes_of_steps n log
unfolding bytes_of_steps join_below
recorded zero z [] le = refl
recorded zero z (st ∷ log) le = absurd (omega arith)
recorded (suc n) zero [] le =
    join_first n (λ i. step_bytes zero_step) ∙ ap (λ (l : List ℕ). 0 ∷ 0 ∷ 0 ∷ 0 ∷ l) (recorded n zero [] (omega arith))
recorded (suc n) (suc z) [] le =
    join_first n (λ i. step_bytes (get_or (replicate (suc z) zero_step) i zero_step))
    ∙ ap (λ (l : List ℕ). 0 ∷ 0 ∷ 0 ∷ 0 ∷ l) (recorded n z [] (omega arith))
recorded (suc n) z (st ∷ log) le =
    join_first n (λ i. step_bytes (get_or (map step_record (st ∷ log) ++ replicate z zero_step) i zero_step))
    ∙ ap (λ (l : List ℕ). st.instruction.slot ∷ st.instruction.points ∷ st.instruction.choices ∷ st.report ∷ l)
    (recorded n z log (omega arith))

module _
    (plan tree history calls steps : List ℕ) (enough : plan_length ≤ length plan) (nine : history_length ≤ length history)
    (room : 32 ≤ length steps) where
  follow_long : follow_short plan history steps ≡ 0
  follow_long =
      then_short (plan_short plan) _ 0 (long plan_length plan enough)
      (then_short (history_short history) _ 0 (long history_length history nine) (long steps_length steps room))

  abbrev progress : Progress
  progress = followed plan tree history calls

  abbrev through : Progress
  through = after_calls (run_of library plan) (plan_in plan) tree (begun (history_in history)) (calls_in calls)

  through_is : through ≡ progress
  through_is =
      calls_agree (run_of library plan) the_run (plan_in plan) tree (agrees plan tree enough) (begun (history_in history)) (calls_in calls)
      (eight_in history)

  few : length progress.steps ≤ 8
  few = demand1.follow_few (plan_in plan) tree (history_in history) calls (eight_in history)

  eight : length progress.history.masks ≡ 8
  eight =
      calls_eight (run_of library plan) the_run (plan_in plan) tree (agrees plan tree enough) (begun (history_in history)) (calls_in calls)
      (eight_in history)

  steps_are : steps_bytes progress ≡ bytes_of_steps 8 progress.steps
  unfolding steps_bytes followed_record
  steps_are = recorded 8 (8 - length progress.steps) progress.steps few

  pub follow_so :
      (follow_number plan tree history calls steps ≡ length through.steps)
      × (follow_history plan tree history calls steps ≡ history_bytes through.history ++ drop history_length history)
      × (follow_steps plan tree history calls steps ≡ bytes_of_steps 8 through.steps ++ drop 32 steps)
  follow_so =
      let f = follow_short plan history steps in
      let number = ap (λ (n : ℕ). numbered n (length progress.steps)) follow_long ∙ is_result (length progress.steps) in
      let nine-bytes : length (history_bytes progress.history) ≡ history_length = ap (λ (n : ℕ). suc n) eight in
      let left = front_is f (history_bytes progress.history) history follow_long
      ∙ ap (λ (n : ℕ). history_bytes progress.history ++ drop n history) nine-bytes in
      let put = front_is f (steps_bytes progress) steps follow_long
      ∙ ap (λ (n : ℕ). steps_bytes progress ++ drop n steps) (steps_length_lem progress)
      ∙ ap (λ (l : List ℕ). l ++ drop 32 steps) steps_are in
      rw through_is (number, left, put)
