-- Laws of a list of calls as bytes, and of the record of a crew's progress. Only the checker need believe this file.
use mathlib.Core.Path.{◌≡◌, refl, sym, ap, ◌∙◌, subst}
use mathlib.Core.List.{List, [], ◌∷◌, ◌++◌, map, append-nil, map-append}
use Prim.Native.Nat.{ℕ, zero, suc, ◌+◌, ◌-◌, ◌*◌, ◌/◌, ◌≤◌, ◌<◌}
use native.Mathlib.Omega.{arith}
use native.Mathlib.Nat.{not-suc-le-zero}
use lib.Dec.{eqb}
use lib.ListN.{length, get_or, take, drop, set, replicate, length-append, length-map}
use lib.Seq.{drop-drop, get_or-take}
use Rattle.std.specs.Simd.{first_chunks}
use Rattle.network.specs.Crew as crew
use Rattle.network.proofs.Booleans.{by_test, eqb_is, differs}
use Rattle.plan.specs.declared.Plan.{Plan}
use Rattle.plan.specs.Answer.{Answer}
use Rattle.plan.proofs.SliceLaws.{padded, put_next}
use Rattle.run.specs.declared.Instruction.{Instruction}
use Rattle.run.specs.declared.History.{History}
use Rattle.run.specs.declared.Shown.{Shown}
use Rattle.run.specs.declared.Shown.TheVariants as shown
use Rattle.run.specs.Run.{show_answer, report_answer}
use Rattle.run.specs.Told.{Told, instruct, complete, refuse, instructed, shown_told}
use Rattle.run.proofs.RunTheorems.{accepted_longer, refused_same}
use Rattle.following.specs.declared.Followed.{Followed}
use Rattle.following.specs.Calls.{Call, showing, reporting, Progress, begun, steps_of, after_call, after_calls}
use Rattle.following.specs.ThisRun.{the_run}
use Rattle.following.specs.Following.{call_of, calls_in, zero_step, step_record, followed_record}
use Rattle.following.specs.OneCall.{one_step_more, AfterCall}

-- ---- calls as bytes

pub calls_none : (bytes : List ℕ) → length bytes < 2 → calls_in bytes ≡ []
unfolding calls_in
calls_none [] lt = refl
calls_none (kind ∷ []) lt = refl
calls_none (kind ∷ o ∷ bytes) lt = absurd (omega arith)

pub calls_next : (bytes : List ℕ) → 2 ≤ length bytes → calls_in bytes ≡ call_of (get_or bytes 0 0) (get_or bytes 1 0) ∷ calls_in (drop 2 bytes)
unfolding calls_in
calls_next [] le = absurd (omega arith)
calls_next (kind ∷ []) le = absurd (omega arith)
calls_next (kind ∷ o ∷ bytes) le = refl

-- chunk i of the first k chunks of n bytes
chunk_at : (n k : ℕ) (bytes : List ℕ) (i : ℕ) → i < k → get_or (first_chunks n k bytes) i [] ≡ take n (drop (n * i) bytes)
chunk_at n zero bytes i lt = absurd (not-suc-le-zero lt)
chunk_at n (suc k) bytes zero lt = let none : 0 ≡ n * 0 = omega arith in ap (λ (j : ℕ). take n (drop j bytes)) none
chunk_at n (suc k) bytes (suc i) lt =
    let there : n + n * i ≡ n * suc i = omega arith in
    chunk_at n k (drop n bytes) i (omega arith) ∙ ap (take n) (drop-drop (n * i) n bytes ∙ ap (λ (j : ℕ). drop j bytes) there)

-- the call that chunk i of two bytes is
pub call_at :
    (bytes : List ℕ) (chunks : List (List ℕ)) (i : ℕ) (c : Call) → chunks ≡ first_chunks 2 (length bytes / 2) bytes → i < length bytes / 2 →
    c ≡ call_of (get_or (get_or chunks i []) 0 0) (get_or (get_or chunks i []) 1 0) →
    c ≡ call_of (get_or (drop (2 * i) bytes) 0 0) (get_or (drop (2 * i) bytes) 1 0)
call_at bytes chunks i c e lt is =
    let left = drop (2 * i) bytes in
    let chunk : get_or chunks i [] ≡ take 2 left = ap (λ (cs : List (List ℕ)). get_or cs i []) e ∙ chunk_at 2 (length bytes / 2) bytes i lt in
    is
    ∙ ap (λ (b : List ℕ). call_of (get_or b 0 0) (get_or b 1 0)) chunk
    ∙ ap (λ (k : ℕ). call_of k (get_or (take 2 left) 1 0)) (get_or-take 2 left 0 0 (omega arith))
    ∙ ap (call_of (get_or left 0 0)) (get_or-take 2 left 1 0 (omega arith))

-- ---- the steps of one report

-- a refused report follows none, and neither does one where no instruction is told
pub no_step_refused : (t : Told) (o fault : ℕ) → ¬ (fault ≡ 0) → steps_of t o fault ≡ []
unfolding steps_of
no_step_refused (instruct m) o zero n = absurd (n refl)
no_step_refused (instruct m) o (suc fault) n = refl
no_step_refused complete o fault n = refl
no_step_refused (refuse k) o fault n = refl

pub no_step_untold : (t : Shown) → ((v : Instruction) → ¬ (t ≡ shown.Instruct v)) → (o fault : ℕ) → steps_of (shown_told t) o fault ≡ []
unfolding steps_of
no_step_untold (shown.Instruct v) n o fault = absurd (n v refl)
no_step_untold shown.Done n o fault = refl
no_step_untold (shown.Refused r) n o fault = refl

pub one_step :
    (t : Told) (v : Instruction) (o fault : ℕ) → t ≡ instruct (instructed v) → fault ≡ 0 →
    steps_of t o fault ≡ record { instruction = instructed v; report = o } ∷ []
unfolding steps_of
one_step t v o fault e f = rw (e, f)

-- ---- the record after a report

-- the record of one step more
record_more :
    (h : History) (log : List crew.Step) (st : crew.Step) → length log < 8 →
    followed_record (record { history = h; steps = log ++ st ∷ [] })
    ≡ record {
      history = h;
      count = length log + 1;
      steps = set (map step_record log ++ replicate (8 - length log) zero_step) (length log) (step_record st);
    }
unfolding followed_record
record_more h log st lt =
    let done = map step_record log in
    let long : length done ≡ length log = length-map log step_record in
    let more = log ++ st ∷ [] in
    let steps : set (done ++ replicate (8 - length log) zero_step) (length log) (step_record st)
    ≡ map step_record more ++ replicate (8 - length more) zero_step
    = ap (λ (k : ℕ). set (done ++ replicate (8 - k) zero_step) k (step_record st)) (sym long)
    ∙ put_next 8 zero_step done (step_record st) (omega arith)
    ∙ ap (padded 8 zero_step) (sym (map-append step_record log (st ∷ [])))
    ∙ ap (λ (k : ℕ). map step_record more ++ replicate (8 - k) zero_step) (length-map more step_record) in
    λ i. record { history = h; count = length-append log (st ∷ []) i; steps = sym steps i }

-- a showing leaves everything
pub shown_leaves : (p : Plan) (tree : List ℕ) (f : Followed) → AfterCall p tree f showing f
unfolding after_call
shown_leaves p tree f s is = is

-- A report: what was told before it and what it answered, by the definitions.
pub record AtReport (p : Plan) (tree : List ℕ) (f : Followed) (o : ℕ) (told : Told) (answer : Answer History) : Type 0 where
  pub told_is : told ≡ show_answer p tree f.history
  pub answer_is : answer ≡ report_answer p tree f.history o

module _
    (p : Plan) (tree : List ℕ) (f : Followed) (o : ℕ) (told : Told) (answer : Answer History)
    (r : AtReport p tree f o told answer) where
  -- what the call leaves
  module _ (s : Progress) (is : f ≡ followed_record s) where
    history_is : f.history ≡ s.history
    unfolding followed_record
    history_is = ap (λ (x : Followed). x.history) is

    left_is :
        after_call the_run p tree s (reporting o)
        ≡ record { history = answer.value; steps = s.steps ++ steps_of told o answer.fault }
    unfolding after_call
    left_is =
        ap (λ (h : History). record {
          history = (report_answer p tree h o).value;
          steps = s.steps ++ steps_of (show_answer p tree h) o (report_answer p tree h o).fault;
        }) (sym history_is)
        ∙ ap (λ (a : Answer History). record {
          history = a.value;
          steps = s.steps ++ steps_of (show_answer p tree f.history) o a.fault;
        }) (sym r.answer_is)
        ∙ ap (λ (t : Told). record { history = answer.value; steps = s.steps ++ steps_of t o answer.fault }) (sym r.told_is)

    -- .. where it follows these steps
    left_with :
        (more : List crew.Step) → steps_of told o answer.fault ≡ more →
        after_call the_run p tree s (reporting o) ≡ record { history = answer.value; steps = s.steps ++ more }
    left_with more e =
        left_is
        ∙ ap (λ (l : List crew.Step). record { history = answer.value; steps = s.steps ++ l }) e

  -- no step more
  pub as_before :
      steps_of told o answer.fault ≡ [] →
      AfterCall p tree f (reporting o) (record { history = answer.value; count = f.count; steps = f.steps })
  unfolding followed_record
  as_before none s is =
      ap (λ (x : Followed). record { history = answer.value; count = x.count; steps = x.steps }) is
      ∙ ap followed_record
      (sym (left_with s is [] none ∙ ap (λ (l : List crew.Step). record { history = answer.value; steps = l }) (append-nil s.steps)))

  -- one step more
  pub step_more :
      (v : Instruction) → steps_of told o answer.fault ≡ record { instruction = instructed v; report = o } ∷ [] → f.count < 8 →
      AfterCall p tree f (reporting o) (one_step_more f answer.value v o)
  unfolding followed_record
  step_more v one lt s is =
      let count_is = ap (λ (x : Followed). x.count) is in
      ap (λ (x : Followed). one_step_more x answer.value v o) is
      ∙ sym (record_more answer.value s.steps (record { instruction = instructed v; report = o }) (omega arith))
      ∙ ap followed_record (sym (left_with s is _ one))

-- ---- a list of calls

-- where a crew stands: its record, and the bytes of calls still to be made, which lead to how far it comes in all
pub record Stands (p : Plan) (tree : List ℕ) (whole : Progress) (f : Followed) (bytes : List ℕ) : Type 0 where
  pub progress : Progress
  pub is : f ≡ followed_record progress
  pub within : length progress.steps ≤ progress.history.count
  pub leads : after_calls the_run p tree progress (calls_in bytes) ≡ whole

-- a report follows one step at most, and only where it is accepted
one_at_most : (t : Told) (o fault : ℕ) → length (steps_of t o fault) ≤ 1
unfolding steps_of
one_at_most (instruct m) o zero = omega arith
one_at_most (instruct m) o (suc fault) = omega arith
one_at_most complete o fault = omega arith
one_at_most (refuse n) o fault = omega arith

call_within :
    (p : Plan) (tree : List ℕ) (s : Progress) (call : Call) → length s.steps ≤ s.history.count →
    length (after_call the_run p tree s call).steps ≤ (after_call the_run p tree s call).history.count
unfolding after_call
call_within p tree s showing le = le
call_within p tree s (reporting o) le =
    let told = show_answer p tree s.history in
    let n = (report_answer p tree s.history o).fault in
    let all : length (s.steps ++ steps_of told o n) ≡ length s.steps + length (steps_of told o n) = length-append s.steps (steps_of told o n) in
    let few = one_at_most told o n in
    by_test (eqb n 0)
    (λ y. let longer-by : (report_answer p tree s.history o).value.count ≡ s.history.count + 1
    = ap (λ (h : History). h.count) (accepted_longer p tree s.history o (eqb_is n 0 y)) in
    omega arith)
    (λ z. let same : (report_answer p tree s.history o).value.count ≡ s.history.count
    = ap (λ (h : History). h.count) (refused_same p tree s.history o (differs n 0 z)) in
    let none : length (steps_of told o n) ≡ 0 = ap length (no_step_refused told o n (differs n 0 z)) in
    omega arith)

-- before the first call
pub history_begun : (h : History) (f : Followed) → f ≡ followed_record (begun h) → f.history ≡ h
unfolding followed_record
history_begun h f e = ap (λ (x : Followed). x.history) e

pub stand_begins :
    (p : Plan) (tree : List ℕ) (h : History) (f : Followed) (bytes : List ℕ) → f ≡ followed_record (begun h) →
    Stands p tree (after_calls the_run p tree (begun f.history) (calls_in bytes)) f bytes
stand_begins p tree h f bytes e =
    record {
      progress = begun f.history;
      is = e ∙ ap (λ (x : History). followed_record (begun x)) (sym (history_begun h f e));
      within = omega arith;
      leads = refl;
    }

module _ (p : Plan) (tree : List ℕ) (whole : Progress) (f : Followed) (bytes : List ℕ) (w : Stands p tree whole f bytes) where
  -- the record has no more steps than its history has reports
  pub steps_fit : f.count ≤ f.history.count
  unfolding followed_record
  steps_fit = subst (λ (x : Followed). x.count ≤ x.history.count) (sym w.is) w.within

  -- no call is left
  pub stand_ends : length bytes < 2 → f ≡ followed_record whole
  unfolding after_calls
  stand_ends lt = w.is ∙ ap followed_record (sym (ap (after_calls the_run p tree w.progress) (calls_none bytes lt)) ∙ w.leads)

  -- one call more
  pub stand_on :
      (c : Call) → c ≡ call_of (get_or bytes 0 0) (get_or bytes 1 0) → 2 ≤ length bytes → (r : Followed) → AfterCall p tree f c r →
      Stands p tree whole r (drop 2 bytes)
  unfolding after_calls
  stand_on c e le r after =
      let next : calls_in bytes ≡ c ∷ calls_in (drop 2 bytes) = calls_next bytes le ∙ rw e in
      record {
        progress = after_call the_run p tree w.progress c;
        is = after w.progress w.is;
        within = call_within p tree w.progress c w.within;
        leads = ap (after_calls the_run p tree w.progress) (sym next) ∙ w.leads;
      }
