-- What follows from demand 3: whatever a crew has called, some calls more bring its run to done, so that what is said of done runs is never
-- said of none; and what `follow` hands back is that of a crew. Read the last two statements; only the checker need believe the proofs.
use Rattle.std.specs.Prelude.{Result, Ok}
use mathlib.Core.Path.{◌≡◌, refl, sym, ap, ◌∙◌, subst}
use mathlib.Core.Logic.{◌⊎◌, inl, inr, ⊎_elim}
use mathlib.Core.List.{List, [], ◌∷◌, ◌++◌, map, map-append, append_assoc, append-nil}
use Prim.Native.Nat.{ℕ, zero, suc, ◌+◌, ◌-◌, ◌≤◌}
use native.Mathlib.Omega.{arith}
use lib.ListN.{length, take, replicate, length-map}
use lib.Seq.{take-append_seam}
use Rattle.network.specs.Crew as crew
use Rattle.network.proofs.Booleans.{clash}
use Rattle.network.proofs.MaskLaws.{bit_zero}
use Rattle.plan.specs.declared.Plan.{Plan}
use Rattle.plan.specs.declared.Refusal.{Refusal}
use Rattle.plan.specs.WellFormed.{WellFormed}
use Rattle.tree.specs.Nodes.{most_bytes, first_nodes}
use Rattle.run.specs.declared.History.{History}
use Rattle.run.specs.History.{empty_history}
use Rattle.run.specs.Told.{Told, instruct, complete, refuse, instructed}
use Rattle.following.specs.declared.Step.{Step}
use Rattle.following.specs.declared.Followed.{Followed}
use Rattle.following.specs.Calls.{Run, Call, reporting, Progress, begun, after_call, after_calls}
use Rattle.following.specs.ThisRun.{the_run}
use Rattle.following.specs.Following.{zero_step, step_record, followed_record, calls_in}
use Rattle.demands.specs.Planner.{Planner}
use Rattle.demands.specs.Crews.{AlwaysAnswers, Made, showed, reported, Answered, held_after, Crew, history_held, steps_followed, Done}
use Rattle.demands.specs.Demand3.{SearchedBy, Demand3For, Demand3}
use Rattle.demands.proofs.ListLaws.{history_after, told_after, ListDone, Lengthened, EveryList}
use Rattle.demands.proofs.MadeLaws.{call_made, calls_of, told_is, says_done}
use Rattle.demands.proofs.SaidLaws.{run_said, made, made_answered, made_calls, crew_of, held_is, followed_are, list_of}

-- ---- a list of calls is brought to done

is_complete : (x : Told) → (x ≡ complete) ⊎ (¬ (x ≡ complete))
is_complete (instruct m) = inr (λ e. let z : ◌≡◌ {A = ℕ} 0 1 = cc in omega arith)
is_complete complete = inl refl
is_complete (refuse n) = inr (λ e. let z : ◌≡◌ {A = ℕ} 0 1 = cc in omega arith)

module _ (R : Run) (p : Plan) (tree : List ℕ) where
  calls_append :
      (r : Progress) (calls more : List Call) →
      after_calls R p tree r (calls ++ more) ≡ after_calls R p tree (after_calls R p tree r calls) more
  unfolding after_calls
  calls_append r [] more = refl
  calls_append r (call ∷ calls) more = calls_append (after_call R p tree r call) calls more

  -- 0 is an outcome of every instruction, so a history that can be lengthened is lengthened by that report
  one_more :
      (calls : List Call) → Lengthened R p tree (history_after R p tree calls) →
      (history_after R p tree (calls ++ reporting 0 ∷ [])).count ≡ (history_after R p tree calls).count + 1
  unfolding after_calls after_call
  one_more calls c =
      let taken = (c.accepts_exactly 0).1 (λ l y. clash y (bit_zero l)) in
      ap (λ (r : Progress). r.history.count) (calls_append (begun empty_history) calls (reporting 0 ∷ []))
      ∙ ap (λ h. h.count) (c.lengthens 0 taken)

  module _ (every : (calls : List Call) → EveryList R p tree calls) where
    -- calls that bring a list to done, at most k of them
    abbrev Finish : ℕ → List Call → Type 0
    Finish k calls = (more : List Call) × ListDone R p tree (calls ++ more) × (length more ≤ k)

    -- it is done already, or one report more is taken
    done_or :
        (k : ℕ) (calls : List Call) →
        ((history_after R p tree (calls ++ reporting 0 ∷ [])).count ≡ (history_after R p tree calls).count + 1 → Finish k calls) →
        Finish k calls
    done_or k calls next =
        ⊎_elim
        (λ e. ([], subst (ListDone R p tree) (sym (append-nil calls)) e, omega arith))
        (λ n. next (one_more calls ((every calls).goes_on n)))
        (is_complete (told_after R p tree calls))

    finish : (k : ℕ) (calls : List Call) → 8 ≤ (history_after R p tree calls).count + k → Finish k calls
    finish zero calls full =
        done_or zero calls (λ longer. let most = (every (calls ++ reporting 0 ∷ [])).at_most_8 in absurd (omega (arith, longer, most, full)))
    finish (suc k) calls full =
        done_or (suc k) calls (λ longer.
        let r = finish k (calls ++ reporting 0 ∷ []) (omega (arith, longer, full)) in
        let few = r.2 in
        (reporting 0 ∷ r.0, subst (ListDone R p tree) (append_assoc calls (reporting 0 ∷ []) r.0) r.1, omega arith))

  -- ---- calls made behind others

  answered_append :
      (h : History) (calls more : List Made) → Answered R p tree h calls → Answered R p tree (held_after h calls) more →
      Answered R p tree h (calls ++ more)
  unfolding Answered held_after
  answered_append h [] more y z = z
  answered_append h (showed says ∷ calls) more (s, y) z = (s, answered_append h calls more y z)
  answered_append h (reported o says a ∷ calls) more (s, r, y) z = (s, r, answered_append a.history calls more y z)

-- ---- Of any planner that meets demand 3: whatever was called, some calls more, at most 8, bring the run to done. So parts 5 and 6 are not
-- empty.

module _
    (P : Planner) (demand : Demand3 P) (p : Plan) (lent : List ℕ) (wf : WellFormed p) (room : most_bytes ≤ length lent) (r : Result ℕ Refusal)
    (left : List ℕ) (by : SearchedBy P p lent r left) (n : ℕ) (e : r ≡ Ok n) where
  abbrev pub tree : List ℕ
  tree = first_nodes left n

  abbrev R : Run
  R = P.run

  promise : Demand3For R p lent r left
  promise = (demand p lent wf room).1 r left by

  said : AlwaysAnswers R p tree
  said = promise.always_answers n e

  every : (calls : List Call) → EveryList R p tree calls
  every calls = list_of R p tree said calls (promise.every_crew n e (crew_of R p tree said calls))

  pub can_be_finished :
      (crew : Crew R p tree) → (more : List Made) × (crew' : Crew R p tree)
      × (crew'.calls ≡ crew.calls ++ more) × Done crew' × (length more ≤ 8)
  can_be_finished crew =
      let first = calls_of R p tree crew in
      let (more, done, few) = finish R p tree every 8 first (omega arith) in
      let then = made R p tree said (history_held crew) more in
      let h = held_after empty_history (crew.calls ++ then) in
      let crew' : Crew R p tree = record {
        calls = crew.calls ++ then;
        answered = answered_append R p tree empty_history crew.calls then crew.answered
            (made_answered R p tree said (history_held crew) more);
        says = (said.shows h).0;
        told = (said.shows h).1;
      } in
      let then_is = made_calls R p tree said (history_held crew) more in
      let calls_are : calls_of R p tree crew' ≡ first ++ more =
      map-append call_made crew.calls then ∙ ap (λ (l : List Call). first ++ l) then_is in
      let as_many : length then ≡ length more = sym (length-map then call_made) ∙ ap length then_is in
      let complete-then = sym (told_is R p tree crew') ∙ ap (told_after R p tree) calls_are ∙ done in
      (then, crew', refl, says_done crew'.says complete-then, omega arith)

-- ---- What `follow` hands back, by its contract, from the empty history on: the history and the steps of a crew. So all that demand 3 says of
-- crews holds of them.

-- the steps that a record holds
abbrev pub step_of : Step → crew.Step
step_of st = record { instruction = instructed st.instruction; report = st.report }

abbrev pub steps_in : Followed → List crew.Step
steps_in f = map step_of (take f.count f.steps)

recorded_back : (log : List crew.Step) → map step_of (map step_record log) ≡ log
recorded_back [] = refl
recorded_back (st ∷ log) = ap (λ (l : List crew.Step). st ∷ l) (recorded_back log)

steps_recorded : (r : Progress) (f : Followed) → f ≡ followed_record r → steps_in f ≡ r.steps
unfolding followed_record
steps_recorded r f e =
    let log = map step_record r.steps in
    ap steps_in e
    ∙ ap (λ (k : ℕ). map step_of (take k (log ++ replicate (8 - length r.steps) zero_step))) (sym (length-map r.steps step_record))
    ∙ ap (map step_of) (take-append_seam log (replicate (8 - length r.steps) zero_step))
    ∙ recorded_back r.steps

pub followed_crew :
    (p : Plan) (tree calls : List ℕ) (f : Followed) →
    f ≡ followed_record (after_calls the_run p tree (begun empty_history) (calls_in calls)) →
    (crew : Crew the_run p tree) × (history_held crew ≡ f.history) × (steps_followed crew ≡ steps_in f)
unfolding followed_record
followed_crew p tree calls f e =
    let said = run_said p tree in
    let list = calls_in calls in (
      crew_of the_run p tree said list,
      held_is the_run p tree said list ∙ sym (ap (λ (x : Followed). x.history) e),
      followed_are the_run p tree said list ∙ sym (steps_recorded (after_calls the_run p tree (begun empty_history) list) f e),
    )
