-- Laws: what a planner answers is something that its calls can hand back, so that there are crews to every list of calls, and what holds of
-- every crew holds of every list. Only the checker need believe this file.
use Rattle.std.specs.Prelude.{Result, Ok, Err}
use mathlib.Core.Path.{◌≡◌, refl, sym, ap, ◌∙◌, subst}
use mathlib.Core.Logic.{inl, inr}
use mathlib.Core.List.{List, [], ◌∷◌, ◌++◌, map, map-append}
use Prim.Native.Nat.{ℕ}
use native.Mathlib.Omega.{arith}
use Rattle.network.specs.Crew.{Step}
use Rattle.plan.specs.declared.Plan.{Plan}
use Rattle.plan.specs.declared.Refusal.{Refusal}
use Rattle.plan.specs.declared.Refusal.TheVariants as refusal
use Rattle.plan.specs.Refusal.{refusal_number, judged_number}
use Rattle.plan.specs.Answer.{Answer}
use Rattle.plan.proofs.RefusalLaws.{fine_is}
use Rattle.search.specs.Search.{search_answer}
use Rattle.search.specs.Searched.{searched_answer}
use Rattle.search.proofs.SearchTheorems.{fault_is, refused_zero}
use Rattle.run.specs.declared.History.{History}
use Rattle.run.specs.declared.Shown.{Shown}
use Rattle.run.specs.declared.Shown.TheVariants as shown
use Rattle.run.specs.declared.Reported.{Reported}
use Rattle.run.specs.History.{history_of, empty_history}
use Rattle.run.specs.Run.{show_answer, report_fault, report_answer}
use Rattle.run.specs.Told.{Told, instruct, complete, refuse, instructed, shown_told, reported_answer, instruction_at}
use Rattle.following.specs.Calls.{Run, Call, showing, reporting}
use Rattle.following.specs.ThisRun.{the_run}
use Rattle.demands.specs.EachCall.{OneOf}
use Rattle.demands.specs.Crews.{AlwaysAnswers, Made, showed, reported, Answered, accepted_in, held_after, followed_by, steps_taken, Crew, history_held, steps_followed, Done}
use Rattle.demands.specs.Demand3.{CanBeLengthened, EveryCrew, EveryTwoCrews}
use Rattle.demands.proofs.Demand1Laws.{crew_numbers, refusal_said, Numbered, accepted_of}
use Rattle.demands.proofs.Demand1Theorem.{show_numbered, reports_one, search_one}
use Rattle.demands.proofs.ListLaws.{history_after, steps_after, told_after, ListDone, Lengthened, EveryList, EveryTwoLists}
use Rattle.demands.proofs.MadeLaws.{one_follows, call_made, calls_of, history_is, steps_are, told_is, says_done}

-- ---- numbers that are said

judged_said : (n : ℕ) → OneOf (0 ∷ crew_numbers) n → (j : Result (Unit {0}) Refusal) × (judged_number j ≡ n)
unfolding OneOf
judged_said n (inl e) = ((Ok tt), sym e)
judged_said n (inr h) = let (r, e) = refusal_said n h in (Err r, e)

pub told_said : (x : Told) → Numbered x → (s : Shown) × (shown_told s ≡ x)
told_said (instruct m) h = (shown.Instruct (record { slot = m.slot; points = m.points; choices = m.choices }), refl)
told_said complete h = (shown.Done, refl)
told_said (refuse n) h = let (r, e) = refusal_said n h in (shown.Refused r, ap refuse e)

pub reported_said : (x : Answer History) → OneOf (0 ∷ crew_numbers) x.fault → (a : Reported) × (reported_answer a ≡ x)
reported_said x h =
    let (j, e) = judged_said x.fault h in
    (record { answer = j; history = x.value }, ap (λ (n : ℕ). record { fault = n; value = x.value }) e)

-- ---- the search

pub search_said : (p : Plan) (xs : List ℕ) → (r : Result ℕ Refusal) × (searched_answer r ≡ search_answer p xs)
unfolding OneOf
search_said p xs = go (search_one p xs)
  where
    number : ℕ
    number = (search_answer p xs).fault

    refused : (r : Refusal) → number ≡ refusal_number r → ¬ (refusal_number r ≡ 0) → (r : Result ℕ Refusal) × (searched_answer r ≡ search_answer p xs)
    refused r e some =
        let zero = refused_zero p xs (λ f. some (sym e ∙ fault_is p xs ∙ f)) in
        (Err r, λ i. record { fault = sym e i; value = sym zero i })

    go : OneOf (0 ∷ 2 ∷ 3 ∷ 4 ∷ 10 ∷ 11 ∷ []) number → (r : Result ℕ Refusal) × (searched_answer r ≡ search_answer p xs)
    go (inl e) = (Ok (search_answer p xs).value, λ i. record { fault = sym e i; value = (search_answer p xs).value })
    go (inr (inl e)) = refused refusal.Head e (λ z. omega arith)
    go (inr (inr (inl e))) = refused refusal.Letters e (λ z. omega arith)
    go (inr (inr (inr (inl e)))) = refused refusal.Constraints e (λ z. omega arith)
    go (inr (inr (inr (inr (inl e))))) = refused refusal.Buffer e (λ z. omega arith)
    go (inr (inr (inr (inr (inr (inl e)))))) = refused refusal.Hopeless e (λ z. omega arith)
    go (inr (inr (inr (inr (inr (inr none)))))) = absurd none

-- ---- the run

pub run_said : (p : Plan) (tree : List ℕ) → AlwaysAnswers the_run p tree
run_said p tree =
    record {
      shows = λ h. told_said (show_answer p tree h) (show_numbered p tree h);
      reports = λ h o. reported_said (report_answer p tree h o) (reports_one p tree h o);
    }

-- each accepted report follows an instruction
pub calls_follow :
    (p : Plan) (tree : List ℕ) (h : History) (calls : List Made) → Answered the_run p tree h calls →
    accepted_in calls ≡ map (λ (st : Step). st.report) (steps_taken calls)
unfolding Answered accepted_in steps_taken report_answer
calls_follow p tree h [] y = refl
calls_follow p tree h (showed says ∷ calls) (s, y) = calls_follow p tree h calls y
calls_follow p tree h (reported o says a ∷ calls) (s, r, y) =
    let steps = followed_by says o a.answer in
    let one = one_follows says o a.answer (λ fine.
    let none : report_fault p (show_answer p tree h) o ≡ 0 = ap (λ (x : Answer History). x.fault) (sym r) ∙ ap judged_number fine in
    let (m, told) = accepted_of p o (show_answer p tree h) (show_numbered p tree h) none in
    (m, s ∙ told)) in
    let on = calls_follow p tree a.history calls y in
    (λ i. one i ++ on i) ∙ sym (map-append (λ (st : Step). st.report) steps (steps_taken calls))

module _ (R : Run) (p : Plan) (tree : List ℕ) (all : AlwaysAnswers R p tree) where
  -- the calls of a list, made
  unfoldable pub made : History → List Call → List Made
  made h [] = []
  made h (showing ∷ calls) = showed (all.shows h).0 ∷ made h calls
  made h (reporting o ∷ calls) = reported o (all.shows h).0 (all.reports h o).0 ∷ made (all.reports h o).0.history calls

  pub made_answered : (h : History) (calls : List Call) → Answered R p tree h (made h calls)
  unfolding Answered made
  made_answered h [] = tt
  made_answered h (showing ∷ calls) = ((all.shows h).1, made_answered h calls)
  made_answered h (reporting o ∷ calls) =
      ((all.shows h).1, (all.reports h o).1, made_answered (all.reports h o).0.history calls)

  pub made_calls : (h : History) (calls : List Call) → map call_made (made h calls) ≡ calls
  unfolding made
  made_calls h [] = refl
  made_calls h (showing ∷ calls) = ap (λ (l : List Call). showing ∷ l) (made_calls h calls)
  made_calls h (reporting o ∷ calls) = ap (λ (l : List Call). reporting o ∷ l) (made_calls (all.reports h o).0.history calls)

  -- the crew that makes them
  abbrev pub crew_of : List Call → Crew R p tree
  crew_of calls =
      let h = held_after empty_history (made empty_history calls) in
      record {
        calls = made empty_history calls;
        answered = made_answered empty_history calls;
        says = (all.shows h).0;
        told = (all.shows h).1;
      }

  module _ (calls : List Call) where
    calls_are : calls_of R p tree (crew_of calls) ≡ calls
    calls_are = made_calls empty_history calls

    pub held_is : history_held (crew_of calls) ≡ history_after R p tree calls
    held_is = sym (history_is R p tree (crew_of calls)) ∙ ap (history_after R p tree) calls_are

    pub followed_are : steps_followed (crew_of calls) ≡ steps_after R p tree calls
    followed_are = sym (steps_are R p tree (crew_of calls)) ∙ ap (steps_after R p tree) calls_are

    pub said_is : shown_told (crew_of calls).says ≡ told_after R p tree calls
    said_is = sym (told_is R p tree (crew_of calls)) ∙ ap (told_after R p tree) calls_are

    pub crew_done : ListDone R p tree calls → Done (crew_of calls)
    crew_done e = says_done (crew_of calls).says (said_is ∙ e)

    lengthened : CanBeLengthened R p tree (history_held (crew_of calls)) (crew_of calls).says → Lengthened R p tree (history_after R p tree calls)
    lengthened l =
        let h = history_held (crew_of calls) in
        let fault : (o : ℕ) → judged_number (all.reports h o).0.answer ≡ (R.reports p tree h o).fault
        = λ o. ap (λ (x : Answer History). x.fault) (all.reports h o).1 in
        let value : (o : ℕ) → (all.reports h o).0.history ≡ (R.reports p tree h o).value
        = λ o. ap (λ (x : Answer History). x.value) (all.reports h o).1 in
        let fine : (o : ℕ) → (R.reports p tree h o).fault ≡ 0 → (all.reports h o).0.answer ≡ Ok tt
        = λ o e. fine_is (all.reports h o).0.answer (fault o ∙ e) in
        subst (Lengthened R p tree) held_is (record {
          instruction = instructed l.instruction;
          is_told = sym (crew_of calls).told ∙ ap shown_told l.is_told;
          accepts_exactly = λ o. (
            λ e. (l.accepts_exactly o (all.reports h o).0 (all.reports h o).1).0 (fine o e),
            λ ok. sym (fault o) ∙ ap judged_number ((l.accepts_exactly o (all.reports h o).0 (all.reports h o).1).1 ok),
          );
          lengthens = λ o e. sym (value o) ∙ l.lengthens o (all.reports h o).0 (all.reports h o).1 (fine o e);
        })

    -- what holds of that crew holds of the list
    pub list_of : EveryCrew (crew_of calls) → EveryList R p tree calls
    list_of every =
        record {
          holds_reports = rw (held_is, followed_are) at (every.holds_reports ∙ ap history_of every.each_follows);
          at_most_8 = rw held_is at every.at_most_8;
          told_by_rule = λ t f.
              sym said_is ∙ (rw followed_are at (every.told_by_rule t f ∙ ap (instruction_at p t) every.each_follows));
          goes_on = λ n. lengthened (every.goes_on (λ e. n (sym said_is ∙ ap shown_told e)));
          performed_once = λ e. rw followed_are at (every.performed_once (crew_done e));
          within_horizon_lem = λ e. rw followed_are at (every.within_horizon_lem (crew_done e));
          constraints_held = λ e. rw followed_are at (every.constraints_held (crew_done e));
        }

  pub two_lists_of : EveryTwoCrews R p tree → EveryTwoLists R p tree
  two_lists_of every calls calls' e e' u =
      rw (followed_are calls, followed_are calls') at (every (crew_of calls) (crew_of calls') (crew_done calls e) (crew_done calls' e') u)
