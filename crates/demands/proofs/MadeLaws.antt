-- Laws: calls that were made, with what they handed back, and lists of calls whose answers are functions: what holds of every list holds of
-- every crew. Only the checker need believe this file.
use Rattle.std.specs.Prelude.{Result, Ok, Err}
use mathlib.Core.Path.{◌≡◌, refl, sym, ap, ◌∙◌, subst}
use mathlib.Core.List.{List, [], ◌∷◌, ◌++◌, map, append_assoc, append-nil}
use Prim.Native.Nat.{ℕ}
use native.Mathlib.Omega.{arith}
use Rattle.network.specs.Game.{Move, Outcome}
use Rattle.network.specs.Crew.{Step}
use Rattle.plan.specs.declared.Plan.{Plan}
use Rattle.plan.specs.declared.Refusal.{Refusal}
use Rattle.plan.specs.Refusal.{refusal_number, judged_number}
use Rattle.plan.specs.Answer.{Answer}
use Rattle.plan.specs.Plan.{network_of}
use Rattle.plan.proofs.RefusalLaws.{fine_is, no_refusal}
use Rattle.run.specs.declared.History.{History}
use Rattle.run.specs.declared.Shown.{Shown}
use Rattle.run.specs.declared.Shown.TheVariants as shown
use Rattle.run.specs.declared.Reported.{Reported}
use Rattle.run.specs.History.{history_of, empty_history}
use Rattle.run.specs.Told.{instruct, complete, instructed, shown_told, instruction_at}
use Rattle.run.proofs.ToldLaws.{done_is_not, refused_is_not}
use Rattle.following.specs.Calls.{Run, Call, showing, reporting, Progress, begun, steps_of, after_call, after_calls}
use Rattle.following.proofs.FollowLaws.{no_step_refused}
use Rattle.demands.specs.Crews.{ShownBy, ReportedBy, Made, showed, reported, Answered, accepted_by, held_after, followed_by, steps_taken, Crew, history_held, steps_followed, reports_made, Done}
use Rattle.demands.specs.Demand3.{CanBeLengthened, EveryCrew, EveryTwoCrews}
use Rattle.demands.proofs.ListLaws.{history_after, steps_after, told_after, ListDone, Lengthened, EveryList, EveryTwoLists}

-- ---- what is said

-- told done, `show` said done; one instruction is told
pub says_done : (s : Shown) → shown_told s ≡ complete → s ≡ shown.Done
says_done (shown.Instruct v) e = let z : ◌≡◌ {A = ℕ} 0 1 = cc in absurd (omega arith)
says_done shown.Done e = refl
says_done (shown.Refused k) e = let z : ◌≡◌ {A = ℕ} 0 1 = cc in absurd (omega arith)

instructs_one : {m k : Move} → instruct m ≡ instruct k → m ≡ k
instructs_one e = cc

followed_is : (s : Shown) (o : ℕ) (j : Result (Unit {0}) Refusal) → followed_by s o j ≡ steps_of (shown_told s) o (judged_number j)
unfolding steps_of
followed_is (shown.Instruct v) o (Ok tt) = refl
followed_is (shown.Instruct v) o (Err r) = sym (no_step_refused (instruct (instructed v)) o (refusal_number r) (no_refusal r))
followed_is shown.Done o j = refl
followed_is (shown.Refused r) o j = refl

-- a report that is accepted only where an instruction is told follows it
pub one_follows :
    (s : Shown) (o : ℕ) (j : Result (Unit {0}) Refusal) → (j ≡ Ok tt → (m : Move) × (shown_told s ≡ instruct m)) →
    accepted_by o j ≡ map (λ (st : Step). st.report) (followed_by s o j)
one_follows (shown.Instruct v) o (Ok tt) told = refl
one_follows (shown.Instruct v) o (Err r) told = refl
one_follows shown.Done o (Ok tt) told = done_is_not (told refl).1
one_follows shown.Done o (Err r) told = refl
one_follows (shown.Refused k) o (Ok tt) told = refused_is_not (told refl).1
one_follows (shown.Refused k) o (Err r) told = refl

-- ---- the calls that were made

abbrev pub call_made : Made → Call
call_made (showed says) = showing
call_made (reported o says a) = reporting o

module _ (R : Run) (p : Plan) (tree : List ℕ) where
  -- one report
  one_report :
      (h : History) (log : List Step) (o : ℕ) (says : Shown) (a : Reported) → ShownBy R p tree h says → ReportedBy R p tree h o a →
      after_call R p tree (record { history = h; steps = log }) (reporting o)
      ≡ record { history = a.history; steps = log ++ followed_by says o a.answer }
  unfolding after_call
  one_report h log o says a shown-so reported-so =
      sym (ap (λ (l : List Step). record { history = a.history; steps = log ++ l }) (followed_is says o a.answer)
      ∙ (λ i. record { history = (reported-so i).value; steps = log ++ steps_of (shown-so i) o (reported-so i).fault }))

  -- .. and so all of them
  pub made_is :
      (h : History) (log : List Step) (made : List Made) → Answered R p tree h made →
      after_calls R p tree (record { history = h; steps = log }) (map call_made made)
      ≡ record { history = held_after h made; steps = log ++ steps_taken made }
  unfolding Answered held_after steps_taken after_calls after_call
  made_is h log [] y = ap (λ (l : List Step). record { history = h; steps = l }) (sym (append-nil log))
  made_is h log (showed says ∷ made) (s, y) = made_is h log made y
  made_is h log (reported o says a ∷ made) (shown-so, reported-so, y) =
      let steps = followed_by says o a.answer in
      ap (λ (r : Progress). after_calls R p tree r (map call_made made)) (one_report h log o says a shown-so reported-so)
      ∙ made_is a.history (log ++ steps) made y
      ∙ ap (λ (l : List Step). record { history = held_after a.history made; steps = l }) (append_assoc log steps (steps_taken made))

  -- ---- a crew

  module _ (crew : Crew R p tree) where
    abbrev pub calls_of : List Call
    calls_of = map call_made crew.calls

    progress_is : after_calls R p tree (begun empty_history) calls_of ≡ record { history = history_held crew; steps = steps_followed crew }
    progress_is = made_is empty_history [] crew.calls crew.answered

    pub history_is : history_after R p tree calls_of ≡ history_held crew
    history_is = ap (λ (r : Progress). r.history) progress_is

    pub steps_are : steps_after R p tree calls_of ≡ steps_followed crew
    steps_are = ap (λ (r : Progress). r.steps) progress_is

    pub told_is : told_after R p tree calls_of ≡ shown_told crew.says
    told_is = ap (R.shows p tree) history_is ∙ sym crew.told

    list_done : Done crew → ListDone R p tree calls_of
    list_done e = told_is ∙ ap shown_told e

    -- the history can be lengthened, where the functions say so
    lengthened :
        (says : Shown) → says ≡ crew.says → Lengthened R p tree (history_held crew) → ¬ Done crew →
        CanBeLengthened R p tree (history_held crew) crew.says
    lengthened shown.Done q l n = absurd (n (sym q))
    lengthened (shown.Refused k) q l n = refused_is_not (ap shown_told q ∙ crew.told ∙ l.is_told)
    lengthened (shown.Instruct v) q l n =
        let h = history_held crew in
        let same : l.instruction ≡ instructed v = instructs_one (sym l.is_told ∙ sym crew.told ∙ sym (ap shown_told q)) in
        let fault : (o : ℕ) (a : Reported) → ReportedBy R p tree h o a → judged_number a.answer ≡ (R.reports p tree h o).fault
        = λ o a so. ap (λ (x : Answer History). x.fault) so in
        record {
          instruction = v;
          is_told = sym q;
          accepts_exactly = λ o a so. (
            λ y. subst (λ (m : Move). Outcome (network_of p) m o) same ((l.accepts_exactly o).0 (sym (fault o a so) ∙ ap judged_number y)),
            λ k. fine_is a.answer
                (fault o a so ∙ (l.accepts_exactly o).1 (subst (λ (m : Move). Outcome (network_of p) m o) (sym same) k)),
          );
          lengthens = λ o a so y.
              ap (λ (x : Answer History). x.value) so ∙ l.lengthens o (sym (fault o a so) ∙ ap judged_number y);
        }

    -- what holds of its list of calls holds of the crew, where each accepted report follows an instruction
    pub crew_so : reports_made crew ≡ map (λ st. st.report) (steps_followed crew) → EveryList R p tree calls_of → EveryCrew crew
    crew_so each all =
        record {
          holds_reports = (rw (history_is, steps_are) at all.holds_reports) ∙ ap history_of (sym each);
          each_follows = each;
          at_most_8 = rw history_is at all.at_most_8;
          told_by_rule = λ t f. sym told_is ∙ (rw steps_are at (all.told_by_rule t f)) ∙ ap (instruction_at p t) (sym each);
          goes_on = λ n.
              lengthened crew.says refl
              (subst (Lengthened R p tree) history_is (all.goes_on (λ e. n (says_done crew.says (sym told_is ∙ e))))) n;
          performed_once = λ e. rw steps_are at (all.performed_once (list_done e));
          within_horizon_lem = λ e. rw steps_are at (all.within_horizon_lem (list_done e));
          constraints_held = λ e. rw steps_are at (all.constraints_held (list_done e));
        }

  pub two_crews_so : EveryTwoLists R p tree → EveryTwoCrews R p tree
  two_crews_so all crew crew' e e' u =
      rw (steps_are crew, steps_are crew') at (all (calls_of crew) (calls_of crew') (list_done crew e) (list_done crew' e') u)
