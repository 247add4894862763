-- Laws: a run that answers as another does, over one plan and one tree, at every history that has eight masks: what holds of the other's crews
-- holds of its crews. Read the last two statements; only the checker need believe the proofs.
use mathlib.Core.Path.{◌≡◌, refl, sym, ap, ◌∙◌, subst}
use mathlib.Core.List.{List, [], ◌∷◌, ◌++◌}
use Prim.Native.Nat.{ℕ}
use lib.ListN.{length}
use Rattle.plan.specs.declared.Plan.{Plan}
use Rattle.plan.specs.Answer.{Answer}
use Rattle.run.specs.declared.History.{History}
use Rattle.run.specs.declared.Reported.{Reported}
use Rattle.run.specs.declared.Shown.{Shown}
use Rattle.run.specs.History.{empty_history}
use Rattle.following.specs.Calls.{Run, Call, showing, reporting, Progress, steps_of, after_call, after_calls}
use Rattle.demands.specs.Crews.{ShownBy, ReportedBy, Made, showed, reported, Answered, held_after, Crew, history_held}
use Rattle.demands.specs.Demand3.{EveryCrew, EveryTwoCrews}

abbrev pub Eight : History → Type 0
Eight h = length h.masks ≡ 8

-- R answers as S does, and a history that is handed back has eight masks again
pub record Agrees (R S : Run) (p : Plan) (tree : List ℕ) : Type 0 where
  pub shows : (h : History) → Eight h → R.shows p tree h ≡ S.shows p tree h
  pub reports : (h : History) → Eight h → (o : ℕ) → R.reports p tree h o ≡ S.reports p tree h o
  pub eight_back : (h : History) → Eight h → (o : ℕ) → Eight (S.reports p tree h o).value

module _ (R S : Run) (p : Plan) (tree : List ℕ) (agree : Agrees R S p tree) where
  -- ---- lists of calls

  one_call : (r : Progress) (call : Call) → Eight r.history → after_call R p tree r call ≡ after_call S p tree r call
  unfolding after_call
  one_call r showing eight = refl
  one_call r (reporting o) eight =
      let shown = agree.shows r.history eight in
      let back = agree.reports r.history eight o in
      λ i. record { history = (back i).value; steps = r.steps ++ steps_of (shown i) o (back i).fault }

  one_eight : (r : Progress) (call : Call) → Eight r.history → Eight (after_call S p tree r call).history
  unfolding after_call
  one_eight r showing eight = eight
  one_eight r (reporting o) eight = agree.eight_back r.history eight o

  pub calls_agree : (r : Progress) (calls : List Call) → Eight r.history → after_calls R p tree r calls ≡ after_calls S p tree r calls
  unfolding after_calls
  calls_agree r [] eight = refl
  calls_agree r (call ∷ calls) eight =
      ap (λ (s : Progress). after_calls R p tree s calls) (one_call r call eight)
      ∙ calls_agree (after_call S p tree r call) calls (one_eight r call eight)

  pub calls_eight : (r : Progress) (calls : List Call) → Eight r.history → Eight (after_calls S p tree r calls).history
  unfolding after_calls
  calls_eight r [] eight = eight
  calls_eight r (call ∷ calls) eight = calls_eight (after_call S p tree r call) calls (one_eight r call eight)

  -- ---- crews

  module _ (h : History) (eight : Eight h) where
    shown_by : (s : Shown) → ShownBy R p tree h s → ShownBy S p tree h s
    shown_by s e = e ∙ agree.shows h eight

    reported_by_lem : (o : ℕ) (a : Reported) → ReportedBy R p tree h o a → ReportedBy S p tree h o a
    reported_by_lem o a e = e ∙ agree.reports h eight o

    handed_eight : (o : ℕ) (a : Reported) → ReportedBy S p tree h o a → Eight a.history
    handed_eight o a e = subst Eight (sym (ap (λ (x : Answer History). x.value) e)) (agree.eight_back h eight o)

  calls_answered : (h : History) → Eight h → (calls : List Made) → Answered R p tree h calls → Answered S p tree h calls
  unfolding Answered
  calls_answered h eight [] y = tt
  calls_answered h eight (showed says ∷ calls) (s, y) = (shown_by h eight says s, calls_answered h eight calls y)
  calls_answered h eight (reported o says a ∷ calls) (s, r, y) =
      let back = reported_by_lem h eight o a r in
      (shown_by h eight says s, back, calls_answered a.history (handed_eight h eight o a back) calls y)

  held_eight : (h : History) → Eight h → (calls : List Made) → Answered S p tree h calls → Eight (held_after h calls)
  unfolding Answered held_after
  held_eight h eight [] y = eight
  held_eight h eight (showed says ∷ calls) (s, y) = held_eight h eight calls y
  held_eight h eight (reported o says a ∷ calls) (s, r, y) = held_eight a.history (handed_eight h eight o a r) calls y

  -- the same crew, of S
  abbrev crew_of_lem : Crew R p tree → Crew S p tree
  crew_of_lem crew =
      let answered = calls_answered empty_history refl crew.calls crew.answered in
      let h = held_after empty_history crew.calls in
      record {
        calls = crew.calls;
        answered = answered;
        says = crew.says;
        told = shown_by h (held_eight empty_history refl crew.calls answered) crew.says crew.told;
      }

  crew_eight : (crew : Crew R p tree) → Eight (history_held crew)
  crew_eight crew = held_eight empty_history refl crew.calls (crew_of_lem crew).answered

  pub every_crew_of : ((crew : Crew S p tree) → EveryCrew crew) → (crew : Crew R p tree) → EveryCrew crew
  every_crew_of every crew =
      let all = every (crew_of_lem crew) in
      record {
        holds_reports = all.holds_reports;
        each_follows = all.each_follows;
        at_most_8 = all.at_most_8;
        told_by_rule = all.told_by_rule;
        goes_on = λ n.
            let l = all.goes_on n in
            let h = history_held crew in
            let eight = crew_eight crew in
            record {
              instruction = l.instruction;
              is_told = l.is_told;
              accepts_exactly = λ o a so. l.accepts_exactly o a (reported_by_lem h eight o a so);
              lengthens = λ o a so. l.lengthens o a (reported_by_lem h eight o a so);
            };
        performed_once = all.performed_once;
        within_horizon_lem = all.within_horizon_lem;
        constraints_held = all.constraints_held;
      }

  pub two_crews_of : EveryTwoCrews S p tree → EveryTwoCrews R p tree
  two_crews_of every crew crew' = every (crew_of_lem crew) (crew_of_lem crew')
