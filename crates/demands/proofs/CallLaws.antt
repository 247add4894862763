-- Laws of lists of calls over a plan and the bytes of a tree that the checker accepts: whatever is called, the steps lead down the tree,
-- and the history holds their reports. Only the checker need believe this file.
use mathlib.Core.Path.{◌≡◌, refl, sym, ap, ◌∙◌, subst}
use mathlib.Core.Logic.{◌⊎◌, inl, inr, ⊎_elim}
use mathlib.Core.List.{List, [], ◌∷◌, ◌++◌, map, append-nil, map-append}
use mathlib.Core.Bool.{true}
use Prim.Native.Nat.{ℕ, suc, ◌+◌, ◌≤◌, ◌<◌}
use native.Mathlib.Omega.{arith}
use lib.ListN.{length, length-append, length-map}
use Rattle.network.specs.Mask.{bit}
use Rattle.network.specs.Network.{Network}
use Rattle.network.specs.Game.{start, Move, Outcome}
use Rattle.network.specs.Tree.{Tree, done, node}
use Rattle.network.specs.Crew.{Step}
use Rattle.network.specs.Walks.{Follows, AtEnd}
use Rattle.network.proofs.Booleans.{by_test, eqb_no}
use Rattle.network.proofs.BelowLaws.{count_le}
use Rattle.network.proofs.StepsLaws.{steps_length_lem}
use Rattle.plan.specs.declared.Plan.{Plan}
use Rattle.plan.specs.Faults.{unless}
use Rattle.plan.specs.Plan.{network_of}
use Rattle.plan.specs.WellFormed.{WellFormed}
use Rattle.plan.proofs.PlanTheorems.{is_network}
use Rattle.tree.specs.Trees.{Describes}
use Rattle.checker.specs.Checker.{check_fault}
use Rattle.run.specs.declared.History.{History}
use Rattle.run.specs.History.{history_of, empty_history}
use Rattle.run.specs.Run.{show_answer, report_fault, report_answer}
use Rattle.run.specs.Told.{Told, instruct, complete, may_report, instruction_at}
use Rattle.run.proofs.ReportLaws.{may_is}
use Rattle.run.proofs.ToldLaws.{done_is_not}
use Rattle.run.proofs.ReportsLaws.{history_fine_lem, holds_reports, longer_is}
use Rattle.run.proofs.RunTheorems.{shows_fine}
use Rattle.following.specs.Calls.{Call, showing, reporting, Progress, begun, steps_of, after_call, after_calls}
use Rattle.following.specs.ThisRun.{the_run}

abbrev pub step_of : Move → ℕ → Step
step_of m o = record { instruction = m; report = o }

abbrev pub reports_of : List Step → List ℕ
reports_of log = map (λ st. st.report) log

-- the reports of steps with one more behind them
reports_more : (log : List Step) (m : Move) (o : ℕ) → reports_of (log ++ step_of m o ∷ []) ≡ reports_of log ++ o ∷ []
reports_more log m o = map-append (λ st. st.report) log (step_of m o ∷ [])

-- ---- where steps lead on a tree

module _ (p : Plan) (wf : WellFormed p) where
  abbrev net : Network
  net = network_of p

  -- at a node: its instruction is told, and a step that follows it with any outcome leads on
  pub record AtNode (t : Tree) (log : List Step) : Type 0 where
    pub move : Move
    pub is_told : instruction_at p t (reports_of log) ≡ instruct move
    pub leads_on : (o : ℕ) → Outcome net move o → Follows net t (log ++ step_of move o ∷ [])

  -- at the end: done is told
  pub record PastLast (t : Tree) (log : List Step) : Type 0 where
    pub is_told : instruction_at p t (reports_of log) ≡ complete
    pub at_end_lem : AtEnd t log

  pub stands : (t : Tree) (log : List Step) → Follows net t log → PastLast t log ⊎ AtNode t log
  unfolding Follows AtEnd instruction_at
  stands done [] fo = inl (record { is_told = refl; at_end_lem = tt })
  stands done (st ∷ log) fo = absurd fo
  stands (node m next) [] fo = inr (record { move = m; is_told = refl; leads_on = λ o ok. (refl, ok, tt) })
  stands (node m next) (st ∷ log) fo =
      let y = (may_is p wf.head.letters m st.report).1 fo.1 in
      ⊎_elim
      (λ (d : PastLast (next st.report) log). inl (record { is_told = rw y d.is_told; at_end_lem = d.at_end_lem }))
      (λ (a : AtNode (next st.report) log). inr (record {
        move = a.move;
        is_told = rw y a.is_told;
        leads_on = λ o ok. (fo.0, fo.1, a.leads_on o ok);
      }))
      (stands (next st.report) log fo.2)

  -- told done, the steps have come to the end
  pub done_at_end : (t : Tree) (log : List Step) → Follows net t log → instruction_at p t (reports_of log) ≡ complete → AtEnd t log
  done_at_end t log fo e =
      ⊎_elim (λ (d : PastLast t log). d.at_end_lem) (λ (a : AtNode t log). done_is_not (sym e ∙ a.is_told)) (stands t log fo)

  -- ---- calls

  module _ (bs : List ℕ) (t : Tree) (fine : check_fault p bs ≡ 0) (d : Describes net bs t) where
    -- the progress of a crew that followed these steps and no other
    abbrev pub progress_of : List Step → Progress
    progress_of log = record { history = history_of (reports_of log); steps = log }

    -- a crew follows at most 8 steps
    pub at_most_8 : (log : List Step) → Follows net t log → length (reports_of log) ≤ 8
    at_most_8 log fo =
        let steps = steps_length_lem net (is_network p wf) (λ s. Unit {0}) t (start net) log d.shaped fo in
        let points = count_le p.points (bit (start net).left) in
        let few = wf.head.points in
        let same : length (reports_of log) ≡ length log = length-map log (λ st. st.report) in
        omega (arith, steps, points, few, same)

    -- what is told to it, by the tree
    pub told_then : (os : List ℕ) → length os ≤ 8 → show_answer p bs (history_of os) ≡ instruction_at p t os
    told_then os le =
        shows_fine p wf bs t d fine (history_of os) (history_fine_lem os le) ∙ ap (instruction_at p t) (holds_reports os)

    -- ---- one call leaves the progress by steps that lead down the tree

    pub record LeadsDown (r : Progress) : Type 0 where
      pub log : List Step
      pub follows : Follows net t log
      pub is : r ≡ progress_of log

    module _ (log : List Step) (fo : Follows net t log) (o : ℕ) where
      abbrev h : History
      h = history_of (reports_of log)

      abbrev left : Progress
      left = after_call the_run p bs (progress_of log) (reporting o)

      -- a refused report changes nothing
      refused : (x : Told) (n : ℕ) → show_answer p bs h ≡ x → report_fault p x o ≡ suc n → steps_of x o (suc n) ≡ [] → left ≡ progress_of log
      unfolding after_call report_answer
      refused x n e f none =
          rw (e, f, none, eqb_no (suc n) 0 (λ q. omega arith)) (ap (λ (l : List Step). record { history = h; steps = l }) (append-nil log))

      -- an accepted one is a step more
      accepted :
          (m : Move) → show_answer p bs h ≡ instruct m → may_report p m o ≡ true → length (reports_of log) < 8 →
          left ≡ progress_of (log ++ step_of m o ∷ [])
      unfolding after_call report_answer steps_of unless
      accepted m e y room =
          let more = log ++ step_of m o ∷ [] in
          rw (e, y)
          (ap (λ (k : History). record { history = k; steps = more })
          (longer_is (reports_of log) o room ∙ ap history_of (sym (reports_more log m o))))

      one_report : LeadsDown left
      unfolding steps_of unless
      one_report =
          let told = told_then (reports_of log) (at_most_8 log fo) in
          ⊎_elim
          (λ (a : PastLast t log). record { log = log; follows = fo; is = refused complete 8 (told ∙ a.is_told) refl refl })
          (λ (a : AtNode t log). let m = a.move in
          let e = told ∙ a.is_told in
          let more = log ++ step_of m o ∷ [] in
          by_test (may_report p m o)
          (λ y. let fo' = a.leads_on o ((may_is p wf.head.letters m o).0 y) in
          let le = at_most_8 more fo' in
          let long : length (reports_of more) ≡ length (reports_of log) + 1
          = ap length (reports_more log m o) ∙ length-append (reports_of log) (o ∷ []) in
          record { log = more; follows = fo'; is = accepted m e y (omega (arith, le, long)) })
          (λ z. record { log = log; follows = fo; is = refused (instruct m) 7 e (rw z) refl }))
          (stands t log fo)

    one_call : (log : List Step) → Follows net t log → (call : Call) → LeadsDown (after_call the_run p bs (progress_of log) call)
    unfolding after_call
    one_call log fo showing = record { log = log; follows = fo; is = refl }
    one_call log fo (reporting o) = one_report log fo o

    -- .. and so does a list of calls
    pub all_calls : (calls : List Call) (log : List Step) → Follows net t log → LeadsDown (after_calls the_run p bs (progress_of log) calls)
    unfolding after_calls
    all_calls [] log fo = record { log = log; follows = fo; is = refl }
    all_calls (call ∷ calls) log fo =
        let one = one_call log fo call in
        subst (λ (r : Progress). LeadsDown (after_calls the_run p bs r calls)) (sym one.is) (all_calls calls one.log one.follows)

    -- from the empty history on
    pub from_empty : (calls : List Call) → LeadsDown (after_calls the_run p bs (begun empty_history) calls)
    unfolding Follows
    from_empty calls = all_calls calls [] tt
