-- Laws of every list of calls, and of every two, over the bytes of a tree that wins: what demand 3 asks of them. Only the checker need
-- believe this file.
use mathlib.Core.Path.{◌≡◌, refl, sym, ap, ◌∙◌, subst}
use mathlib.Core.Logic.{⊎_elim}
use mathlib.Core.List.{List}
use mathlib.Core.Bool.{true}
use Prim.Native.Nat.{ℕ, ◌≤◌, ◌<◌}
use Rattle.network.specs.Network.{Network, keeps}
use Rattle.network.specs.IsNetwork.{IsNetwork}
use Rattle.network.specs.Game.{start}
use Rattle.network.specs.Tree.{Tree}
use Rattle.network.specs.Walks.{Wins, Follows, AtEnd}
use Rattle.network.specs.FirstMoves.{FirstMoves}
use Rattle.network.specs.Crew.{Step, times_performed, slot_by_steps, value_by_steps, HeardAlike, ToldAlike}
use Rattle.network.proofs.Theorems.{crew_kept, heard_alike_told_alike}
use Rattle.plan.specs.declared.Plan.{Plan}
use Rattle.plan.specs.declared.Refusal.TheVariants as refusal
use Rattle.plan.specs.Faults.{unless}
use Rattle.plan.specs.Plan.{network_of}
use Rattle.plan.specs.WellFormed.{WellFormed}
use Rattle.plan.proofs.PlanTheorems.{is_network}
use Rattle.plan.proofs.AnswerLaws.{unless_is}
use Rattle.tree.specs.Trees.{Describes}
use Rattle.checker.specs.Checker.{check_fault}
use Rattle.run.specs.declared.History.{History}
use Rattle.run.specs.History.{history_of, empty_history}
use Rattle.run.specs.Run.{show_answer, report_fault, report_answer}
use Rattle.run.specs.Told.{Told, complete, may_report, instruction_at}
use Rattle.run.proofs.ReportLaws.{may_is}
use Rattle.run.proofs.RunTheorems.{accepted_longer}
use Rattle.following.specs.Calls.{Call, Progress, begun, after_calls}
use Rattle.following.specs.ThisRun.{the_run}
use Rattle.demands.proofs.ListLaws.{steps_after, ListDone, Lengthened, EveryList}
use Rattle.demands.proofs.ListLaws.{EveryTwoLists}
use Rattle.demands.proofs.CallLaws.{reports_of, AtNode, PastLast, stands, done_at_end, at_most_8, told_then, from_empty}

module _ (p : Plan) (wf : WellFormed p) (bs : List ℕ) (fine : check_fault p bs ≡ 0) (t : Tree) (d : Describes (network_of p) bs t)
    (wins : Wins (network_of p) t) where
  abbrev net : Network
  net = network_of p

  is_net : IsNetwork net
  is_net = is_network p wf

  module _ (calls : List Call) where
    -- the steps followed
    abbrev log : List Step
    log = (from_empty p wf bs t fine d calls).log

    follows : Follows net t log
    follows = (from_empty p wf bs t fine d calls).follows

    abbrev h : History
    h = history_of (reports_of log)

    -- what holds of the progress by those steps holds of what the calls leave
    so : (P : Progress → Type 0) → P (record { history = h; steps = log }) → P (after_calls the_run p bs (begun empty_history) calls)
    so P = subst P (sym (from_empty p wf bs t fine d calls).is)

    -- what is told then is what each tree that the bytes describe has there
    told_so : (t' : Tree) → Describes net bs t' → show_answer p bs h ≡ instruction_at p t' (reports_of log)
    told_so t' d' = told_then p wf bs t' fine d' (reports_of log) (at_most_8 p wf bs t fine d log follows)

    -- told done, they have come to the end
    done_so : ListDone the_run p bs calls → AtEnd t log
    done_so e =
        done_at_end p wf t log follows
        (sym (told_so t d) ∙ so (λ r. show_answer p bs r.history ≡ complete → show_answer p bs h ≡ complete) (λ q. q) e)

    -- at a node the history can be lengthened
    lengthened : AtNode p wf t log → Lengthened the_run p bs h
    unfolding report_answer unless
    lengthened a =
        let m = a.move in
        let told = told_so t d ∙ a.is_told in
        let fault : (o : ℕ) → (report_answer p bs h o).fault ≡ unless (may_report p m o) refusal.Mask
        = λ o. ap (λ (x : Told). report_fault p x o) told in
        record {
          instruction = m;
          is_told = told;
          accepts_exactly = λ o. (
            λ f. (may_is p wf.head.letters m o).0 (unless_is (may_report p m o) refusal.Mask (sym (fault o) ∙ f)),
            λ ok. fault o ∙ rw ((may_is p wf.head.letters m o).1 ok),
          );
          lengthens = accepted_longer p bs h;
        }

    goes_on_so : ¬ (show_answer p bs h ≡ complete) → Lengthened the_run p bs h
    goes_on_so n =
        ⊎_elim (λ (a : PastLast p wf t log). absurd (n (told_so t d ∙ a.is_told))) lengthened (stands p wf t log follows)

    -- told done, they performed each point once, in time, and kept every relevant constraint
    kept_so :
        ListDone the_run p bs calls →
        ((x : ℕ) → x < p.points → (times_performed log x ≡ 1) × (slot_by_steps log x ≤ p.horizon))
        × (keeps net (slot_by_steps log) (value_by_steps net log) ≡ true)
    kept_so e = crew_kept net is_net t wins log follows (done_so e)

    -- parts 4 and 5 of demand 3, where the bytes describe each tree of first moves
    pub every_list_so : ((t' : Tree) → FirstMoves net t' (start net) → Describes net bs t') → EveryList the_run p bs calls
    every_list_so first =
        record {
          holds_reports = so (λ r. r.history ≡ history_of (reports_of r.steps)) refl;
          at_most_8 = so (λ r. r.history.count ≤ 8) (at_most_8 p wf bs t fine d log follows);
          told_by_rule = λ t' f. so (λ r. show_answer p bs r.history ≡ instruction_at p t' (reports_of r.steps))
              (told_so t' (first t' f));
          goes_on = so (λ r. ¬ (show_answer p bs r.history ≡ complete) → Lengthened the_run p bs r.history) goes_on_so;
          performed_once = λ e x lt. so (λ r. times_performed r.steps x ≡ 1) ((kept_so e).0 x lt).0;
          within_horizon_lem = λ e x lt. so (λ r. slot_by_steps r.steps x ≤ p.horizon) ((kept_so e).0 x lt).1;
          constraints_held = λ e. so (λ r. keeps net (slot_by_steps r.steps) (value_by_steps net r.steps) ≡ true) (kept_so e).1;
        }

  -- part 6
  pub every_two_lists_so : EveryTwoLists the_run p bs
  every_two_lists_so calls calls' e e' u =
      so calls (λ r. HeardAlike net r.steps (steps_after the_run p bs calls') u → ToldAlike r.steps (steps_after the_run p bs calls') u)
      (so calls' (λ r. HeardAlike net (log calls) r.steps u → ToldAlike (log calls) r.steps u)
      (heard_alike_told_alike net is_net t d.shaped (log calls) (log calls') (follows calls) (follows calls') (done_so calls e)
      (done_so calls' e') u))
