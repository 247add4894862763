-- Laws of what showing and reporting answer, fault by fault. Only the checker need believe this file.
use mathlib.Core.Path.{◌≡◌}
use mathlib.Core.Bool.{true, false}
use mathlib.Core.List.{List}
use Prim.Native.Nat.{ℕ}
use Rattle.network.specs.Game.{start, Move}
use Rattle.plan.specs.declared.Plan.{Plan}
use Rattle.plan.specs.declared.Refusal.{Refusal}
use Rattle.plan.specs.declared.Refusal.TheVariants as refusal
use Rattle.plan.specs.Refusal.{refusal_number}
use Rattle.plan.specs.Answer.{Answer}
use Rattle.plan.specs.Faults.{unless, first}
use Rattle.plan.specs.Plan.{network_of}
use Rattle.plan.proofs.RefusalLaws.{some_number}
use Rattle.plan.proofs.AnswerLaws.{first_refused}
use Rattle.checker.specs.Checker.{check_fault}
use Rattle.run.specs.declared.History.{History}
use Rattle.run.specs.History.{longer, history_fine, reports_in}
use Rattle.run.specs.Run.{told_from, unless_fault, show_answer, report_answer}
use Rattle.run.specs.Told.{instruct, complete, refuse, may_report}

module _ (p : Plan) (bs : List ℕ) (h : History) where
  -- ---- showing

  pub tree_refused : (r : Refusal) → refusal_number r ≡ check_fault p bs → refuse (refusal_number r) ≡ show_answer p bs h
  unfolding show_answer unless_fault
  tree_refused r e = rw (← e, first_refused, some_number r)

  module _ (fine : 0 ≡ check_fault p bs) where
    pub history_refused : history_fine h ≡ false → refuse (refusal_number refusal.Mask) ≡ show_answer p bs h
    unfolding show_answer unless_fault first unless
    history_refused z = rw (← fine, z)

    pub masks_followed : history_fine h ≡ true → told_from p (start (network_of p)) bs (reports_in h) ≡ show_answer p bs h
    unfolding show_answer unless_fault first unless
    masks_followed y = rw (← fine, y)

  -- ---- reporting

  module _ (o : ℕ) where
    -- what is handed back beside a fault, and without one
    abbrev given : ℕ → Answer History
    given n = record { fault = n; value = h }

    abbrev lengthened : Answer History
    lengthened = record { fault = 0; value = longer h o }

    pub report_refused : (r : Refusal) → refuse (refusal_number r) ≡ show_answer p bs h → given (refusal_number r) ≡ report_answer p bs h o
    unfolding report_answer
    report_refused r e = rw (← e, some_number r)

    pub report_after_done : complete ≡ show_answer p bs h → given (refusal_number refusal.AfterDone) ≡ report_answer p bs h o
    unfolding report_answer
    report_after_done e = rw (← e)

    module _ (m : Move) (told : instruct m ≡ show_answer p bs h) where
      pub report_outside : may_report p m o ≡ false → given (refusal_number refusal.Mask) ≡ report_answer p bs h o
      unfolding report_answer unless
      report_outside z = rw (← told, z)

      pub report_inside : may_report p m o ≡ true → lengthened ≡ report_answer p bs h o
      unfolding report_answer unless
      report_inside y = rw (← told, y)
