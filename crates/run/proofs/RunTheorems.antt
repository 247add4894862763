-- Theorems on the crew's run (document 01, "The crew's run"). Read the statements; only the checker need believe the proofs.
use mathlib.Core.Path.{◌≡◌, refl, sym, ap, ◌∙◌}
use mathlib.Core.Logic.{◌↔◌}
use mathlib.Core.List.{List, [], ◌∷◌, ◌++◌}
use mathlib.Core.Bool.{true, false}
use Prim.Native.Nat.{ℕ, ◌≤◌}
use lib.Dec.{eqb}
use Rattle.network.specs.Network.{Network}
use Rattle.network.specs.Game.{Move, Outcome, start}
use Rattle.network.specs.Tree.{Tree, done, node}
use Rattle.network.proofs.Booleans.{by_test, eqb_no}
use Rattle.plan.specs.declared.Plan.{Plan}
use Rattle.plan.specs.declared.Refusal.TheVariants as refusal
use Rattle.plan.specs.Refusal.{refusal_number}
use Rattle.plan.specs.Faults.{unless, first}
use Rattle.plan.specs.Plan.{network_of}
use Rattle.plan.specs.WellFormed.{WellFormed}
use Rattle.tree.specs.Trees.{Describes}
use Rattle.checker.specs.Checker.{check_fault}
use Rattle.run.specs.declared.History.{History}
use Rattle.run.specs.History.{longer, history_fine, reports_in}
use Rattle.run.specs.Run.{told_from, unless_fault, show_answer, history_fault}
use Rattle.run.specs.Told.{Told, instruct, complete, refuse, may_report, instruction_at}
use Rattle.run.specs.Run.{report_fault, report_answer}
use Rattle.run.proofs.ReportLaws as report-laws
use Rattle.run.proofs.ToldLaws.{told_of_described}

-- the fault of what is told: 0 for an instruction and for done
abbrev pub told_fault : Told → ℕ
told_fault (instruct m) = 0
told_fault complete = 0
told_fault (refuse n) = n

-- ---- Which number comes first, of any plan record, any bytes and any history

module _ (p : Plan) (bs : List ℕ) (h : History) where
  -- first the faults of plan and tree, as the checker has them: 2, 3, 4, then 6, 7
  pub check_first : ¬ (check_fault p bs ≡ 0) → show_answer p bs h ≡ refuse (check_fault p bs)
  unfolding show_answer unless_fault first
  check_first n = rw (eqb_no (check_fault p bs) 0 n, eqb_no (check_fault p bs) 0 n)

  -- then 8 for the history's count and its unused masks
  pub history_next : check_fault p bs ≡ 0 → history_fine h ≡ false → show_answer p bs h ≡ refuse (refusal_number refusal.Mask)
  unfolding show_answer unless_fault first unless
  history_next fine z = rw (fine, z)

-- ---- Then what the tree says

module _ (p : Plan) (wf : WellFormed p) (bs : List ℕ) (t : Tree) (d : Describes (network_of p) bs t) where
  abbrev net : Network
  net = network_of p

  -- The walk over bytes that describe a tree tells, at any masks, what the tree has there.
  pub told_is : (os : List ℕ) → told_from p (start net) bs os ≡ instruction_at p t os
  told_is = told_of_described p wf bs t d

  -- What showing answers at any history is the instruction at it by that tree, the faults above before it.
  pub shows :
      (h : History) → show_answer p bs h ≡ unless_fault (first (check_fault p bs) (history_fault h)) (instruction_at p t (reports_in h))
  unfolding show_answer
  shows h = ap (unless_fault (first (check_fault p bs) (history_fault h))) (told_is (reports_in h))

  -- .. so where the checker says yes and the history's count and unused masks are fine, it is that instruction
  pub shows_fine : check_fault p bs ≡ 0 → (h : History) → history_fine h ≡ true → show_answer p bs h ≡ instruction_at p t (reports_in h)
  unfolding unless_fault first unless
  shows_fine fine h y = shows h ∙ rw (fine, y)

-- ---- Reporting

-- A report may be made at an instruction exactly where it is an outcome of that move: it names none but conditions that the move's points
-- disclose. (A well-formed plan has at most six letters.)
pub may_is : (p : Plan) → p.letters ≤ 6 → (m : Move) (o : ℕ) → (may_report p m o ≡ true) ↔ Outcome (network_of p) m o
may_is = report-laws.may_is

-- told at no mask: never a refusal
root_fine : (p : Plan) (t : Tree) → told_fault (instruction_at p t []) ≡ 0
unfolding instruction_at
root_fine p done = refl
root_fine p (node m next) = refl

-- The new mask is judged like those inside the history: what a report is refused with, or 0, is what is told at the masks with the new one
-- behind them. A refusal at the masks before it is handed on.
pub judged_alike :
    (p : Plan) (t : Tree) (os : List ℕ) (o : ℕ) → report_fault p (instruction_at p t os) o ≡ told_fault (instruction_at p t (os ++ o ∷ []))
unfolding instruction_at unless
judged_alike p done [] o = refl
judged_alike p done (x ∷ os) o = refl
judged_alike p (node m next) [] o = by_test (may_report p m o) (λ y. rw y (sym (root_fine p (next o)))) (λ z. rw z)
judged_alike p (node m next) (x ∷ os) o = by_test (may_report p m x) (λ y. rw y (judged_alike p (next x) os o)) (λ z. rw z)

fault_first : (p : Plan) (n : ℕ) (x : Told) (o : ℕ) → report_fault p (unless_fault n x) o ≡ first n (report_fault p x o)
unfolding unless_fault first
fault_first p n x o = by_test (eqb n 0) (λ y. rw y) (λ z. rw z)

module _ (p : Plan) (bs : List ℕ) (h : History) (o : ℕ) where
  -- the refusals of showing are handed on
  pub refusal_handed_on : (n : ℕ) → show_answer p bs h ≡ refuse n → (report_answer p bs h o).fault ≡ n
  unfolding report_answer
  refusal_handed_on n e = ap (λ (x : Told). report_fault p x o) e

  -- an accepted report hands back the longer history, a refused one the history that it was given
  pub accepted_longer : (report_answer p bs h o).fault ≡ 0 → (report_answer p bs h o).value ≡ longer h o
  unfolding report_answer
  accepted_longer e = rw e

  pub refused_same : ¬ ((report_answer p bs h o).fault ≡ 0) → (report_answer p bs h o).value ≡ h
  unfolding report_answer
  refused_same n = rw (eqb_no (report_fault p (show_answer p bs h) o) 0 n)

module _ (p : Plan) (wf : WellFormed p) (bs : List ℕ) (t : Tree) (d : Describes (network_of p) bs t) where
  -- the fault of a report, at any history
  pub reports :
      (h : History) (o : ℕ) →
      (report_answer p bs h o).fault
      ≡ first (first (check_fault p bs) (history_fault h)) (told_fault (instruction_at p t (reports_in h ++ o ∷ [])))
  unfolding report_answer
  reports h o =
      ap (λ (x : Told). report_fault p x o) (shows p wf bs t d h)
      ∙ fault_first p (first (check_fault p bs) (history_fault h)) (instruction_at p t (reports_in h)) o
      ∙ ap (first (first (check_fault p bs) (history_fault h))) (judged_alike p t (reports_in h) o)
