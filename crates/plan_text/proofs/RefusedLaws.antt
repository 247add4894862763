-- Laws of refused plan texts: by which numbers, and that the plan is then all zero. Only the checker need believe this file.
use mathlib.Core.Bool.{Bool}
use mathlib.Core.List.{List}
use Prim.Native.Nat.{ℕ, ◌≤◌}
use native.Mathlib.Omega.{arith}
use lib.Dec.{eqb}
use lib.ListN.{length, drop}
use Rattle.plan.specs.declared.Plan.{Plan}
use Rattle.plan.specs.declared.Refusal.{Refusal}
use Rattle.plan.specs.declared.Refusal.TheVariants as refusal
use Rattle.plan.specs.Refusal.{refusal_number}
use Rattle.plan.specs.Answer.{Answer}
use Rattle.plan.specs.Faults.{unless, answered}
use Rattle.plan.specs.Plan.{zero_plan}
use Rattle.frame.specs.ReadFrame.{frame_length}
use Rattle.frame.specs.Texts.{frame_fault, at_end}
use Rattle.plan.proofs.AnswerLaws.{unless_of, ZeroBeside, answered_fault, answered_zero}
use Rattle.frame.proofs.RunLaws.{frame_fault_of, then_each, run_each}
use Rattle.plan_text.specs.ReadPlan.{read_head, read_letter, read_constraint, read_constraints, read_plan}

-- none of the numbers past 4, and zeros beside a fault
abbrev pub Refused : Answer Plan → Type 0
Refused x = (x.fault ≤ 4) × ZeroBeside zero_plan x

frame_refused :
    (values : Refusal) (w g : Bool) (p : Plan) → refusal_number values ≤ 4 →
    Refused (answered zero_plan (frame_fault refusal.PlanText w values g) p)
frame_refused values w g p h =
    let n = frame_fault refusal.PlanText w values g in (
      rw (answered_fault zero_plan n p) (frame_fault_of (λ k. k ≤ 4) refusal.PlanText values w g (omega arith) (omega arith) h),
      answered_zero zero_plan n p,
    )

head_refused : (s : List ℕ) → Refused (read_head s)
unfolding read_head
head_refused s = frame_refused refusal.Head _ _ _ (omega arith)

letter_refused : (p : Plan) (i : ℕ) (s : List ℕ) → Refused (read_letter p i s)
unfolding read_letter
letter_refused p i s = frame_refused refusal.Letters _ _ _ (omega arith)

constraint_refused : (p : Plan) (j : ℕ) (s : List ℕ) → Refused (read_constraint p j s)
unfolding read_constraint
constraint_refused p j s = frame_refused refusal.Constraints _ _ _ (omega arith)

end_refused : (p : Plan) (s : List ℕ) → Refused (at_end zero_plan refusal.PlanText p s)
unfolding at_end
end_refused p s =
    let n = unless (eqb (length s) 0) refusal.PlanText in
    (rw (answered_fault zero_plan n p) (unless_of (λ k. k ≤ 4) (eqb (length s) 0) refusal.PlanText (omega arith) (omega arith)), answered_zero zero_plan n p)

constraints_refused : (p : Plan) (s : List ℕ) → Refused (read_constraints p s)
constraints_refused p s =
    run_each read_constraint 7 (at_end zero_plan refusal.PlanText) Refused constraint_refused end_refused p.constraints 0 p s

pub refused : (t : List ℕ) → Refused (read_plan t)
unfolding read_plan
refused t =
    then_each Refused (read_head t) _ (head_refused t) (λ p.
    run_each read_letter 4 read_constraints Refused letter_refused constraints_refused p.letters 0 p (drop (frame_length 5) t))
