-- Laws of a plan text that is cut off: its head says how long the whole is. Only the checker need believe this file.
use mathlib.Core.Path.{◌≡◌, sym, ap, ◌∙◌}
use mathlib.Core.List.{List, [], ◌∷◌, ◌++◌, append-nil}
use Prim.Native.Nat.{ℕ}
use native.Mathlib.Omega.{arith}
use lib.ListN.{length, length-append}
use Rattle.plan.specs.declared.Plan.{Plan}
use Rattle.plan.specs.WellFormed.{WellFormed}
use Rattle.frame.specs.ReadFrame.{byte_at, value_at}
use Rattle.frame.proofs.FrameLaws.{bytes_more, value_back}
use Rattle.plan_text.specs.PlanText.{plan_text}
use Rattle.plan_text.proofs.LengthLaws.{plan_length_lem}
use Rattle.plan_text.proofs.ReadBackLaws.{head_bytes}

-- the counts that a head says, whatever stands behind it
module _ (p : Plan) (wf : WellFormed p) (r : List ℕ) where
  abbrev values : List ℕ
  values = p.horizon ∷ p.points ∷ p.letters ∷ p.constraints ∷ []

  letters_said : value_at (plan_text p ++ r) 3 ≡ p.letters
  unfolding plan_text byte_at
  letters_said = value_back (1 ∷ values) [] (bytes_more 1 values (omega arith) (head_bytes p wf.head)) 3 (omega arith)

  constraints_said : value_at (plan_text p ++ r) 4 ≡ p.constraints
  unfolding plan_text byte_at
  constraints_said = value_back (1 ∷ values) [] (bytes_more 1 values (omega arith) (head_bytes p wf.head)) 4 (omega arith)

-- where one plan's text begins with another's, nothing is left over
pub nothing_left : (p q : Plan) → WellFormed p → WellFormed q → (r : List ℕ) → plan_text p ≡ plan_text q ++ r → length r ≡ 0
nothing_left p q wp wq r e =
    let same : plan_text p ++ [] ≡ plan_text q ++ r = append-nil (plan_text p) ∙ e in
    let letters : p.letters ≡ q.letters = sym (letters_said p wp []) ∙ ap (λ (t : List ℕ). value_at t 3) same ∙ letters_said q wq r in
    let constraints : p.constraints ≡ q.constraints =
    sym (constraints_said p wp []) ∙ ap (λ (t : List ℕ). value_at t 4) same ∙ constraints_said q wq r
    in
    let long = ap length e ∙ length-append (plan_text q) r in
    omega (arith, plan_length_lem p, plan_length_lem q)
