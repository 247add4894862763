-- Theorems on plan texts: they read back exactly, each plan has one text only, and every other text gets the number of its first faulty
-- frame. Read the statements; only the checker need believe the proofs.
use mathlib.Core.Path.{◌≡◌, sym, ap, ◌∙◌}
use mathlib.Core.Logic.{◌↔◌}
use mathlib.Core.Bool.{true}
use mathlib.Core.List.{List, ◌++◌}
use Prim.Native.Nat.{ℕ, suc, ◌≤◌, ◌<◌}
use native.Mathlib.Omega.{arith}
use lib.ListN.{length, take}
use Rattle.std.specs.Prelude.{Result, Ok, Err}
use Rattle.plan.specs.declared.Plan.{Plan}
use Rattle.plan.specs.declared.Refusal.{Refusal}
use Rattle.plan.specs.Refusal.{refusal_number}
use Rattle.plan.specs.Answer.{Answer, fine}
use Rattle.plan.specs.Plan.{zero_letter, zero_constraint, zero_plan, letter_at, constraint_at}
use Rattle.plan.specs.WellFormed.{WellFormed}
use Rattle.plan.proofs.RefusalLaws.{no_refusal}
use Rattle.frame.specs.Frame.{Begins}
use Rattle.frame.specs.ReadFrame.{frame_length, whole}
use Rattle.frame.proofs.FrameLaws as frames
use Rattle.frame.proofs.RunLaws.{filled_front}
use Rattle.frame.proofs.ReadingLaws.{answer_ok, answer_err}
use Rattle.plan_text.specs.PlanText.{plan_text}
use Rattle.plan_text.specs.WritePlan.{write_plan, write_plan_leaves}
use Rattle.plan_text.specs.ReadPlan.{read_plan}
use Rattle.plan_text.specs.PlanRead.{plan_read_answer}
use Rattle.plan_text.specs.FirstFault.{FineFront, FirstFault}
use Rattle.plan_text.proofs.LengthLaws.{plan_length_lem, longest, longest_fine}
use Rattle.plan_text.proofs.ReadBackLaws.{read_back}
use Rattle.plan_text.proofs.EntryLaws.{front_of, well_formed_of}
use Rattle.plan_text.proofs.FirstFaultLaws.{fault_is}
use Rattle.plan_text.proofs.OneTextLaws.{one_text, first_fault}
use Rattle.plan_text.proofs.CutLaws.{nothing_left}
use Rattle.plan_text.proofs.RefusedLaws.{refused}
use Rattle.plan_text.proofs.WrittenLaws.{written_fine}

-- A text reads as a plan exactly where it is that plan's text and the plan is well formed. (A record's arrays have six and 64 places by
-- their types.)
pub read_exactly :
    (t : List ℕ) (p : Plan) → (read_plan t ≡ fine p)
    ↔ ((t ≡ plan_text p) × WellFormed p × (length p.letter ≡ 6) × (length p.constraint ≡ 64))
read_exactly t p = (one_text t p, λ h. ap read_plan h.0 ∙ read_back p h.1 h.2 h.3)

-- the same of what `read_plan` hands back, by its promise
pub read_fine_exactly :
    (t : List ℕ) (r : Result Plan Refusal) → plan_read_answer r ≡ read_plan t → (p : Plan) → length p.letter ≡ 6 →
    length p.constraint ≡ 64 → (r ≡ Ok p) ↔ ((t ≡ plan_text p) × WellFormed p)
read_fine_exactly t r e p six sixty-four = (
  λ f. let h = (read_exactly t p).0 (sym e ∙ ap plan_read_answer f) in (h.0, h.1),
  λ h. answer_ok zero_plan r p (e ∙ (read_exactly t p).1 (h.0, h.1, six, sixty-four)),
)

-- Every other text is refused, and the number is that of its first faulty frame, whatever follows: a text is refused with n exactly where
-- `FirstFault` (specs/FirstFault.antt) says so.
pub refused_exactly : (t : List ℕ) (n : ℕ) → ¬ (n ≡ 0) → ((read_plan t).fault ≡ n) ↔ FirstFault t n
refused_exactly t n ne = (first_fault t n ne, fault_is t n)

-- the same of what `read_plan` hands back, by its promise
pub read_refused_exactly :
    (t : List ℕ) (r : Result Plan Refusal) → plan_read_answer r ≡ read_plan t → (k : Refusal) → (r ≡ Err k) ↔ FirstFault t (refusal_number k)
read_refused_exactly t r e k =
    let number = ap (λ (a : Answer Plan). a.fault) e in (
      λ f. first_fault t (refusal_number k) (no_refusal k) (sym number ∙ ap (λ (s : Result Plan Refusal). (plan_read_answer s).fault) f),
      λ f. answer_err zero_plan r k (number ∙ fault_is t (refusal_number k) f),
    )

-- a text has one such number at most
pub one_number : (t : List ℕ) (m n : ℕ) → FirstFault t m → FirstFault t n → m ≡ n
one_number t m n f g = sym (fault_is t m f) ∙ fault_is t n g

-- What reading tests: whether a text begins with a whole frame, which `FirstFault` asks by the text of that kind and n bytes ..
pub whole_exactly : (kind n : ℕ) (s : List ℕ) → kind < 256 → (whole kind (suc n) s ≡ true) ↔ Begins kind n s
whole_exactly = frames.whole_exactly

-- .. which the frame's own characters say, whatever follows them ..
pub whole_front : (kind n : ℕ) (s : List ℕ) → whole kind (suc n) (take (frame_length (suc n)) s) ≡ whole kind (suc n) s
whole_front = frames.whole_front

-- .. and a plan is fine to its last frame exactly where it is well formed, its unused entries aside
pub front_exactly :
    (p : Plan) → ((i : ℕ) → p.letters ≤ i → i < 6 → letter_at p i ≡ zero_letter) →
    ((j : ℕ) → p.constraints ≤ j → j < 64 → constraint_at p j ≡ zero_constraint) → FineFront p p.letters p.constraints ↔ WellFormed p
front_exactly p no-letter no-constraint = (λ f. well_formed_of p f no-letter no-constraint, front_of p)

-- a text that is refused is refused with 1, 2, 3 or 4, and the plan's place is all zero
pub refused_zero : (t : List ℕ) → ¬ ((read_plan t).fault ≡ 0) → ((read_plan t).fault ≤ 4) × ((read_plan t).value ≡ zero_plan)
refused_zero t ne = let (number, zeros) = refused t in (number, zeros ne)

-- what was written reads back, from the buffer as the writing left it
pub written_reads_back :
    (p : Plan) → WellFormed p → length p.letter ≡ 6 → length p.constraint ≡ 64 → (xs : List ℕ) →
    length (plan_text p) ≤ length xs → (write_plan p xs ≡ fine (length (plan_text p)))
    × (read_plan (take (write_plan p xs).value (write_plan_leaves p xs)) ≡ fine p)
written_reads_back p wf six sixty-four xs room =
    let written = written_fine p xs wf room in
    (written, rw (written, filled_front (plan_text p) xs) (read_back p wf six sixty-four))

-- a plan's text that is cut off is no plan's text: its head says how long the whole is
pub cut_refused : (p : Plan) → WellFormed p → (t r : List ℕ) → plan_text p ≡ t ++ r → 1 ≤ length r → ¬ ((read_plan t).fault ≡ 0)
cut_refused p wf t r e some fine =
    let q = (read_plan t).value in
    let says = (read_exactly t q).0 (ap (λ (n : ℕ). record { fault = n; value = q }) fine) in
    let none = nothing_left p q wf says.1 r (e ∙ ap (λ (s : List ℕ). s ++ r) says.0) in
    omega arith

-- the longest plan text has 1,025 bytes
pub at_most_1025 : (p : Plan) → WellFormed p → length (plan_text p) ≤ 1025
at_most_1025 p wf = omega (arith, plan_length_lem p, wf.head.letters, wf.head.constraints)

pub reached_1025 : (p : Plan) × WellFormed p × (length (plan_text p) ≡ 1025)
reached_1025 = (longest, longest_fine, plan_length_lem longest)
