-- Laws of answers: what a verdict and a screen say where the plan and the mask are fine, and where they are not. Only the checker need
-- believe this file.
use mathlib.Core.Path.{◌≡◌, refl, sym, ap, ◌∙◌, subst}
use mathlib.Core.Logic.{◌↔◌}
use mathlib.Core.Bool.{Bool, true, false}
use mathlib.Core.List.{List}
use Prim.Native.Nat.{ℕ, ◌^◌}
use lib.Dec.{ltb, eqb}
use lib.ListN.{length, replicate}
use Rattle.std.specs.Prelude.{Result, Ok, Err, Some, None}
use Rattle.network.specs.Mask.{bit}
use Rattle.network.specs.Network.{Scenario}
use Rattle.network.specs.Fixed.{Setting, PassesScreen}
use Rattle.network.proofs.Booleans.{by_test, ltb_yes, ltb_is}
use Rattle.network.proofs.BelowLaws.{all_at, all_make}
use Rattle.plan.specs.declared.Plan.{Plan}
use Rattle.plan.specs.declared.Refusal.{Refusal}
use Rattle.plan.specs.declared.Refusal.TheVariants as refusal
use Rattle.plan.specs.Refusal.{refusal_number}
use Rattle.plan.specs.Answer.{Answer, fine}
use Rattle.plan.specs.Faults.{unless, first, answered}
use Rattle.plan.specs.Plan.{network_of}
use Rattle.judge.specs.Judge.{plan_fault}
use Rattle.plan.specs.WellFormed.{WellFormed}
use Rattle.masks.proofs.ByteLaws.{says_among}
use Rattle.judge.proofs.WellFormedLaws.{fine_exactly}
use Rattle.plan.proofs.AnswerLaws.{first_refused, answered_fault, answered_fine, answered_refused}
use Rattle.plan.proofs.PlanTheorems.{is_network}
use Rattle.plan.proofs.RefusalLaws.{refusal_one_number, no_refusal}
use Rattle.verdict.specs.Verdict.{verdict_of, verdict_fault, least_schedule, passes, screened}
use Rattle.verdict.specs.Answers.{Fixed, none, Verdict, verdict_answer, screen_answer}
use Rattle.verdict.proofs.LeastLaws.{EightSlots, none_eight, verdict_eight, Decides, decides_yes, verdict_decides}

-- ---- what a call says where it answers a

refused_so : (v : Verdict) (r : Refusal) → (verdict_answer v).fault ≡ refusal_number r → v ≡ Err r
refused_so (Ok said) r e = absurd (no_refusal r (sym e))
refused_so (Err q) r e = ap Err (refusal_one_number q r e)

zeros_so : (v : Verdict) → ((slots : List ℕ) → v ≡ Ok (Some slots) → ⊥) → (verdict_answer v).value.slots ≡ replicate 8 0
zeros_so (Ok (Some slots)) n = absurd (n slots refl)
zeros_so (Ok None) n = refl
zeros_so (Err r) n = refl

module _ (v : Verdict) {a : Answer Fixed} (e : verdict_answer v ≡ a) where
  pub said_fault : (verdict_answer v).fault ≡ a.fault
  said_fault = ap (λ (x : Answer Fixed). x.fault) e

  pub said_value : (P : Fixed → Type 0) → P a.value → P (verdict_answer v).value
  said_value P h = subst (λ (x : Answer Fixed). P x.value) (sym e) h

  pub said_refused : (r : Refusal) → a.fault ≡ refusal_number r → v ≡ Err r
  said_refused r h = refused_so v r (said_fault ∙ h)

  pub said_long : EightSlots a.value → length (verdict_answer v).value.slots ≡ 8
  said_long eight = (said_value EightSlots eight).long

  pub said_zeros : ((slots : List ℕ) → v ≡ Ok (Some slots) → ⊥) → (verdict_answer v).value.slots ≡ replicate 8 0
  said_zeros n = zeros_so v n

passed_so : (r : Result Bool Refusal) (b : Bool) → (screen_answer r).fault ≡ 0 → (screen_answer r).value ≡ b → r ≡ Ok b
passed_so (Ok passed) b e same = ap Ok same
passed_so (Err f) b e same = absurd (no_refusal f e)

refused_screen_so : (r : Result Bool Refusal) (f : Refusal) → (screen_answer r).fault ≡ refusal_number f → r ≡ Err f
refused_screen_so (Ok passed) f e = absurd (no_refusal f (sym e))
refused_screen_so (Err q) f e = ap Err (refusal_one_number q f e)

module _ (r : Result Bool Refusal) {a : Answer Bool} (e : screen_answer r ≡ a) where
  screen_fault : (screen_answer r).fault ≡ a.fault
  screen_fault = ap (λ (x : Answer Bool). x.fault) e

  screen_value : (screen_answer r).value ≡ a.value
  screen_value = ap (λ (x : Answer Bool). x.value) e

  says_so : (b : Bool) → a.fault ≡ 0 → (r ≡ Ok b) ↔ (a.value ≡ b)
  says_so b h = (
    λ q. sym screen_value ∙ ap (λ (x : Result Bool Refusal). (screen_answer x).value) q,
    λ t. passed_so r b (screen_fault ∙ h) (screen_value ∙ t),
  )

  pub said_passed : a.fault ≡ 0 → (r ≡ Ok true) ↔ (a.value ≡ true)
  said_passed = says_so true

  pub said_failed : a.fault ≡ 0 → (r ≡ Ok false) ↔ (a.value ≡ false)
  said_failed = says_so false

  pub said_refused_screen : (f : Refusal) → a.fault ≡ refusal_number f → r ≡ Err f
  said_refused_screen f h = refused_screen_so r f (screen_fault ∙ h)

-- ---- the verdict

module _ (p : Plan) where
  -- the faults in their order, and what is said where there is none
  module _ (m : ℕ) where
    pub refused_plan : (r : Refusal) → refusal_number r ≡ plan_fault p → verdict_answer (Err r) ≡ least_schedule p m
    unfolding least_schedule verdict_fault
    refused_plan r e = rw (← e, first_refused) (answered_refused none (verdict_of (network_of p) (bit m)) r)

    verdict_fault_lem : 0 ≡ plan_fault p → (b : Bool) → ltb m (2 ^ p.letters) ≡ b → verdict_fault p m ≡ unless b refusal.Mask
    unfolding verdict_fault first
    verdict_fault_lem e b t = rw (← e) (ap (λ (c : Bool). unless c refusal.Mask) t)

    pub refused_mask :
        0 ≡ plan_fault p → ltb m (2 ^ p.letters) ≡ false → verdict_answer (Err refusal.Mask) ≡ least_schedule p m
    unfolding least_schedule unless
    refused_mask e z = rw (verdict_fault_lem e false z) (answered_refused none (verdict_of (network_of p) (bit m)) refusal.Mask)

    pub decided : 0 ≡ plan_fault p → ltb m (2 ^ p.letters) ≡ true → fine (verdict_of (network_of p) (bit m)) ≡ least_schedule p m
    unfolding least_schedule unless
    decided e y = sym (answered_fine none (verdict_fault p m) (verdict_of (network_of p) (bit m)) (verdict_fault_lem e true y))

  pub screen_refused : (r : Refusal) → refusal_number r ≡ plan_fault p → screen_answer (Err r) ≡ screened p
  unfolding screened
  screen_refused r e = rw (← e) (answered_refused false (passes p) r)

  pub screen_decided : 0 ≡ plan_fault p → (b : Bool) → b ≡ passes p → fine b ≡ screened p
  unfolding screened
  screen_decided e b same = rw same (sym (answered_fine false (plan_fault p) (passes p) (sym e)))

  -- ---- of a well-formed plan

  no_fault : WellFormed p → 0 ≡ plan_fault p
  no_fault wf = sym ((fine_exactly p).1 wf)

  -- what is said under fixed outcomes decides
  pub decides : WellFormed p → (s : Scenario) → Decides (network_of p) s (verdict_of (network_of p) s)
  decides wf = verdict_decides (network_of p) (is_network p wf) wf.head.some_point wf.head.points

  module _ (m : ℕ) where
    -- under a mask of the plan's letters it is the answer
    pub fine_answer : WellFormed p → Setting (network_of p) m → least_schedule p m ≡ fine (verdict_of (network_of p) (bit m))
    fine_answer wf st = sym (decided m (no_fault wf) ((says_among m p.letters).1 st))

    pub mask_fault : WellFormed p → (Setting (network_of p) m → ⊥) → (least_schedule p m).fault ≡ refusal_number refusal.Mask
    mask_fault wf n =
        by_test (ltb m (2 ^ p.letters))
        (λ y. absurd (n ((says_among m p.letters).0 y)))
        (λ z. ap (λ (x : Answer Fixed). x.fault) (sym (refused_mask m (no_fault wf) z)))

    pub plan_fault_lem : (f : Refusal) → refusal_number f ≡ plan_fault p → (least_schedule p m).fault ≡ refusal_number f
    plan_fault_lem f e = ap (λ (x : Answer Fixed). x.fault) (sym (refused_plan m f e))

    pub eight_answer : EightSlots (least_schedule p m).value
    unfolding least_schedule answered
    eight_answer =
        by_test (eqb (verdict_fault p m) 0) (λ y. rw y (verdict_eight (network_of p) (bit m))) (λ z. rw z none_eight)

  -- ---- the screen

  pub fine_screen : WellFormed p → screened p ≡ fine (passes p)
  fine_screen wf = sym (screen_decided (no_fault wf) (passes p) refl)

  pub screen_plan_fault : (screened p).fault ≡ plan_fault p
  unfolding screened
  screen_plan_fault = answered_fault false (plan_fault p) (passes p)

  pub passes_exactly : WellFormed p → (passes p ≡ true) ↔ PassesScreen (network_of p)
  unfolding passes
  passes_exactly wf =
      let test : ℕ → Bool = λ m. (verdict_of (network_of p) (bit m)).scheduled in (
        λ t m st. (decides_yes (decides wf (bit m))).0
            (all_at (2 ^ p.letters) test t m (ltb_is _ _ ((says_among m p.letters).1 st))),
        λ h. all_make (2 ^ p.letters) test (λ m lt. (decides_yes (decides wf (bit m))).1 (h m ((says_among m p.letters).0 (ltb_yes _ _ lt)))),
      )
