-- Theorems on the verdict under fixed outcomes and on the screen. Read the statements; only the checker need believe the proofs.
use mathlib.Core.Path.{◌≡◌, refl, sym, ap, ◌∙◌, subst}
use mathlib.Core.Logic.Iff
use mathlib.Core.Logic.{◌↔◌}
use mathlib.Core.Bool.{Bool, true, false}
use mathlib.Core.List.{List}
use Prim.Native.Nat.{ℕ, ◌≤◌, ◌<◌}
use native.Mathlib.Nat.{le_antisymm}
use lib.ListN.{length, replicate}
use Rattle.network.specs.Mask.{bit}
use Rattle.network.specs.Network.{Network, Scenario, Schedule, combined, slots_in}
use Rattle.network.specs.Strategy.{ConditionScenario, Strategy, Viable}
use Rattle.network.specs.Fixed.{ScheduleFor, Least, Schedulable, Setting, PassesScreen}
use Rattle.network.proofs.Booleans.{false_exactly}
use Rattle.plan.specs.Answer.{Answer}
use Rattle.plan.specs.declared.Plan.{Plan}
use Rattle.plan.specs.declared.Refusal.{Refusal}
use Rattle.plan.specs.declared.Refusal.TheVariants as refusal
use Rattle.plan.specs.Refusal.{refusal_number}
use Rattle.plan.specs.Plan.{network_of}
use Rattle.judge.specs.Judge.{plan_fault}
use Rattle.plan.specs.WellFormed.{WellFormed}
use Rattle.plan.proofs.RefusalLaws.{no_refusal}
use Rattle.verdict.specs.Says.{Says}
use Rattle.verdict.specs.Verdict.{verdict_of, least_schedule, screened}
use Rattle.verdict.specs.Answers.{Verdict, verdict_answer, screen_answer, Fixed}
use Rattle.std.specs.Prelude.{Result, Ok, Err, Some, None}
use Rattle.verdict.proofs.LeastLaws.{same_slots, EightSlots, verdict_eight, Decides, decides_yes}
use Rattle.verdict.proofs.AnswerLaws.{said_fault, said_value, said_refused, said_long, said_zeros, said_passed, said_failed, said_refused_screen, decides, fine_answer, mask_fault, plan_fault_lem, eight_answer, fine_screen, screen_plan_fault, passes_exactly}

-- ---- schedules

-- two least schedules are the same
pub one_least :
    (net : Network) (s : Scenario) (ψ φ : Schedule) → Least net s ψ → Least net s φ → (x : ℕ) → x < net.points → ψ x ≡ φ x
one_least net s ψ φ a b x lt = le_antisymm (a.earliest φ b.schedule x lt) (b.earliest ψ a.schedule x lt)

-- the schedules of a viable strategy (Definition 6) are schedules in this sense
pub viable_schedules :
    (net : Network) (σ : Strategy) → Viable net σ → (cs : ℕ) → ConditionScenario net cs →
    ScheduleFor net (combined net cs (σ.choice cs)) (σ.time cs)
viable_schedules net σ v cs c = record { within = v.within cs c; kept = v.keeping cs c }

module _ (p : Plan) (wf : WellFormed p) (s : Scenario) where
  -- what is found is the least schedule
  pub least_found : (verdict_of (network_of p) s).scheduled ≡ true → Least (network_of p) s (slots_in (verdict_of (network_of p) s).slots)
  least_found = (decides p wf s).found

  -- a schedule is found exactly where there is one
  pub scheduled_exactly : ((verdict_of (network_of p) s).scheduled ≡ true) ↔ Schedulable (network_of p) s
  scheduled_exactly = decides_yes (decides p wf s)

  -- "none" exactly where there is none
  pub none_exactly : ((verdict_of (network_of p) s).scheduled ≡ false) ↔ (Schedulable (network_of p) s → ⊥)
  none_exactly = false_exactly scheduled_exactly

  -- the entries of points that the plan lacks are zero
  pub unused_zero : (x : ℕ) → p.points ≤ x → slots_in (verdict_of (network_of p) s).slots x ≡ 0
  unused_zero = (decides p wf s).unused

-- ---- the verdict

says_of :
    (p : Plan) (m : ℕ) (r : Verdict) → (verdict_answer r).fault ≡ 0 → Decides (network_of p) (bit m) (verdict_answer r).value →
    EightSlots (verdict_answer r).value → Says p m r
says_of p m (Ok (Some slots)) e d eight = (d.found refl, eight.long, d.unused)
says_of p m (Ok None) e d eight = d.missing refl
says_of p m (Err r) e d eight = no_refusal r e

-- the verdict of a call, by its contract, says so
pub says :
    (p : Plan) (m : ℕ) (r : Verdict) → verdict_answer r ≡ least_schedule p m → WellFormed p → Setting (network_of p) m → Says p m r
says p m r promised wf setting =
    let answer = promised ∙ fine_answer p m wf setting in
    says_of p m r (said_fault r answer)
    (said_value r answer (Decides (network_of p) (bit m)) (decides p wf (bit m)))
    (said_value r answer EightSlots (verdict_eight (network_of p) (bit m)))

-- one verdict fits
pub one_verdict : (p : Plan) (m : ℕ) (v w : Verdict) → Says p m v → Says p m w → v ≡ w
one_verdict p m (Ok (Some a)) (Ok (Some b)) s t =
    let same = one_least (network_of p) (bit m) (slots_in a) (slots_in b) s.0 t.0 in
    ap (λ (x : List ℕ). Ok (Some x)) (same_slots p.points a b s.1 t.1 same s.2 t.2)
one_verdict p m (Ok (Some a)) (Ok None) s t = absurd (t (record { slots = slots_in a; schedule = s.0.schedule }))
one_verdict p m (Ok None) (Ok (Some b)) s t = absurd (s (record { slots = slots_in b; schedule = t.0.schedule }))
one_verdict p m (Ok None) (Ok None) s t = refl
one_verdict p m (Err r) w s t = absurd s
one_verdict p m (Ok said) (Err r) s t = absurd t

module _ (p : Plan) (m : ℕ) (r : Verdict) (promised : verdict_answer r ≡ least_schedule p m) where
  -- 8 exactly where the mask has a letter that the plan lacks
  pub eight_exactly : WellFormed p → (r ≡ Err refusal.Mask) ↔ (Setting (network_of p) m → ⊥)
  eight_exactly wf = (
    λ e setting. subst (Says p m) e (says p m r promised wf setting),
    λ n. said_refused r promised refusal.Mask (mask_fault p m wf n),
  )

  -- of every plan record: there are eight slots
  pub eight_slots : length (verdict_answer r).value.slots ≡ 8
  eight_slots = said_long r promised (eight_answer p m)

  -- .. and beside "none" and any refusal those that are promised are zero
  pub beside_none_zero : ((slots : List ℕ) → r ≡ Ok (Some slots) → ⊥) → (least_schedule p m).value.slots ≡ replicate 8 0
  beside_none_zero none = sym (ap (λ (a : Answer Fixed). a.value.slots) promised) ∙ said_zeros r promised none

  -- a faulty plan is refused as the judge refuses it, whatever the mask
  pub plan_first : (f : Refusal) → refusal_number f ≡ plan_fault p → r ≡ Err f
  plan_first f e = said_refused r promised f (plan_fault_lem p m f e)

-- ---- the screen

module _ (p : Plan) (r : Result Bool Refusal) (promised : screen_answer r ≡ screened p) where
  -- it passes exactly where every setting of all letters has a schedule, and fails exactly where not
  pub passed_exactly : WellFormed p → (r ≡ Ok true) ↔ PassesScreen (network_of p)
  passed_exactly wf = Iff.trans (said_passed r (promised ∙ fine_screen p wf) refl) (passes_exactly p wf)

  pub failed_exactly : WellFormed p → (r ≡ Ok false) ↔ (PassesScreen (network_of p) → ⊥)
  failed_exactly wf = Iff.trans (said_failed r (promised ∙ fine_screen p wf) refl) (false_exactly (passes_exactly p wf))

  -- a faulty plan is refused as the judge refuses it
  pub screen_plan_first : (f : Refusal) → refusal_number f ≡ plan_fault p → r ≡ Err f
  screen_plan_first f e = said_refused_screen r promised f (screen_plan_fault p ∙ sym e)
