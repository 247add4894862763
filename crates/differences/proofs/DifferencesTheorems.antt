-- Theorems on the table of differences. Read the statements; only the checker need believe the proofs.
use mathlib.Core.Path.{◌≡◌, refl, sym, ap, ◌∙◌, subst}
use mathlib.Core.Logic.{◌↔◌, inl, inr, by_cases}
use mathlib.Core.Bool.{true}
use mathlib.Core.List.{List}
use Prim.Native.Nat.{ℕ, ◌-◌, ◌≤◌, ◌<◌}
use native.Mathlib.Omega.{arith}
use native.Mathlib.Decide.{dec_lt}
use lib.IntN.{ℤ, pos, negsuc, sub_ℕ}
use lib.Signed.{◌≤ℤ◌}
use lib.ListN.{get_or, replicate}
use lib.Seq.{ext_get_or}
use Rattle.network.specs.Mask.{bit}
use Rattle.network.specs.Network.{Network, Scenario}
use Rattle.network.specs.Fixed.{Schedulable, Setting}
use Rattle.network.specs.Differences.{Largest, ForcedBefore}
use Rattle.network.proofs.Booleans.{by_test, ltb_no}
use Rattle.std.specs.Prelude.{Option, Some, None, Result, Ok, Err}
use Rattle.plan.specs.Answer.{Answer}
use Rattle.plan.specs.declared.Plan.{Plan}
use Rattle.plan.specs.declared.Refusal.{Refusal}
use Rattle.plan.specs.declared.Refusal.TheVariants as refusal
use Rattle.plan.specs.Refusal.{refusal_number}
use Rattle.plan.specs.Plan.{network_of}
use Rattle.plan.specs.WellFormed.{WellFormed}
use Rattle.plan.proofs.RefusalLaws.{no_refusal}
use Rattle.judge.specs.Judge.{plan_fault}
use Rattle.differences.specs.declared.Row.{Row}
use Rattle.differences.specs.declared.DifferenceTable.{DifferenceTable}
use Rattle.differences.specs.Answers.{zero_row, table_answer, rows_of, Differences}
use Rattle.differences.specs.Says.{bits_at, entry, Tells, Says}
use Rattle.differences.specs.Tabling.{table_of, difference_table}
use Rattle.differences.proofs.IntegerLaws.{antisymm, sub_neg, neg_sub, one_way}
use Rattle.differences.proofs.AnswerLaws.{Eight, Decides, decides, fine_answer, mask_fault, plan_fault_lem, eight_answer}
use Rattle.differences.proofs.AnswerLaws.{said_fault, said_value, said_refused, said_eight, zeros_so}

-- ---- largest differences

-- two largest differences of the same points are the same
pub one_largest : (net : Network) (s : Scenario) (x y : ℕ) (d e : ℤ) → Largest net s x y d → Largest net s x y e → d ≡ e
one_largest net s x y d e a b =
    antisymm d e
    (subst (λ (z : ℤ). z ≤ℤ e) a.attained (b.bounds a.slots a.schedule))
    (subst (λ (z : ℤ). z ≤ℤ d) b.attained (a.bounds b.slots b.schedule))

-- ---- the table

module _ (p : Plan) (wf : WellFormed p) (s : Scenario) where
  -- what is found tells
  pub table_tells : (table_of (network_of p) s).scheduled ≡ true → Tells (network_of p) s (table_of (network_of p) s).rows
  table_tells = (decides p wf s).found

  -- a table is found exactly where there is a schedule
  pub scheduled_exactly : ((table_of (network_of p) s).scheduled ≡ true) ↔ Schedulable (network_of p) s
  scheduled_exactly = (
    λ y. ((decides p wf s).found y).some_schedule,
    λ some. by_test (table_of (network_of p) s).scheduled (λ y. y) (λ z. absurd ((decides p wf s).missing z some)),
  )

says_of :
    (p : Plan) (m : ℕ) (r : Result (Option DifferenceTable) Refusal) → (table_answer r).fault ≡ 0 →
    Decides (network_of p) (bit m) (table_answer r).value → Says p m r
says_of p m (Ok (Some t)) e d = d.found refl
says_of p m (Ok None) e d = (d.missing refl, refl)
says_of p m (Err r) e d = no_refusal r e

-- the table of a call, by its contract, says so
pub says :
    (p : Plan) (m : ℕ) (r : Result (Option DifferenceTable) Refusal) → table_answer r ≡ difference_table p m → WellFormed p →
    Setting (network_of p) m → Says p m r
says p m r promised wf setting =
    let answer = promised ∙ fine_answer p m wf setting in
    says_of p m r (said_fault r answer) (said_value r answer (Decides (network_of p) (bit m)) (decides p wf (bit m)))

-- entries that tell the same are the same
one_entry :
    (net : Network) (s : Scenario) (a b : List Row) → Tells net s a → Tells net s b → (x y : ℕ) → bits_at a x y ≡ bits_at b x y
one_entry net s a b t u x y =
    by_cases (dec_lt x net.points)
    (λ lx. by_cases (dec_lt y net.points)
    (λ ly. one_way (bits_at a x y) (bits_at b x y) (t.of_16_bits x y) (u.of_16_bits x y)
    (one_largest net s x y (entry a x y) (entry b x y) (t.largest x y lx ly) (u.largest x y lx ly)))
    (λ ge. let h : net.points ≤ y = omega arith in t.unused x y (inr h) ∙ sym (u.unused x y (inr h))))
    (λ ge. let h : net.points ≤ x = omega arith in t.unused x y (inl h) ∙ sym (u.unused x y (inl h)))

-- two tables that tell are the same
pub one_telling : (net : Network) (s : Scenario) (a b : List Row) → Tells net s a → Tells net s b → a ≡ b
one_telling net s a b t u =
    ext_get_or zero_row a b (t.eight_rows ∙ sym u.eight_rows) (λ x lx.
    let x8 : x < 8 = omega (arith, t.eight_rows) in
    ap {B = Row} (λ (to : List ℕ). record { to = to })
    (ext_get_or 0 (get_or a x zero_row).to (get_or b x zero_row).to (t.of_eight x x8 ∙ sym (u.of_eight x x8)) (λ y ly. one_entry net s a b t u x y)))

-- one table fits
pub one_table : (p : Plan) (m : ℕ) (v w : Result (Option DifferenceTable) Refusal) → Says p m v → Says p m w → v ≡ w
one_table p m (Ok (Some t)) (Ok (Some u)) s r =
    ap (λ (x : List Row). Ok (Some (record { rows = x }))) (one_telling (network_of p) (bit m) t.rows u.rows s r)
one_table p m (Ok (Some t)) (Ok None) s r = absurd (r.0 s.some_schedule)
one_table p m (Ok None) (Ok (Some u)) s r = absurd (s.0 r.some_schedule)
one_table p m (Ok None) (Ok None) s r = refl
one_table p m (Err q) w s r = absurd s
one_table p m (Ok (Some t)) (Err q) s r = absurd r
one_table p m (Ok None) (Err q) s r = absurd r

-- ---- the forced order

-- X is strictly before Y in every schedule exactly where row Y, column X is at most -1
pub before_exactly :
    (net : Network) (s : Scenario) (rows : List Row) → Tells net s rows → (x y : ℕ) → x < net.points → y < net.points →
    ForcedBefore net s x y ↔ (entry rows y x ≤ℤ negsuc 0)
before_exactly net s rows t x y lx ly =
    let l = t.largest y x ly lx in (
      λ forced. subst (λ (z : ℤ). z ≤ℤ negsuc 0) l.attained (sub_neg (l.slots x) (l.slots y) (forced l.slots l.schedule)),
      λ h ψ sc. neg_sub (ψ x) (ψ y) (entry rows y x) (l.bounds ψ sc) h,
    )

-- a point and itself: 0
pub own_zero : (net : Network) (s : Scenario) (rows : List Row) → Tells net s rows → (x : ℕ) → x < net.points → entry rows x x ≡ pos 0
own_zero net s rows t x lx = let l = t.largest x x lx lx in sym l.attained ∙ same (l.slots x)
  where
    same : (a : ℕ) → sub_ℕ a a ≡ pos 0
    same a = let e : a - a ≡ 0 = omega arith in rw (ltb_no a a (λ l. omega arith), e) refl

-- ---- what is refused

module _ (p : Plan) (m : ℕ) (r : Result (Option DifferenceTable) Refusal) (promised : table_answer r ≡ difference_table p m) where
  -- "none" exactly where there is no schedule
  pub none_exactly : WellFormed p → Setting (network_of p) m → (r ≡ Ok None) ↔ (Schedulable (network_of p) (bit m) → ⊥)
  none_exactly wf setting =
      let s = says p m r promised wf setting in (
        λ e. (subst (Says p m) e s).0,
        none r s,
      )
    where
      none : (f : Result (Option DifferenceTable) Refusal) → Says p m f → (Schedulable (network_of p) (bit m) → ⊥) → f ≡ Ok None
      none (Ok (Some t)) s n = absurd (n s.some_schedule)
      none (Ok None) s n = refl
      none (Err q) s n = absurd s

  -- 8 exactly where the mask has a letter that the plan lacks
  pub eight_exactly : WellFormed p → (r ≡ Err refusal.Mask) ↔ (Setting (network_of p) m → ⊥)
  eight_exactly wf = (
    λ e setting. subst (Says p m) e (says p m r promised wf setting),
    λ n. said_refused r promised refusal.Mask (mask_fault p m wf n),
  )

  -- of every plan record: there are eight rows of eight
  pub eight_rows : Eight (rows_of r)
  eight_rows = said_eight r promised (eight_answer p m)

  -- .. and beside "none" and any refusal those that are promised are zero
  pub beside_none_zero : ((t : DifferenceTable) → r ≡ Ok (Some t) → ⊥) → (difference_table p m).value.rows ≡ replicate 8 zero_row
  beside_none_zero none = sym (ap (λ (a : Answer Differences). a.value.rows) promised) ∙ zeros_so r none

  -- a faulty plan is refused as the judge refuses it, whatever the mask
  pub plan_first : (f : Refusal) → refusal_number f ≡ plan_fault p → r ≡ Err f
  plan_first f e = said_refused r promised f (plan_fault_lem p m f e)
