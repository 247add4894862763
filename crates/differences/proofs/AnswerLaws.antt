-- Laws of answers: what the call says where the plan and the mask are fine, and where they are not. Only the checker need believe this file.
use mathlib.Core.Path.{◌≡◌, refl, sym, ap, ◌∙◌, subst}
use mathlib.Core.Logic.{◌⊎◌, ⊎_elim, by_cases}
use mathlib.Core.Bool.{Bool, true, false, cond, ◌&&◌}
use mathlib.Core.List.{List}
use Prim.Native.Nat.{ℕ, ◌+◌, ◌%◌, ◌^◌, ◌≤◌, ◌<◌}
use native.Mathlib.Omega.{arith}
use native.Mathlib.Decide.{dec_lt}
use lib.Dec.{ltb, eqb}
use lib.ListN.{length, get_or, replicate, get_or-eq_default}
use Rattle.network.specs.Mask.{bit}
use Rattle.network.specs.Network.{Network, Scenario}
use Rattle.network.specs.IsNetwork.{Each}
use Rattle.network.specs.Fixed.{Setting, Schedulable}
use Rattle.network.specs.Differences.{Largest}
use Rattle.network.specs.Limits.{bias, biased, limit_at}
use Rattle.network.proofs.Booleans.{by_test, clash, ltb_yes, ltb_no}
use Rattle.network.proofs.LimitLaws.{In16Bits}
use Rattle.masks.proofs.ByteLaws.{says_among}
use Rattle.std.specs.Prelude.{Option, Some, None, Result, Ok, Err}
use Rattle.plan.specs.declared.Plan.{Plan}
use Rattle.plan.specs.declared.Refusal.{Refusal}
use Rattle.plan.specs.declared.Refusal.TheVariants as refusal
use Rattle.plan.specs.Refusal.{refusal_number}
use Rattle.plan.specs.Answer.{Answer, fine}
use Rattle.plan.specs.Faults.{unless, first, answered}
use Rattle.plan.specs.Plan.{signed, constraint_at, constraint_of, listed, network_of}
use Rattle.plan.specs.WellFormed.{WellFormed}
use Rattle.plan.proofs.AnswerLaws.{first_refused, answered_fine, answered_refused}
use Rattle.plan.proofs.PlanLaws.{each_listed}
use Rattle.plan.proofs.PlanTheorems.{is_network}
use Rattle.plan.proofs.RefusalLaws.{refusal_one_number, no_refusal}
use Rattle.plan.proofs.SliceLaws.{all_same, length_listed, get_listed}
use Rattle.judge.specs.Judge.{plan_fault}
use Rattle.judge.proofs.WellFormedLaws.{fine_exactly}
use Rattle.differences.specs.declared.Row.{Row}
use Rattle.differences.specs.declared.DifferenceTable.{DifferenceTable}
use Rattle.differences.specs.Answers.{Differences, zero_row, no_table, table_answer, rows_of}
use Rattle.differences.specs.Says.{bits_at, Tells}
use Rattle.differences.specs.Tabling.{closed, no_negative_cycle, shown, table_from, table_of, table_fault, difference_table}
use Rattle.differences.proofs.IntegerLaws.{shown_as}
use Rattle.differences.proofs.ExactLaws.{no_cycle_is, no_cycle_make, scheduled_no_cycle, some_schedule, exact, fits_16_bits}

-- ---- rows

-- eight rows of eight
pub record Eight (rows : List Row) : Type 0 where
  pub long : length rows ≡ 8
  pub wide : (x : ℕ) → x < 8 → length (get_or rows x zero_row).to ≡ 8

-- what is said of any table: eight rows of eight, and zeros where there is no schedule
pub record EightRows (v : Differences) : Type 0 where
  pub eight : Eight v.rows
  pub zeros : v.scheduled ≡ false → v.rows ≡ replicate 8 zero_row

module _ (n : ℕ) (t : List (List ℕ)) where
  abbrev bits : ℕ → ℕ → ℕ
  bits x y = cond (ltb x n && ltb y n) (limit_at t x y % 65536) 0

  abbrev row : ℕ → Row
  row x = record { to = listed 8 (bits x) }

  row_at_lem : (x : ℕ) → x < 8 → get_or (shown n t) x zero_row ≡ row x
  unfolding shown
  row_at_lem x lx = get_listed zero_row 8 row x lx

  pub shown_eight : Eight (shown n t)
  unfolding shown
  shown_eight =
      record {
        long = length_listed 8 row;
        wide = λ x lx. ap (λ (r : Row). length r.to) (row_at_lem x lx) ∙ length_listed 8 (bits x);
      }

  shown_at : (x y : ℕ) → x < 8 → y < 8 → bits_at (shown n t) x y ≡ bits x y
  shown_at x y lx ly = ap (λ (r : Row). get_or r.to y 0) (row_at_lem x lx) ∙ get_listed 0 8 (bits x) y ly

  -- past the table
  no_row : (x y : ℕ) → 8 ≤ x → bits_at (shown n t) x y ≡ 0
  no_row x y h =
      let long = shown_eight.long in
      ap (λ (r : Row). get_or r.to y 0) (get_or-eq_default (shown n t) zero_row {n = x} (omega arith)) ∙ all_same 8 0 y

  no_column : (x y : ℕ) → x < 8 → 8 ≤ y → bits_at (shown n t) x y ≡ 0
  no_column x y lx h =
      let wide = shown_eight.wide x lx in
      get_or-eq_default (get_or (shown n t) x zero_row).to 0 {n = y} (omega arith)

  -- of each two points: 16 bits, those of the limit where both are used, zero where one is not
  pub bits_small : (x y : ℕ) → bits_at (shown n t) x y < 65536
  bits_small x y =
      by_cases (dec_lt x 8)
      (λ lx. by_cases (dec_lt y 8)
      (λ ly. rw (shown_at x y lx ly) (small (ltb x n && ltb y n)))
      (λ ge. rw (no_column x y lx (omega arith)) (omega arith)))
      (λ ge. rw (no_row x y (omega arith)) (omega arith))
    where
      small : (b : Bool) → cond b (limit_at t x y % 65536) 0 < 65536
      small true = omega arith
      small false = omega arith

  pub bits_used : n ≤ 8 → (x y : ℕ) → x < n → y < n → bits_at (shown n t) x y ≡ limit_at t x y % 65536
  bits_used most x y lx ly = shown_at x y (omega arith) (omega arith) ∙ rw (ltb_yes x n lx, ltb_yes y n ly) refl

  pub bits_unused : (x y : ℕ) → (n ≤ x) ⊎ (n ≤ y) → bits_at (shown n t) x y ≡ 0
  bits_unused x y past =
      by_cases (dec_lt x 8)
      (λ lx. by_cases (dec_lt y 8)
      (λ ly. shown_at x y lx ly ∙ ⊎_elim
      (λ h. rw (ltb_no x n (λ l. omega arith)) refl)
      (λ h. rw (ltb_no y n (λ l. omega arith)) (neither (ltb x n))) past)
      (λ ge. no_column x y lx (omega arith)))
      (λ ge. no_row x y (omega arith))
    where
      neither : (b : Bool) → cond (b && false) (limit_at t x y % 65536) 0 ≡ 0
      neither true = refl
      neither false = refl

zero_rows : Eight (replicate 8 zero_row)
zero_rows =
    record {
      long = refl;
      wide = λ x lx. ap (λ (r : Row). length r.to) (all_same 8 zero_row x);
    }

zero_at : (x y : ℕ) → bits_at (replicate 8 zero_row) x y ≡ 0
zero_at x y = ap (λ (r : Row). get_or r.to y 0) (all_same 8 zero_row x) ∙ all_same 8 0 y

pub no_table_eight : EightRows no_table
no_table_eight = record { eight = zero_rows; zeros = λ e. refl }

table_from_eight : (n : ℕ) (t : List (List ℕ)) → EightRows (table_from n t)
unfolding table_from
table_from_eight n t =
    by_test (no_negative_cycle n t)
    (λ y. rw y (record { eight = shown_eight n t; zeros = λ e. clash refl e }))
    (λ z. rw z no_table_eight)

pub table_eight : (net : Network) (s : Scenario) → EightRows (table_of net s)
unfolding table_of
table_eight net s = table_from_eight net.points (closed net s)

-- ---- what is found

-- a table that tells, or there is no schedule
pub record Decides (net : Network) (s : Scenario) (v : Differences) : Type 0 where
  pub found : v.scheduled ≡ true → Tells net s v.rows
  pub missing : v.scheduled ≡ false → Schedulable net s → ⊥

-- a bound of 16 bits is at least -32,768
bound_in_16_bits : (b : ℕ) → bias ≤ biased (signed b) + 32768
unfolding biased signed
bound_in_16_bits b =
    by_test (ltb b 32768)
    (λ y. rw y (omega arith))
    (λ z. rw z (by_cases (dec_lt b 32768) (λ lt. clash (ltb_yes b 32768 lt) z) (λ ge. omega arith)))

pub in_16_bits : (p : Plan) → Each In16Bits (network_of p).constraints
in_16_bits p = each_listed In16Bits p.constraints (λ j. constraint_of (constraint_at p j)) (λ j lt. bound_in_16_bits (constraint_at p j).bound)

module _ (p : Plan) (wf : WellFormed p) (s : Scenario) where
  abbrev net : Network
  net = network_of p

  abbrev t : List (List ℕ)
  t = closed net s

  few : p.points ≤ 8
  few = wf.head.points

  early : p.horizon ≤ 63
  early = wf.head.horizon

  some : 1 ≤ p.points
  some = wf.head.some_point

  tells : no_negative_cycle p.points t ≡ true → Tells net s (shown p.points t)
  tells y =
      let st = no_cycle_is p.points t y in
      let is = is_network p wf in
      let eight = shown_eight p.points t in
      record {
        some_schedule = some_schedule net s is few early (in_16_bits p) st 0 some;
        eight_rows = eight.long;
        of_eight = eight.wide;
        of_16_bits = bits_small p.points t;
        largest = λ x y lx ly.
            let range = fits_16_bits net s is few early (in_16_bits p) st x y lx ly in
            let same = ap signed (bits_used p.points t few x y lx ly) ∙ shown_as (limit_at t x y) range.0 range.1 in
            subst (Largest net s x y) (sym same) (exact net s is few early (in_16_bits p) st x y lx ly);
        unused = bits_unused p.points t;
      }

  pub decides : Decides net s (table_of net s)
  unfolding table_of table_from
  decides =
      by_test (no_negative_cycle p.points t)
      (λ y. rw y (record { found = λ e. tells y; missing = λ z. clash refl z }))
      (λ z. rw z (record {
        found = λ e. clash e refl;
        missing = λ e schedule.
            clash (no_cycle_make p.points t (scheduled_no_cycle net s (is_network p wf) few early (in_16_bits p) schedule)) z;
      }))

-- ---- what a call says where it answers a

refused_so : (v : Result (Option DifferenceTable) Refusal) (r : Refusal) → (table_answer v).fault ≡ refusal_number r → v ≡ Err r
refused_so (Ok t) r e = absurd (no_refusal r (sym e))
refused_so (Err q) r e = ap Err (refusal_one_number q r e)

none_so :
    (v : Result (Option DifferenceTable) Refusal) → (table_answer v).fault ≡ 0 → (table_answer v).value.scheduled ≡ false → v ≡ Ok None
none_so (Ok (Some t)) e z = clash refl z
none_so (Ok None) e z = refl
none_so (Err r) e z = absurd (no_refusal r e)

-- beside "none" and a refusal: by `table_answer`
pub zeros_so :
    (v : Result (Option DifferenceTable) Refusal) → ((t : DifferenceTable) → v ≡ Ok (Some t) → ⊥) → rows_of v ≡ replicate 8 zero_row
zeros_so (Ok (Some t)) n = absurd (n t refl)
zeros_so (Ok None) n = refl
zeros_so (Err r) n = refl

module _ (v : Result (Option DifferenceTable) Refusal) {a : Answer Differences} (e : table_answer v ≡ a) where
  pub said_fault : (table_answer v).fault ≡ a.fault
  said_fault = ap (λ (x : Answer Differences). x.fault) e

  pub said_value : (P : Differences → Type 0) → P a.value → P (table_answer v).value
  said_value P h = subst (λ (x : Answer Differences). P x.value) (sym e) h

  pub said_refused : (r : Refusal) → a.fault ≡ refusal_number r → v ≡ Err r
  said_refused r h = refused_so v r (said_fault ∙ h)

  pub said_none : a.fault ≡ 0 → a.value.scheduled ≡ false → v ≡ Ok None
  said_none h z = none_so v (said_fault ∙ h) (said_value (λ (x : Differences). x.scheduled ≡ false) z)

  pub said_eight : EightRows a.value → Eight (rows_of v)
  said_eight eight = (said_value EightRows eight).eight

-- ---- the faults in their order, and what is said where there is none

module _ (p : Plan) (m : ℕ) where
  pub refused_plan : (r : Refusal) → refusal_number r ≡ plan_fault p → table_answer (Err r) ≡ difference_table p m
  unfolding difference_table table_fault
  refused_plan r e = rw (← e, first_refused) (answered_refused no_table (table_of (network_of p) (bit m)) r)

  table_fault_lem : 0 ≡ plan_fault p → (b : Bool) → ltb m (2 ^ p.letters) ≡ b → table_fault p m ≡ unless b refusal.Mask
  unfolding table_fault first
  table_fault_lem e b t = rw (← e) (ap (λ (c : Bool). unless c refusal.Mask) t)

  pub refused_mask :
      0 ≡ plan_fault p → ltb m (2 ^ p.letters) ≡ false → table_answer (Err refusal.Mask) ≡ difference_table p m
  unfolding difference_table unless
  refused_mask e z = rw (table_fault_lem e false z) (answered_refused no_table (table_of (network_of p) (bit m)) refusal.Mask)

  pub decided : 0 ≡ plan_fault p → ltb m (2 ^ p.letters) ≡ true → fine (table_of (network_of p) (bit m)) ≡ difference_table p m
  unfolding difference_table unless
  decided e y = sym (answered_fine no_table (table_fault p m) (table_of (network_of p) (bit m)) (table_fault_lem e true y))

  -- ---- of a well-formed plan

  no_fault : WellFormed p → 0 ≡ plan_fault p
  no_fault wf = sym ((fine_exactly p).1 wf)

  -- under a mask of the plan's letters it is the answer
  pub fine_answer : WellFormed p → Setting (network_of p) m → difference_table p m ≡ fine (table_of (network_of p) (bit m))
  fine_answer wf st = sym (decided (no_fault wf) ((says_among m p.letters).1 st))

  pub mask_fault : WellFormed p → (Setting (network_of p) m → ⊥) → (difference_table p m).fault ≡ refusal_number refusal.Mask
  mask_fault wf n =
      by_test (ltb m (2 ^ p.letters))
      (λ y. absurd (n ((says_among m p.letters).0 y)))
      (λ z. ap (λ (x : Answer Differences). x.fault) (sym (refused_mask (no_fault wf) z)))

  pub plan_fault_lem : (f : Refusal) → refusal_number f ≡ plan_fault p → (difference_table p m).fault ≡ refusal_number f
  plan_fault_lem f e = ap (λ (x : Answer Differences). x.fault) (sym (refused_plan f e))

  pub eight_answer : EightRows (difference_table p m).value
  unfolding difference_table answered
  eight_answer =
      by_test (eqb (table_fault p m) 0) (λ y. rw y (table_eight (network_of p) (bit m))) (λ z. rw z no_table_eight)

  -- rows and columns of points that the plan lacks are zero, whatever is answered
  pub unused_answer : (x y : ℕ) → (p.points ≤ x) ⊎ (p.points ≤ y) → bits_at (difference_table p m).value.rows x y ≡ 0
  unfolding difference_table answered table_of table_from
  unused_answer x y past =
      by_test (eqb (table_fault p m) 0)
      (λ e. rw e (by_test (no_negative_cycle p.points (closed (network_of p) (bit m)))
      (λ st. rw st (bits_unused p.points (closed (network_of p) (bit m)) x y past))
      (λ no. rw no (zero_at x y))))
      (λ z. rw z (zero_at x y))

-- ---- as the code tells them

module _ (net : Network) (s : Scenario) where
  pub is_table :
      no_negative_cycle net.points (closed net s) ≡ true → ◌≡◌ {A = Differences}
      (record { scheduled = true; rows = shown net.points (closed net s) }) (table_of net s)
  unfolding table_of table_from
  is_table y = rw y refl

  pub is_none : no_negative_cycle net.points (closed net s) ≡ false → no_table ≡ table_of net s
  unfolding table_of table_from
  is_none z = rw z refl
