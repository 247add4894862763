-- Laws: the exported table of differences, over records of any length. Only the checker need believe this file; specs/LibraryDemands.antt has
-- the statements.
use mathlib.Core.Path.{◌≡◌, sym, ap, ◌∙◌, subst}
use mathlib.Core.Logic.{◌↔◌, ◌⊎◌, inl, inr, by_cases}
use mathlib.Core.Bool.{true, false}
use mathlib.Core.List.{List, ◌++◌}
use Prim.Native.Nat.{ℕ, ◌+◌, ◌*◌, ◌≤◌, ◌<◌}
use native.Mathlib.Omega.{arith}
use native.Mathlib.Decide.{dec_lt}
use lib.Dec.{eqb}
use lib.IntN.{negsuc}
use lib.ListN.{length, get_or, drop, replicate}
use lib.Signed.{◌≤ℤ◌}
use Rattle.std.specs.Prelude.{Some, None, Ok}
use Rattle.network.specs.Mask.{bit, digit}
use Rattle.network.specs.Fixed.{Setting}
use Rattle.network.specs.Differences.{ForcedBefore}
use Rattle.network.proofs.Booleans.{by_test, eqb_is, differs}
use Rattle.plan.specs.declared.Plan.{Plan}
use Rattle.plan.specs.Answer.{Answer}
use Rattle.plan.specs.Faults.{first}
use Rattle.plan.specs.Plan.{signed, network_of}
use Rattle.plan.specs.WellFormed.{WellFormed}
use Rattle.plan.proofs.SliceLaws.{get_listed}
use Rattle.differences.specs.declared.Row.{Row}
use Rattle.differences.specs.Answers.{Differences, zero_row, no_table}
use Rattle.differences.specs.Says.{bits_at, Says}
use Rattle.differences.specs.Tabling.{difference_table}
use Rattle.differences.proofs.AnswerLaws.{eight_answer, fine_answer}
use Rattle.differences.proofs.DifferencesTheorems.{before_exactly}
use Rattle.demands.specs.EachCall.{AnswersTable}
use Rattle.demands.proofs.Demand1Theorem.{demand1}
use Rattle.demands.proofs.ForcedOrderTheorem.{forced_order, fine_fault}
use Rattle.records.specs.Records.{plan_in, plan_length}
use Rattle.answers.specs.Numbers.{numbered}
use Rattle.answers.specs.Tables.{table_length, table_bytes, bits_in, rows_in}
use Rattle.answers.proofs.TableLaws.{table_length_lem, zero_bytes, table_back}
use Rattle.tureenlark.specs.Exported.{fault_in}
use Rattle.tureenlark.specs.Library.{plan_short, short_fault, table_short, differences_number, table_for, differences_left}
use Rattle.tureenlark.specs.LibraryDemands.{Ten}
use Rattle.tureenlark.proofs.LibraryLaws.{short, long, first_short, then_short, number_short, left_short, left_long, filled_short}
use Rattle.tureenlark.proofs.DecodeLaws.{number_fine, fault_in_lem}
use Rattle.tureenlark.proofs.RunCallLaws.{front_is}
use Rattle.tureenlark.proofs.FixedCallLaws.{digit_small, yes_is}

module _ (plan : List ℕ) (values : ℕ) (table : List ℕ) where
  abbrev p : Plan
  p = plan_in plan

  abbrev a : Answer Differences
  a = difference_table p values

  abbrev n : ℕ
  n = differences_number plan values table

  abbrev left : List ℕ
  left = differences_left plan values table

  -- ---- a short place, a short plan

  pub no_place_so : length table < table_length → Ten n × (left ≡ table)
  no_place_so lt =
      let ten = short table_length table lt in
      let both = first_short (short_fault table_length table) (plan_short plan) ten in (
        sym (number_short (table_short plan table) a.fault _ both),
        sym (filled_short (short_fault table_length table) (table_for plan values) table ten),
      )

  -- what fills a place that is there
  module _ (room : table_length ≤ length table) where
    there : short_fault table_length table ≡ 0
    there = long table_length table room

    filled_with : (rows : List Row) → table_for plan values ≡ table_bytes rows → left ≡ table_bytes rows ++ drop table_length table
    filled_with rows e =
        front_is (short_fault table_length table) (table_for plan values) table there
        ∙ ap (λ (l : List ℕ). l ++ drop (length l) table) e
        ∙ ap (λ (k : ℕ). table_bytes rows ++ drop k table) (table_length_lem rows)

    filled_zero : table_for plan values ≡ table_bytes no_table.rows → left ≡ replicate 128 0 ++ drop table_length table
    filled_zero e = filled_with no_table.rows e ∙ ap (λ (l : List ℕ). l ++ drop table_length table) zero_bytes

    short_zeros : length plan < plan_length → table_for plan values ≡ table_bytes no_table.rows
    short_zeros lt =
        sym (left_short (plan_short plan) (table_bytes a.value.rows) (table_bytes no_table.rows) (short plan_length plan lt))

    pub table_short_so : length plan < plan_length → Ten n × (left ≡ replicate 128 0 ++ drop table_length table)
    table_short_so lt =
        let both = then_short (short_fault table_length table) (plan_short plan) 10 there (short plan_length plan lt) in
        (sym (number_short (table_short plan table) a.fault _ both), filled_zero (short_zeros lt))

    -- ---- records that are long enough

    module _ (enough : plan_length ≤ length plan) where
      -- rows say what a table is to say
      abbrev SaysRows : List Row → Type 0
      SaysRows rows = Says p values (Ok (Some (record { rows = rows })))

      number_is : n ≡ numbered a.fault (digit a.value.scheduled)
      unfolding first
      number_is =
          let none_short = then_short (short_fault table_length table) (plan_short plan) 0 there (long plan_length plan enough) in
          ap (λ (f : ℕ). numbered (first f a.fault) (digit a.value.scheduled)) none_short

      bytes_are : left ≡ table_bytes a.value.rows ++ drop table_length table
      bytes_are =
          filled_with a.value.rows
          (sym (left_long (plan_short plan) (table_bytes a.value.rows) (table_bytes no_table.rows) (long plan_length plan enough)))

      rows_are : rows_in left ≡ a.value.rows
      rows_are = ap rows_in bytes_are ∙ table_back a.value.rows (drop table_length table) (eight_answer p values).eight

      none_beside : ¬ (a.fault ≡ 0) → a.value.scheduled ≡ false
      none_beside some = ap (λ (v : Differences). v.scheduled) ((demand1.differences p values).refused some)

      answer_is : record { fault = fault_in n; value = record { scheduled = eqb n 1; rows = rows_in left } } ≡ a
      answer_is =
          let fault = ap fault_in number_is ∙ fault_in_lem a.fault (digit a.value.scheduled) (digit_small a.value.scheduled) in
          let yes = ap (λ (k : ℕ). eqb k 1) number_is ∙ yes_is a.fault a.value.scheduled none_beside in
          λ i. record { fault = fault i; value = record { scheduled = yes i; rows = rows_are i } }

      pub table_so :
          AnswersTable p values (record { fault = fault_in n; value = record { scheduled = eqb n 1; rows = rows_in left } })
          × (left ≡ table_bytes (rows_in left) ++ drop table_length table)
      table_so = (
        subst (AnswersTable p values) (sym answer_is) (demand1.differences p values),
        bytes_are ∙ ap (λ (rows : List Row). table_bytes rows ++ drop table_length table) (sym rows_are),
      )

      -- 1 is answered where there is a table, without a fault
      one_fine : n ≡ 1 → (a.fault ≡ 0) × (a.value.scheduled ≡ true)
      one_fine e =
          let fault : fault_in n ≡ a.fault = ap (λ (x : Answer Differences). x.fault) answer_is in
          let yes : eqb n 1 ≡ a.value.scheduled = ap (λ (x : Answer Differences). x.value.scheduled) answer_is in
          (sym fault ∙ ap fault_in e, sym yes ∙ ap (λ (k : ℕ). eqb k 1) e)

      -- what is handed back where there is no fault
      said_table : a.fault ≡ 0 → a.value.scheduled ≡ true → WellFormed p → Setting (network_of p) values → SaysRows a.value.rows
      said_table fine y =
          forced_order.table p values (Ok (Some (record { rows = a.value.rows })))
          (λ i. record { fault = sym fine i; value = record { scheduled = sym y i; rows = a.value.rows } })

      zero_rows : a.value.scheduled ≡ false → a.value.rows ≡ replicate 8 zero_row
      zero_rows z = (demand1.differences p values).zeros z

      said_none : a.fault ≡ 0 → a.value.scheduled ≡ false → WellFormed p → Setting (network_of p) values → Says p values (Ok None)
      said_none fine z =
          forced_order.table p values (Ok None)
          (λ i. record { fault = sym fine i; value = record { scheduled = sym z i; rows = sym (zero_rows z) i } })

      pub table_says_so :
          WellFormed p → Setting (network_of p) values →
          ((n ≡ 1) × SaysRows (rows_in left)) ⊎ ((n ≡ 0) × Says p values (Ok None) × (rows_in left ≡ replicate 8 zero_row))
      table_says_so wf setting =
          let fine : a.fault ≡ 0 = ap (λ (x : Answer Differences). x.fault) (fine_answer p values wf setting) in
          let result = number_is ∙ number_fine a.fault (digit a.value.scheduled) fine in
          by_test a.value.scheduled
          (λ y. inl (result ∙ ap digit y, subst SaysRows (sym rows_are) (said_table fine y wf setting)))
          (λ z. inr (result ∙ ap digit z, said_none fine z wf setting, rows_are ∙ zero_rows z))

      -- an entry of the rows that the bytes say
      entry_is : (x y : ℕ) → x < 8 → y < 8 → bits_at (rows_in left) x y ≡ bits_in left (16 * x + 2 * y)
      unfolding rows_in
      entry_is x y lx ly =
          ap (λ (r : Row). get_or r.to y 0) (get_listed zero_row 8 _ x lx) ∙ get_listed 0 8 (λ y. bits_in left (16 * x + 2 * y)) y ly

      pub table_forced_so :
          n ≡ 1 → (x y : ℕ) → x < p.points → y < p.points →
          ForcedBefore (network_of p) (bit values) x y ↔ (signed (bits_in left (16 * y + 2 * x)) ≤ℤ negsuc 0)
      table_forced_so e x y lx ly =
          let (fine, some) = one_fine e in
          let (wf, setting) = fine_fault p values fine in
          let most = wf.head.points in
          let tells = subst SaysRows (sym rows_are) (said_table fine some wf setting) in
          subst (λ (b : ℕ). ForcedBefore (network_of p) (bit values) x y ↔ (signed b ≤ℤ negsuc 0)) (entry_is y x (omega arith) (omega arith))
          (before_exactly (network_of p) (bit values) (rows_in left) tells x y lx ly)

    -- ---- beside "none" and any refusal

    pub table_zero_so : ¬ (n ≡ 1) → left ≡ replicate 128 0 ++ drop table_length table
    table_zero_so not-one =
        by_cases (dec_lt (length plan) plan_length)
        (λ lt. (table_short_so lt).1)
        (λ ge.
        let enough : plan_length ≤ length plan = omega arith in
        let none : a.value.scheduled ≡ false =
        by_test a.value.scheduled
        (λ y. by_test (eqb a.fault 0)
        (λ e.
        let fine = eqb_is a.fault 0 e in
        absurd (not-one (number_is enough ∙ number_fine a.fault (digit a.value.scheduled) fine ∙ ap digit y)))
        (λ z. none_beside enough (differs a.fault 0 z)))
        (λ z. z) in
        bytes_are enough
        ∙ ap (λ (rows : List Row). table_bytes rows ++ drop table_length table) ((eight_answer p values).zeros none)
        ∙ ap (λ (l : List ℕ). l ++ drop table_length table) zero_bytes)
