-- Laws: the exported verdict, screen and program's answer, over records that are long enough. Only the checker need believe this file;
-- specs/LibraryDemands.antt has the statements.
use mathlib.Core.Path.{◌≡◌, refl, sym, ap, ◌∙◌, subst}
use mathlib.Core.Logic.{◌↔◌, ◌⊎◌, inl, inr}
use mathlib.Core.Bool.{Bool, true, false}
use mathlib.Core.List.{List, ◌++◌}
use Prim.Native.Nat.{ℕ, ◌+◌, ◌≤◌, ◌<◌}
use native.Mathlib.Omega.{arith}
use lib.Dec.{eqb}
use lib.ListN.{length, take, drop}
use lib.Seq.{take_at, drop-append_seam}
use Rattle.network.specs.Mask.{digit}
use Rattle.network.specs.Fixed.{Setting, PassesScreen}
use Rattle.network.proofs.Booleans.{by_test, eqb_is, eqb_no, differs}
use Rattle.plan.specs.declared.Plan.{Plan}
use Rattle.plan.specs.Answer.{Answer, fine}
use Rattle.plan.specs.Faults.{first}
use Rattle.plan.specs.Plan.{network_of}
use Rattle.plan.specs.WellFormed.{WellFormed}
use Rattle.std.specs.Prelude.{replicate, Some, None, Ok}
use Rattle.verdict.specs.Says.{Says}
use Rattle.verdict.specs.Answers.{Fixed, none}
use Rattle.verdict.specs.Verdict.{least_schedule, screened}
use Rattle.verdict.proofs.AnswerLaws.{eight_answer, fine_answer}
use Rattle.answer_text.specs.AnswerText.{answer_text}
use Rattle.demands.specs.EachCall.{AnswersVerdict, AnswersScreen, AnswersProgram}
use Rattle.demands.proofs.Demand1Laws.{stays}
use Rattle.demands.proofs.Demand1Theorem.{demand1}
use Rattle.demands.proofs.FixedOutcomesTheorem.{fixed_outcomes}
use Rattle.records.specs.Records.{plan_in, plan_length}
use Rattle.answers.specs.Numbers.{numbered}
use Rattle.tureenlark.specs.Library.{plan_short, short_fault, schedule_length, least_schedule_number, slots_for}
use Rattle.tureenlark.specs.Library.{least_schedule_left, screen_number, answer_fault, answer_text_number, answer_text_left}
use Rattle.tureenlark.specs.Exported.{refusals, fault_in}
use Rattle.tureenlark.specs.LibraryDemands.{Ten}
use Rattle.tureenlark.proofs.LibraryLaws.{short, long, then_short, left_long}
use Rattle.tureenlark.proofs.DecodeLaws.{number_fine, number_refused, fault_in_lem}
use Rattle.tureenlark.proofs.PlanCallLaws.{long_number, long_fault}
use Rattle.tureenlark.proofs.RunCallLaws.{front_is}

-- ---- a yes or no as a number

pub digit_small : (b : Bool) → digit b < refusals
digit_small true = omega arith
digit_small false = omega arith

digit_back : (b : Bool) → eqb (digit b) 1 ≡ b
digit_back true = refl
digit_back false = refl

-- 1 for yes without a fault, and for nothing else
pub yes_is : (f : ℕ) (b : Bool) → (¬ (f ≡ 0) → b ≡ false) → eqb (numbered f (digit b)) 1 ≡ b
yes_is f b beside =
    by_test (eqb f 0)
    (λ y. ap (λ (n : ℕ). eqb n 1) (number_fine f (digit b) (eqb_is f 0 y)) ∙ digit_back b)
    (λ z. let some = differs f 0 z in
    let high : ¬ (refusals + f ≡ 1) = λ e. omega arith in
    ap (λ (n : ℕ). eqb n 1) (number_refused f (digit b) some) ∙ eqb_no (refusals + f) 1 high ∙ sym (beside some))

-- ---- the least schedule

module _ (plan : List ℕ) (values : ℕ) (schedule : List ℕ) (enough : plan_length ≤ length plan) (room : 8 ≤ length schedule) where
  abbrev p : Plan
  p = plan_in plan

  abbrev a : Answer Fixed
  a = least_schedule p values

  abbrev n : ℕ
  n = least_schedule_number plan values schedule

  abbrev left : List ℕ
  left = least_schedule_left plan values schedule

  number_is : n ≡ numbered a.fault (digit a.value.scheduled)
  unfolding first
  number_is =
      let none_short = then_short (short_fault schedule_length schedule) (plan_short plan) 0 (long schedule_length schedule room) (long plan_length plan enough) in
      ap (λ (f : ℕ). numbered (first f a.fault) (digit a.value.scheduled)) none_short

  left_is : left ≡ a.value.slots ++ drop 8 schedule
  left_is =
      let slots : slots_for plan values ≡ a.value.slots = sym (left_long (plan_short plan) a.value.slots none.slots (long plan_length plan enough)) in
      let eight = (eight_answer p values).long in
      front_is (short_fault schedule_length schedule) (slots_for plan values) schedule (long schedule_length schedule room)
      ∙ ap (λ (l : List ℕ). l ++ drop (length l) schedule) slots
      ∙ ap (λ (k : ℕ). a.value.slots ++ drop k schedule) eight

  slots_are : take 8 left ≡ a.value.slots
  slots_are = ap (take 8) left_is ∙ take_at a.value.slots (drop 8 schedule) 8 (eight_answer p values).long

  behind_stays : drop 8 left ≡ drop 8 schedule
  behind_stays =
      ap (drop 8) left_is
      ∙ ap (λ (k : ℕ). drop k (a.value.slots ++ drop 8 schedule)) (sym (eight_answer p values).long)
      ∙ drop-append_seam a.value.slots (drop 8 schedule)

  none_beside : ¬ (a.fault ≡ 0) → a.value.scheduled ≡ false
  none_beside some = ap (λ (v : Fixed). v.scheduled) ((demand1.verdict p values).refused some)

  answer_is : record { fault = fault_in n; value = record { scheduled = eqb n 1; slots = take 8 left } } ≡ a
  answer_is =
      let fault = ap fault_in number_is ∙ fault_in_lem a.fault (digit a.value.scheduled) (digit_small a.value.scheduled) in
      let yes = ap (λ (k : ℕ). eqb k 1) number_is ∙ yes_is a.fault a.value.scheduled none_beside in
      λ i. record { fault = fault i; value = record { scheduled = yes i; slots = slots_are i } }

  pub least_schedule_so :
      AnswersVerdict p values (record { fault = fault_in n; value = record { scheduled = eqb n 1; slots = take 8 left } })
      × (drop 8 left ≡ drop 8 schedule)
  least_schedule_so = (subst (AnswersVerdict p values) (sym answer_is) (demand1.verdict p values), behind_stays)

  pub least_schedule_says_so :
      WellFormed p → Setting (network_of p) values →
      ((n ≡ 1) × Says p values (Ok (Some (take 8 left)))) ⊎ ((n ≡ 0) × Says p values (Ok None) × (take 8 left ≡ replicate 8 0))
  least_schedule_says_so wf setting =
      let none-wrong : a.fault ≡ 0 = ap (λ (x : Answer Fixed). x.fault) (fine_answer p values wf setting) in
      let result = number_is ∙ number_fine a.fault (digit a.value.scheduled) none-wrong in
      let slots = a.value.slots in
      by_test a.value.scheduled
      (λ y.
      let says = fixed_outcomes.verdict p values (Ok (Some slots))
      (λ i. record { fault = sym none-wrong i; value = record { scheduled = sym y i; slots = slots } }) wf setting in
      inl (result ∙ ap digit y, subst (λ (l : List ℕ). Says p values (Ok (Some l))) (sym slots_are) says))
      (λ z.
      let zeros : slots ≡ replicate 8 0 = (demand1.verdict p values).zeros z in
      let says = fixed_outcomes.verdict p values (Ok None)
      (λ i. record { fault = sym none-wrong i; value = record { scheduled = sym z i; slots = sym zeros i } }) wf setting in
      inr (result ∙ ap digit z, says, slots_are ∙ zeros))

-- ---- the screen

module _ (plan : List ℕ) (enough : plan_length ≤ length plan) where
  abbrev answer : Answer Bool
  answer = screened (plan_in plan)

  screen_number_is : screen_number plan ≡ numbered answer.fault (digit answer.value)
  screen_number_is = long_number plan enough answer.fault (digit answer.value)

  pub screen_so :
      AnswersScreen (plan_in plan) (record { fault = fault_in (screen_number plan); value = eqb (screen_number plan) 1 })
  screen_so =
      let fault = long_fault plan enough answer.fault (digit answer.value) (digit_small answer.value) in
      let yes = ap (λ (k : ℕ). eqb k 1) screen_number_is ∙ yes_is answer.fault answer.value (demand1.screen (plan_in plan)).beside in
      subst (AnswersScreen (plan_in plan)) (λ i. record { fault = sym fault i; value = sym yes i }) (demand1.screen (plan_in plan))

  pub screen_passes_so :
      WellFormed (plan_in plan) →
      ((screen_number plan ≡ 1) ↔ PassesScreen (network_of (plan_in plan))) × ((screen_number plan ≡ 0) ↔ (¬ PassesScreen (network_of (plan_in plan))))
  screen_passes_so wf =
      let none-wrong : answer.fault ≡ 0 = (demand1.screen (plan_in plan)).judged.fine.1 wf in
      let result : screen_number plan ≡ digit answer.value =
      screen_number_is ∙ number_fine answer.fault (digit answer.value) none-wrong in
      by_test answer.value
      (λ y.
      let so : fine true ≡ answer = λ i. record { fault = sym none-wrong i; value = sym y i } in
      let one = result ∙ ap digit y in
      let passes = (fixed_outcomes.passes (plan_in plan) (Ok true) so wf).0 refl in (
        (λ e. passes, λ h. one),
        (λ e. let z : ◌≡◌ {A = ℕ} 1 0 = sym one ∙ e in absurd (omega arith), λ n. absurd (n passes)),
      ))
      (λ z.
      let so : fine false ≡ answer = λ i. record { fault = sym none-wrong i; value = sym z i } in
      let zero = result ∙ ap digit z in
      let fails = (fixed_outcomes.fails (plan_in plan) (Ok false) so wf).0 refl in (
        (λ e. let t : ◌≡◌ {A = ℕ} 0 1 = sym zero ∙ e in absurd (omega arith), λ h. absurd (fails h)),
        (λ e. fails, λ n. zero),
      ))

-- ---- the program's answer

pub answer_so :
    (input : List ℕ) → (printed : List ℕ) × AnswersProgram input printed
    × ((text : List ℕ) → length text < length printed → Ten (answer_text_number input text) × (answer_text_left input text ≡ text))
    × ((text : List ℕ) → length printed ≤ length text →
    (answer_text_number input text ≡ length printed) × (answer_text_left input text ≡ printed ++ drop (length printed) text))
answer_so input = (
  answer_text input,
  demand1.program input,
  λ text lt.
      let ten = short (length (answer_text input)) text lt in
      let some : ¬ (answer_fault input text ≡ 0) = λ e. omega (arith, ten, e) in (
        number_refused (answer_fault input text) (length (answer_text input)) some ∙ ap (λ (k : ℕ). refusals + k) ten,
        stays (answer_fault input text) (answer_text input) text some,
      ),
  λ text le.
      let none = long (length (answer_text input)) text le in
      (number_fine (answer_fault input text) (length (answer_text input)) none, front_is (answer_fault input text) (answer_text input) text none),
)
