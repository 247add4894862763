-- Impostors: checkers, readers, writers and a verdict that document 01 won't take, tables that card 2 won't take, and more. Each fails
-- one of these: demand 2, what document 01 says of fixed outcomes, card 2; a comment says which clause. Read the planners and the statements;
-- only the checker need believe the proofs.
use mathlib.Core.Path.{◌≡◌, refl, sym, ap, ◌∙◌, subst}
use mathlib.Core.Bool.{true, cond}
use mathlib.Core.List.{List, [], ◌∷◌, ◌++◌}
use Prim.Native.Nat.{ℕ, ◌*◌, ◌≤◌}
use native.Mathlib.Omega.{arith}
use lib.Dec.{eqb}
use lib.IntN.{ℤ, pos, negsuc}
use lib.ListN.{length, replicate}
use lib.Signed.{◌≤ℤ◌}
use Rattle.std.specs.Prelude.{Some, None, Ok}
use Rattle.network.specs.Mask.{bit, join_below}
use Rattle.network.specs.Fixed.{ScheduleFor, Setting, Schedulable}
use Rattle.network.proofs.Booleans.{clash}
use Rattle.network.proofs.MaskLaws.{bit_zero}
use Rattle.plan.specs.declared.Plan.{Plan}
use Rattle.plan.specs.Answer.{Answer, fine}
use Rattle.plan.specs.Faults.{and_then}
use Rattle.plan.specs.Plan.{listed, network_of}
use Rattle.plan.specs.WellFormed.{WellFormed}
use Rattle.plan.proofs.Cases.{one_point, k4}
use Rattle.frame.specs.Hex.{hex_digit}
use Rattle.frame.specs.ReadFrame.{digit_of, pair_of, byte_at, whole}
use Rattle.frame.specs.Texts.{frame_fault, frames_from, at_end}
use Rattle.judge.proofs.JudgeTheorems.{fine_exactly}
use Rattle.checker.proofs.Cases.{k4_tree, k11_tree, k4_and_k11_to_k13}
use Rattle.plan_text.specs.PlanText.{plan_text}
use Rattle.plan_text.specs.WritePlan.{write_plan, write_plan_leaves}
use Rattle.plan_text.specs.ReadPlan.{read_head, read_plan}
use Rattle.search.proofs.Cases.{computing}
use Rattle.verdict.specs.Answers.{none}
use Rattle.differences.specs.declared.Row.{Row}
use Rattle.differences.specs.Answers.{Differences, no_table}
use Rattle.differences.specs.Says.{bits_at}
use Rattle.differences.specs.Tabling.{difference_table}
use Rattle.differences.proofs.Cases.{k1_to_k5, entries_are}
use Rattle.demands.specs.Planner.{Planner}
use Rattle.demands.specs.Demand2.{Demand2}
use Rattle.demands.specs.FixedOutcomes.{FixedOutcomes}
use Rattle.demands.specs.ForcedOrder.{ForcedOrder}
use Rattle.demands.proofs.OtherPlanners.{reading, writing, checking, fixing, tabulating}
use Rattle.demands.proofs.Demand2Theorem.{demand2}

-- ---- A checker that accepts everything. It breaks "yes exactly" of demand 2: it accepts K4's tree with its children exchanged (K11).

abbrev pub accepts_everything : Planner
accepts_everything = checking (λ p bs. 0)

pub accepts_everything_fails : ¬ Demand2 accepts_everything
accepts_everything_fails d =
    let z : ◌≡◌ {A = ℕ} 7 0 = sym k4_and_k11_to_k13.1 ∙ (demand2.yes_exactly k4 k11_tree).1 ((d.yes_exactly k4 k11_tree).0 refl) in
    omega arith

-- ---- A checker that accepts nothing. It breaks the same clause: it refuses K4's own tree.

abbrev pub accepts_nothing : Planner
accepts_nothing = checking (λ p bs. 6)

pub accepts_nothing_fails : ¬ Demand2 accepts_nothing
accepts_nothing_fails d =
    let z : ◌≡◌ {A = ℕ} 6 0 = (d.yes_exactly k4 k4_tree).1 ((demand2.yes_exactly k4 k4_tree).0 k4_and_k11_to_k13.0) in omega arith

-- ---- K1: horizon 3, one point, nothing else; and the same at horizon 2

abbrev k1 : Plan
k1 = one_point []

abbrev sooner : Plan
sooner = record { horizon = 2; points = k1.points; letters = 0; constraints = 0; letter = k1.letter; constraint = k1.constraint }

both_fine : WellFormed k1 × WellFormed sooner
unfolding computing
both_fine = ((fine_exactly k1).0 refl, (fine_exactly sooner).0 refl)

-- ---- A reader that takes two texts for one plan: where a text cannot be read, it is read with a line feed behind it. It breaks "each with
-- one text only" of demand 2: it takes K1's text without its last line feed, too.

abbrev pub forgiving : Planner
forgiving = reading (λ t. cond (eqb (read_plan t).fault 0) (read_plan t) (read_plan (t ++ 10 ∷ [])))

-- 0103010000
abbrev k1_cut : List ℕ
k1_cut = 48 ∷ 49 ∷ 48 ∷ 51 ∷ 48 ∷ 49 ∷ 48 ∷ 48 ∷ 48 ∷ 48 ∷ []

forgiven : (forgiving.reads_plan k1_cut ≡ fine k1) × (forgiving.reads_plan (plan_text k1) ≡ fine k1) × (length (plan_text k1) ≡ 11)
unfolding computing plan_text join_below hex_digit digit_of pair_of byte_at whole frame_fault frames_from at_end and_then read_head read_plan
forgiven = (refl, refl, refl)

pub forgiving_fails : ¬ Demand2 forgiving
forgiving_fails d =
    let own = ((d.plan_exactly k1_cut k1 (refl, refl)).0 forgiven.0).0 in
    let z : ◌≡◌ {A = ℕ} 10 11 = ap length own ∙ forgiven.2 in
    omega arith

-- ---- A writer that writes the same text for two plans: it writes every plan with horizon 0. It breaks "each with one text only": K1 and K1
-- at horizon 2 are written alike.

abbrev timeless : Plan → Plan
timeless p =
    record { horizon = 0; points = p.points; letters = p.letters; constraints = p.constraints; letter = p.letter; constraint = p.constraint }

abbrev pub forgetful : Planner
forgetful = writing (λ p xs. write_plan (timeless p) xs) (λ p xs. write_plan_leaves (timeless p) xs)

text_lengths : (length (plan_text k1) ≡ 11) × (length (plan_text sooner) ≡ 11)
unfolding plan_text join_below
text_lengths = (refl, refl)

pub forgetful_fails : ¬ Demand2 forgetful
forgetful_fails d =
    let lent : List ℕ = replicate 11 0 in
    let room : length (plan_text k1) ≤ length lent = omega (arith, text_lengths.0) in
    let room' : length (plan_text sooner) ≤ length lent = omega (arith, text_lengths.1) in
    let same = d.plan_one k1 sooner both_fine.0 both_fine.1 (refl, refl) (refl, refl) lent lent room room' refl in
    let z : ◌≡◌ {A = ℕ} 3 2 = ap (λ (p : Plan). p.horizon) same in
    omega arith

-- ---- A verdict of "none" without looking. It contradicts the least schedule: K1 has one.

abbrev pub always_none : Planner
always_none = fixing (λ p m. fine none)

k1_setting : Setting (network_of k1) 0
k1_setting l y = clash y (bit_zero l)

k1_schedule : Schedulable (network_of k1) (bit 0)
unfolding computing
k1_schedule = record { slots = λ x. 0; schedule = record { within = λ x lt. omega arith; kept = refl } }

pub always_none_fails : ¬ FixedOutcomes always_none
always_none_fails d =
    d.verdict k1 0 (Ok None) refl both_fine.0 k1_setting k1_schedule

-- ---- A table of "none" without looking. It contradicts the table where there is a schedule: K1 has one.

abbrev pub always_no_table : Planner
always_no_table = tabulating (λ p m. fine no_table)

pub always_no_table_fails : ¬ ForcedOrder always_no_table
always_no_table_fails d =
    (d.table k1 0 (Ok None) refl both_fine.0 k1_setting).0 k1_schedule

-- ---- A table with rows and columns exchanged. At row 0, column 1 of K4 where letter 0 is false it has -2, and in the schedule with point 0 in
-- slot 0 and point 1 in slot 2 the difference is 2.

abbrev exchanged : List Row → List Row
exchanged rows = listed 8 (λ x. record { to = listed 8 (λ y. bits_at rows y x) })

abbrev exchanging : Answer Differences → Answer Differences
exchanging a = record { fault = a.fault; value = record { scheduled = a.value.scheduled; rows = exchanged a.value.rows } }

abbrev pub transposed : Planner
transposed = tabulating (λ p m. exchanging (difference_table p m))

k4_fine : WellFormed k4
unfolding computing
k4_fine = (fine_exactly k4).0 refl

k4_setting : Setting (network_of k4) 0
k4_setting l y = clash y (bit_zero l)

abbrev two_later : ℕ → ℕ
two_later x = 2 * x

k4_schedule : ScheduleFor (network_of k4) (bit 0) two_later
unfolding computing
k4_schedule = record { within = λ x lt. omega arith; kept = refl }

pub transposed_fails : ¬ ForcedOrder transposed
unfolding listed
transposed_fails d =
    let a = difference_table k4 0 in
    let fault : 0 ≡ a.fault = sym (ap (λ (x : Answer Differences). x.fault) k1_to_k5.3) in
    let some : true ≡ a.value.scheduled = sym (ap (λ (x : Answer Differences). x.value.scheduled) k1_to_k5.3) in
    let rows = exchanged a.value.rows in
    let tells = d.table k4 0 (Ok (Some (record { rows = rows })))
    (λ i. record { fault = fault i; value = record { scheduled = some i; rows = rows } }) k4_fine k4_setting in
    let two = (tells.largest 0 1 (omega arith) (omega arith)).bounds two_later k4_schedule in
    let not-two : pos 2 ≤ℤ negsuc 1 = subst (λ (z : ℤ). pos 2 ≤ℤ z) entries_are.0 two in
    not-two.le
