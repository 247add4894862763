-- Cases: small networks of document 01, computed, and what the definitions say of them. Only the checker need believe this file; a reader
-- may like to.
use mathlib.Core.Path.{◌≡◌, refl, ap}
use mathlib.Core.Logic.{inl, inr, ⊎_elim, by_cases}
use mathlib.Core.List.{List, [], ◌∷◌}
use mathlib.Core.Bool.{Bool, true, false, cond}
use Prim.Native.Nat.{ℕ, zero, suc, ◌+◌, ◌%◌, ◌≤◌}
use native.Mathlib.Omega.{arith}
use native.Mathlib.Nat.{not-suc-le-zero}
use native.Mathlib.Decide.{dec_lt}
use lib.Dec.{leb, eqb}
use lib.IntN.{ℤ, pos, negsuc}
use Rattle.network.specs.Mask.{bit, mask, count, all_below, first_below, join_below, submask}
use Rattle.network.specs.Below.{any_below, sum_below}
use Rattle.network.specs.Network.{Constraint, Network, Schedule, condition, holds, combined, projected, at_most, feasible, keeps}
use Rattle.network.specs.LabelTest.{Tested, Holds, Fails, Open}
use Rattle.network.specs.TestLabel.{disagrees, all_known, label_test}
use Rattle.network.specs.SoFar.{all_kept_so_far, keeps_so_far, performed_at, known_at, keeps_so_far_at}
use Rattle.network.specs.Strategy.{ConditionScenario, Strategy, Viable, InHistory, SameHistory, Dynamic}
use Rattle.network.specs.Fixed.{ScheduleFor, Least, Setting, PassesScreen}
use Rattle.network.specs.Game.{State, start, Move, Legal, after}
use Rattle.network.specs.Tree.{preorder}
use Rattle.network.specs.Sizes.{nodes}
use Rattle.network.specs.Search.{over, wins_by, wins_with, wins_in, winnable, first_move, first_tree_from, first_tree, hopeless}
use Rattle.network.specs.FirstMoves.{Before}
use Rattle.network.specs.Crew.{Step, times_performed, slot_by_steps, value_by_steps, Some, Hears, ToldAlike}
use Rattle.network.specs.Policy.{Policy, observe, heard_before, slot_by, choices_by, Succeeds}
use Rattle.network.proofs.Booleans.{by_test, clash, and_left, leb_is, ltb_yes, differs}
use Rattle.network.proofs.MaskLaws.{bit_zero, bit_above}

-- Y − X ≤ d where the letters of n are as t shows
abbrev at_most_lem : ℕ → ℕ → ℤ → ℕ → ℕ → Constraint
at_most_lem x y d n t = record { from = x; to = y; bound = d; label = record { need = n; truth = t } }

-- horizon, points, letters; letter l is disclosed by point l
abbrev network : ℕ → ℕ → ℕ → (ℕ → Bool) → List Constraint → Network
network h p l d cs = record { horizon = h; points = p; letters = l; disclosing = λ i. i; is_decision = d; constraints = cs }

abbrev the_world : ℕ → Bool
the_world l = false

abbrev the_agent : ℕ → Bool
the_agent l = true

abbrev move : ℕ → ℕ → ℕ → Move
move t ps ch = record { slot = t; points = ps; choices = ch }

-- ---- document 01's plans

-- one point; point 0 before itself; point 0 not before itself
abbrev k1 : Network
k1 = network 3 1 0 the_world []

abbrev k2 : Network
k2 = network 3 1 0 the_world (at_most_lem 0 0 (negsuc 0) 0 0 ∷ [])

abbrev k3 : Network
k3 = network 3 1 0 the_world (at_most_lem 0 0 (pos 0) 0 0 ∷ [])

-- letter 0 true: point 1 at most d after point 0; false: at least 2 after it
abbrev apart : ℤ → List Constraint
apart d = at_most_lem 0 1 d 1 1 ∷ (at_most_lem 1 0 (negsuc 1) 1 0 ∷ [])

abbrev k4 : Network
k4 = network 2 2 1 the_world (apart (pos 1))

abbrev k5 : Network
k5 = network 1 2 1 the_world (apart (pos 1))

abbrev k6 : Network
k6 = network 63 2 1 the_world (apart (pos 0))

abbrev k7 : Network
k7 = network 2 2 1 the_agent (apart (pos 0))

abbrev k8 : Network
k8 = network 1 2 1 the_agent (apart (pos 0))

-- condition 0 at point 0, decision 1 at point 1, point 1 at most d after point 0, self-loops where the letters differ
abbrev mixed : ℕ → Bool
mixed zero = false
mixed (suc l) = true

abbrev copied : ℤ → Network
copied d = network 1 2 2 mixed (at_most_lem 0 1 d 0 0 ∷ (at_most_lem 0 0 (negsuc 0) 3 1 ∷ (at_most_lem 0 0 (negsuc 0) 3 2 ∷ [])))

abbrev k9 : Network
k9 = copied (pos 1)

abbrev k10 : Network
k10 = copied (pos 0)

-- ---- hopeless, or not

pub verdicts :
    (hopeless k1 ≡ false) × (hopeless k2 ≡ true) × (hopeless k3 ≡ false) × (hopeless k4 ≡ false) × (hopeless k5 ≡ true)
    × (hopeless k6 ≡ true) × (hopeless k7 ≡ false) × (hopeless k8 ≡ false) × (hopeless k9 ≡ false) × (hopeless k10 ≡ true)
unfolding bit mask count all_below any_below submask holds projected at_most feasible keeps start after over wins_by wins_with wins_in winnable
verdicts = (refl, refl, refl, refl, refl, refl, refl, refl, refl, refl)

-- ---- the trees of first moves

pub trees :
    (preorder k1 (first_tree k1) ≡ move 0 1 0 ∷ [])
    × (preorder k4 (first_tree k4) ≡ move 0 1 0 ∷ (move 2 2 0 ∷ (move 1 2 0 ∷ [])))
    × (preorder k7 (first_tree k7) ≡ move 0 1 0 ∷ (move 2 2 0 ∷ []))
    × (preorder k8 (first_tree k8) ≡ move 0 2 0 ∷ (move 1 1 1 ∷ []))
    × (preorder k9 (first_tree k9) ≡ move 0 1 0 ∷ (move 1 2 0 ∷ (move 1 2 2 ∷ [])))
    × (nodes k9 (first_tree k9) ≡ 3)
unfolding bit mask count all_below any_below first_below join_below sum_below submask holds projected at_most feasible keeps start after over wins_by wins_with wins_in winnable first_move first_tree_from preorder nodes
trees = (refl, refl, refl, refl, refl, refl)

-- ---- the label test by the letters known (card 1): letter 0 true and letter 1 false, and the empty label

abbrev tested : ℕ → ℕ → Tested
tested known values = label_test known (bit values) (record { need = 3; truth = 1 })

pub label_tests :
    (tested 0 0 ≡ Open) × (tested 1 1 ≡ Open) × (tested 2 0 ≡ Open) × (tested 1 0 ≡ Fails) × (tested 2 2 ≡ Fails) × (tested 2 3 ≡ Fails)
    × (tested 3 1 ≡ Holds) × (tested 3 3 ≡ Fails) × (tested 255 5 ≡ Holds)
    × (label_test 0 (bit 0) (record { need = 0; truth = 0 }) ≡ Holds)
unfolding bit all_below any_below disagrees all_known label_test
label_tests = (refl, refl, refl, refl, refl, refl, refl, refl, refl, refl)

-- ---- what is kept so far (card 1)

-- Three points, condition 0 at point 0, decision 1 at point 2. Point 1 comes at least 1 after point 0; at least 2 after it where condition 0
-- is true, and at least 3 where decision 1 is true.
abbrev waiting_plan : Network
waiting_plan =
    record {
      horizon = 3;
      points = 3;
      letters = 2;
      disclosing = λ l. cond (eqb l 0) 0 2;
      is_decision = mixed;
      constraints = at_most_lem 1 0 (negsuc 0) 0 0 ∷ (at_most_lem 1 0 (negsuc 1) 1 1 ∷ (at_most_lem 1 0 (negsuc 2) 2 2 ∷ []));
    }

abbrev first : Move → ℕ → State
first m o = after waiting_plan (start waiting_plan) m o

abbrev then : State → Move → State
then s m = after waiting_plan s m 0

-- the letters known and the points performed: none at the start; after point 0, condition 0; after points 1 and 2, decision 1
pub known_so_far :
    (known_at waiting_plan (start waiting_plan) ≡ 0) × (performed_at waiting_plan (start waiting_plan) ≡ 0)
    × (known_at waiting_plan (first (move 0 1 0) 1) ≡ 1) × (performed_at waiting_plan (first (move 0 1 0) 1) ≡ 1)
    × (known_at waiting_plan (first (move 0 6 2) 0) ≡ 2) × (performed_at waiting_plan (first (move 0 6 2) 0) ≡ 6)
unfolding bit mask start after
known_so_far = (refl, refl, refl, refl, refl, refl)

-- Points 0 and 1 in one slot break the first constraint. While one of them is left, and its slot reads 0, nothing is broken.
pub points_so_far :
    (keeps_so_far_at waiting_plan (start waiting_plan) ≡ true) × (keeps_so_far_at waiting_plan (first (move 0 3 0) 0) ≡ false)
    × (keeps_so_far_at waiting_plan (first (move 2 1 0) 1) ≡ true) × (keeps_so_far_at waiting_plan (first (move 0 2 0) 0) ≡ true)
unfolding bit mask all_below any_below at_most start after disagrees all_known label_test all_kept_so_far keeps_so_far
points_so_far = (refl, refl, refl, refl)

-- One slot apart breaks the second where condition 0 is true. Two slots apart breaks the third where decision 1 is true, which is open until
-- point 2 is performed.
pub labels_so_far :
    (keeps_so_far_at waiting_plan (then (first (move 0 1 0) 0) (move 1 2 0)) ≡ true)
    × (keeps_so_far_at waiting_plan (then (first (move 0 1 0) 1) (move 1 2 0)) ≡ false)
    × (keeps_so_far_at waiting_plan (then (first (move 0 1 0) 1) (move 2 2 0)) ≡ true)
    × (keeps_so_far_at waiting_plan (then (then (first (move 0 1 0) 1) (move 2 2 0)) (move 3 4 0)) ≡ true)
    × (keeps_so_far_at waiting_plan (then (then (first (move 0 1 0) 1) (move 2 2 0)) (move 3 4 2)) ≡ false)
unfolding bit mask all_below any_below at_most start after disagrees all_known label_test all_kept_so_far keeps_so_far
labels_so_far = (refl, refl, refl, refl, refl)

-- ---- what is heard when (Definition 7)

-- an outcome is not heard in its own slot
pub not_in_its_slot :
    (net : Network) (σ : Strategy) (t cs l : ℕ) (v : Bool) → σ.time cs (net.disclosing l) ≡ t → ¬ InHistory net σ t cs l v
not_in_its_slot net σ t cs l v e h = let b = h.before in omega arith

-- .. and is heard in the next
pub in_the_next_slot :
    (net : Network) (σ : Strategy) (t cs l : ℕ) → condition net l ≡ true → σ.time cs (net.disclosing l) ≡ t →
    InHistory net σ (suc t) cs l (bit cs l)
in_the_next_slot net σ t cs l c e = record { contingent = c; before = omega arith; valued = refl }

-- ---- each outcome's network alone: a strategy for k6 that knows the outcome beforehand is viable and not dynamic

abbrev foreseeing : Strategy
foreseeing = record { time = λ cs x. cond (eqb x 0) 0 (cond (bit cs 0) 0 2); choice = λ cs. 0 }

pub foreseeing_viable : Viable k6 foreseeing
unfolding bit all_below holds projected at_most feasible keeps
foreseeing_viable =
    record {
      within = λ cs k x h.
          by_test (eqb x 0)
          (λ y. rw y (omega arith))
          (λ z. rw z (by_test (eqb (cs % 2) 1) (λ y. rw y (omega arith)) (λ n. rw n (omega arith))));
      keeping = λ cs k. by_test (eqb (cs % 2) 1) (λ y. rw y (rw y)) (λ z. rw z (rw z));
    }

pub foreseeing_not_dynamic : ¬ Dynamic k6 foreseeing
unfolding bit
foreseeing_not_dynamic d =
    let same : SameHistory k6 foreseeing 0 1 0
    = λ l v. (λ h. absurd (not-suc-le-zero h.before), λ h. absurd (not-suc-le-zero h.before)) in
    let e : ◌≡◌ {A = ℕ} 2 0 = d.times 1 0 one none 1 (omega arith) same in
    omega arith
  where
    one : ConditionScenario k6 1
    one zero b = refl
    one (suc l) b = clash b (bit_zero l)

    none : ConditionScenario k6 0
    none l b = clash b (bit_zero l)

-- ---- fixed outcomes: the least schedule, and the screen

-- point 1 at least 2 after point 0
abbrev waits : Network
waits = network 3 2 0 the_world (at_most_lem 1 0 (negsuc 1) 0 0 ∷ [])

abbrev slots : ℕ → ℕ → Schedule
slots a b x = cond (eqb x 0) a b

-- slots 0 and 2 are the least schedule; slots 1 and 3 are one, as late as can be
pub least_schedule_lem : Least waits (bit 0) (slots 0 2)
unfolding bit all_below holds projected at_most feasible keeps
least_schedule_lem =
    record {
      schedule =
          record {
            within = λ x lt. by_test (eqb x 0) (λ y. rw y (omega arith)) (λ z. rw z (omega arith));
            kept = refl;
          };
      earliest = λ φ f x lt. by_test (eqb x 0)
          (λ y. rw y (omega arith))
          (λ z. let one : x ≡ 1 = omega (arith, differs x 0 z) in
          let kept : φ 0 + 2 ≤ φ 1 = leb_is _ _ (and_left (leb (φ 0 + 2) (φ 1)) true f.kept) in
          rw one (omega arith));
    }

pub later_schedule : ScheduleFor waits (bit 0) (slots 1 3)
unfolding bit all_below holds projected at_most feasible keeps
later_schedule =
    record { within = λ x lt. by_test (eqb x 0) (λ y. rw y (omega arith)) (λ z. rw z (omega arith)); kept = refl }

pub later_not_least : ¬ Least waits (bit 0) (slots 1 3)
later_not_least l = let e : 1 ≤ 0 = l.earliest (slots 0 2) least_schedule_lem.schedule 0 (omega arith) in omega arith

-- a mask that has a letter which the network lacks is no setting
pub letter_lacking : (¬ Setting k1 1) × (¬ Setting k4 2)
unfolding bit
letter_lacking = ((λ s. omega (arith, s 0 refl)), (λ s. omega (arith, s 1 refl)))

-- K6 passes the screen, K8 does not
pub k6_passes : PassesScreen k6
k6_passes m setting =
    let conditions : ConditionScenario k6 m = λ l b. rw (ltb_yes l 1 (setting l b)) in
    record {
      slots = foreseeing.time m;
      schedule = record { within = foreseeing_viable.within m conditions; kept = foreseeing_viable.keeping m conditions };
    }

-- one setting without a schedule is enough: here that in which letter 0 is true
abbrev not_if_true : Network
not_if_true = network 1 1 1 the_world (at_most_lem 0 0 (negsuc 0) 1 1 ∷ [])

pub last_setting_fails : ¬ PassesScreen not_if_true
unfolding bit all_below holds projected at_most feasible keeps
last_setting_fails f =
    let setting : Setting not_if_true 1 = λ l b. by_cases (dec_lt l 1)
    (λ lt. omega arith)
    (λ ge. clash b (bit_above 1 1 l (omega arith) (omega arith))) in
    let found = f 1 setting in
    let kept : found.slots 0 + 1 ≤ found.slots 0 = leb_is _ _ (and_left _ true found.schedule.kept) in
    omega arith

pub k8_fails : ¬ PassesScreen k8
unfolding bit all_below holds projected at_most feasible keeps
k8_fails f =
    let found = f 0 (λ l b. clash b (bit_zero l)) in
    let kept : found.slots 0 + 2 ≤ found.slots 1 = leb_is _ _ (and_left _ true found.schedule.kept) in
    let last = found.schedule.within 1 (omega arith) in
    omega arith

-- ---- policies: what a crew has heard by a slot

-- it performs point 0 in slot 0 and waits
abbrev waiting : Policy
waiting u heard = record { points = cond (eqb u 0) 1 0; choices = 0 }

pub heard_by_slot :
    (heard_before k4 waiting 1 0 ≡ [])
    × (heard_before k4 waiting 1 1 ≡ record { conditions = 1; true_ones = 1 } ∷ [])
    × (heard_before k4 waiting 0 1 ≡ record { conditions = 1; true_ones = 0 } ∷ [])
    × (heard_before k4 waiting 1 2 ≡ record { conditions = 0; true_ones = 0 } ∷ (record { conditions = 1; true_ones = 1 } ∷ []))
    × (heard_before k8 waiting 1 1 ≡ record { conditions = 0; true_ones = 0 } ∷ [])
unfolding bit mask observe heard_before
heard_by_slot = (refl, refl, refl, refl, refl)

-- K5's constraints are kept where condition 0 is false and point 1 is left out: the slot of a point that is not performed is one past the
-- horizon. That is no success.
pub left_out : (keeps k5 (slot_by k5 waiting 0) (combined k5 0 (choices_by k5 waiting 0)) ≡ true) × (¬ Succeeds k5 waiting 0)
unfolding bit mask count first_below all_below holds at_most keeps feasible projected
left_out = (refl, λ s. omega (arith, s.once 1 (omega arith)))

-- ---- both ends of the horizon count

-- with horizon 0 the one slot 0 is within it
pub last_slot : Viable (network 0 1 0 the_world []) (record { time = λ cs x. 0; choice = λ cs. 0 })
unfolding projected feasible keeps
last_slot = record { within = λ cs k x h. omega arith; keeping = λ cs k. refl }

-- ---- moves that are not legal: no point, past the horizon, a point again, the slot again, a choice not disclosed, one for a condition

pub illegal :
    (¬ Legal k1 (start k1) (move 0 0 0)) × (¬ Legal k1 (start k1) (move 4 1 0))
    × (¬ Legal k1 (after k1 (start k1) (move 0 1 0) 0) (move 1 1 0)) × (¬ Legal k4 (after k4 (start k4) (move 1 1 0) 0) (move 1 2 0))
    × (¬ Legal k9 (start k9) (move 0 1 2)) × (¬ Legal k9 (start k9) (move 0 1 1))
unfolding bit mask start after
illegal = (
  λ lg. clash lg.some.2 (bit_zero lg.some.0),
  λ lg. let w = lg.within in omega arith,
  λ lg. clash (lg.not_yet 0 refl) refl,
  λ lg. let w = lg.later in omega arith,
  λ lg. clash (lg.disclosed 1 refl) refl,
  λ lg. clash (lg.disclosed 0 refl) refl,
)

-- ---- the order of moves: by slot, then points, then choices

pub ordered : Before (move 0 3 1) (move 1 1 0) × Before (move 1 1 1) (move 1 2 0) × Before (move 1 2 0) (move 1 2 1)
ordered = (inl (omega arith), inr (refl, inl (omega arith)), inr (refl, inr (refl, omega arith)))

-- ---- crews: what is reported in slot 0 is heard from it in slot 1, and not before

abbrev step : ℕ → ℕ → ℕ → ℕ → Step
step t ps ch o = record { instruction = move t ps ch; report = o }

abbrev followed : List Step
followed = step 0 1 0 1 ∷ (step 1 2 0 0 ∷ [])

pub heard_later : Some (Hears k4 1 0 true) followed × (¬ Some (Hears k4 0 0 true) followed)
unfolding bit Some
heard_later = (
  inl (omega arith, refl, refl),
  λ f. ⊎_elim
      (λ (h : Hears k4 0 0 true (step 0 1 0 1)). let b = h.0 in omega arith)
      (λ g. ⊎_elim (λ (h : Hears k4 0 0 true (step 1 2 0 0)). let b = h.0 in omega arith) (λ n. n) g)
      f,
)

-- two crews that each followed an instruction of slot 1 were not told alike in it: other points, other choices
pub told_apart : (¬ ToldAlike (step 1 1 0 0 ∷ []) (step 1 2 0 0 ∷ []) 1) × (¬ ToldAlike (step 1 1 0 0 ∷ []) (step 1 1 2 0 ∷ []) 1)
unfolding Some
told_apart = (
  λ a. ⊎_elim
      (λ s. ⊎_elim
      (λ e. ⊎_elim (λ f. omega (arith, ap (λ (m : Move). m.points) e, ap (λ (m : Move). m.points) f)) (λ n. n) s.3)
      (λ n. n) s.2)
      (λ n. n.0 (inl refl)) a,
  λ a. ⊎_elim
      (λ s. ⊎_elim
      (λ e. ⊎_elim (λ f. omega (arith, ap (λ (m : Move). m.choices) e, ap (λ (m : Move). m.choices) f)) (λ n. n) s.3)
      (λ n. n) s.2)
      (λ n. n.0 (inl refl)) a,
)

-- ---- what a crew performed and set, by its steps

-- three points: decision 1 is disclosed by point 0, condition 0 by point 1
abbrev crossed : Network
crossed =
    record { horizon = 3; points = 3; letters = 2; disclosing = λ l. cond (eqb l 0) 1 0; is_decision = mixed; constraints = [] }

-- point 0 in slot 1, where decision 1 is set true; then point 1 in slot 2, and o is reported
abbrev worked : ℕ → List Step
worked o = step 1 1 2 0 ∷ (step 2 2 0 o ∷ [])

-- both of them in slot 1, and again in slot 2 with the other values
abbrev again : List Step
again = step 1 3 2 0 ∷ (step 2 3 0 1 ∷ [])

-- how often, and in which slot: that of the first step that performs the point, 0 where none does
pub performed_by_steps :
    (times_performed (worked 1) 0 ≡ 1) × (times_performed (worked 1) 1 ≡ 1) × (times_performed (worked 1) 2 ≡ 0)
    × (times_performed again 0 ≡ 2) × (times_performed again 1 ≡ 2)
    × (slot_by_steps (worked 1) 0 ≡ 1) × (slot_by_steps (worked 1) 1 ≡ 2) × (slot_by_steps (worked 1) 2 ≡ 0)
    × (slot_by_steps again 0 ≡ 1) × (slot_by_steps again 1 ≡ 1)
unfolding bit times_performed slot_by_steps
performed_by_steps = (refl, refl, refl, refl, refl, refl, refl, refl, refl, refl)

-- the values: set by the first step that discloses the letter, false where none does
pub values_by_steps :
    (value_by_steps crossed (worked 1) 0 ≡ true) × (value_by_steps crossed (worked 0) 0 ≡ false) × (value_by_steps crossed (worked 1) 1 ≡ true)
    × (value_by_steps crossed (worked 0) 1 ≡ true) × (value_by_steps crossed again 0 ≡ false) × (value_by_steps crossed again 1 ≡ true)
    × (value_by_steps crossed [] 0 ≡ false)
unfolding bit value_by_steps
values_by_steps = (refl, refl, refl, refl, refl, refl, refl)

-- ---- a choice that uses the outcome of its own slot: a strategy for k10 that copies it is viable and not dynamic

abbrev copying : Strategy
copying = record { time = λ cs x. 0; choice = λ cs. cond (bit cs 0) 2 0 }

pub copying_viable : Viable k10 copying
unfolding bit all_below holds projected at_most feasible keeps
copying_viable =
    record {
      within = λ cs k x h. omega arith;
      keeping = λ cs k. by_test (eqb (cs % 2) 1) (λ y. rw y) (λ z. rw z);
    }

pub copying_not_dynamic : ¬ Dynamic k10 copying
unfolding bit
copying_not_dynamic d =
    let same : SameHistory k10 copying 0 1 0
    = λ l v. (λ h. absurd (not-suc-le-zero h.before), λ h. absurd (not-suc-le-zero h.before)) in
    let e : ◌≡◌ {A = Bool} true false = d.choices 1 0 one none 1 refl same in
    clash refl e
  where
    one : ConditionScenario k10 1
    one zero b = refl
    one (suc l) b = clash b (bit_zero l)

    none : ConditionScenario k10 0
    none l b = clash b (bit_zero l)
