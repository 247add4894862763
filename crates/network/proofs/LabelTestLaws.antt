-- Laws of the label test by the letters known so far: each of its three answers exactly, and what it looks at. Only the checker need believe
-- this file.
use mathlib.Core.Path.{◌≡◌, refl, ap}
use mathlib.Core.Logic.{◌↔◌}
use mathlib.Core.Bool.{Bool, true, false, not, cond, ◌||◌, beq}
use Prim.Native.Nat.{ℕ}
use Rattle.network.specs.Mask.{bit}
use Rattle.network.specs.Network.{Label, Scenario, holds}
use Rattle.network.specs.LabelTest.{Tested, Holds, Fails, Open, Disagrees, AllKnown, AllAgree, LabelTest}
use Rattle.network.specs.TestLabel.{disagrees_at, disagrees, all_known, label_test, is_holds}
use Rattle.network.proofs.Booleans.{by_test, clash, not_true, and_left, and_right, both_ways, beq_is, beq_yes, false_exactly}
use Rattle.network.proofs.BelowLaws.{all_at, all_make, any_at, any_make, any_cong}
use Rattle.network.proofs.NetworkLaws.{agree_exactly}

-- whether the answer is that the label fails
abbrev is_fails : Tested → Bool
is_fails Holds = false
is_fails Fails = true
is_fails Open = false

pub is_holds_lem : (t : Tested) → is_holds t ≡ true → t ≡ Holds
is_holds_lem Holds e = refl
is_holds_lem Fails e = clash e refl
is_holds_lem Open e = clash e refl

-- the answer by two tests: whether some letter disagrees, whether all are known
abbrev answer : Bool → Bool → Tested
answer a b = cond a Fails (cond b Holds Open)

answer_fails : (a b : Bool) → (answer a b ≡ Fails) ↔ (a ≡ true)
answer_fails true b = (λ e. refl, λ e. refl)
answer_fails false true = (λ e. ap is_fails e, λ e. clash e refl)
answer_fails false false = (λ e. ap is_fails e, λ e. clash e refl)

answer_holds : (a b : Bool) → (answer a b ≡ Holds) ↔ ((a ≡ false) × (b ≡ true))
answer_holds true b = (λ e. clash refl (ap is_fails e), λ e. clash refl e.0)
answer_holds false true = (λ e. (refl, refl), λ e. refl)
answer_holds false false = (λ e. (refl, ap is_holds e), λ e. clash e.1 refl)

answer_open : (a b : Bool) → (answer a b ≡ Open) ↔ ((a ≡ false) × (b ≡ false))
answer_open true b = (λ e. clash refl (ap is_fails e), λ e. clash refl e.0)
answer_open false true = (λ e. clash refl (ap is_holds e), λ e. clash refl e.1)
answer_open false false = (λ e. (refl, refl), λ e. refl)

module _ (known : ℕ) (s : Scenario) (label : Label) where
  -- ---- the two tests

  disagrees_exactly : (disagrees known s label ≡ true) ↔ Disagrees known s label
  unfolding disagrees
  disagrees_exactly = (
    λ y. let a = any_at 8 (disagrees_at known s label) y in
        let l = a.0 in
        let k = and_right (bit label.need l) _ a.2 in
        let differ = not_true (beq (s l) (bit label.truth l)) (and_right (bit known l) _ k) in
        (l, a.1, and_left (bit label.need l) _ a.2, and_left (bit known l) _ k, λ e. clash (beq_yes _ _ e) differ),
    λ d. any_make 8 (disagrees_at known s label) d.0 d.1 (rw (d.2, d.3)
        (by_test (beq (s d.0) (bit label.truth d.0)) (λ y. absurd (d.4 (beq_is _ _ y))) (λ z. rw z))),
  )

  all_known_exactly : (all_known known label ≡ true) ↔ AllKnown known label
  unfolding all_known
  all_known_exactly = (
    λ y l lt n. rw n at (all_at 8 (λ l. not (bit label.need l) || bit known l) y l lt),
    λ k. all_make 8 _ (λ l lt. by_test (bit label.need l) (λ n. rw (n, k l lt n)) (λ n. rw n)),
  )

  -- where all are known, none disagrees exactly where all agree
  none_disagrees : AllKnown known label → (disagrees known s label ≡ false) ↔ (holds s label ≡ true)
  none_disagrees k = (
    λ z. (agree_exactly s label).1 (λ l lt n. by_test (beq (s l) (bit label.truth l))
        (λ y. beq_is _ _ y)
        (λ d. absurd ((false_exactly disagrees_exactly).0 z (l, lt, n, k l lt n, λ e. clash (beq_yes _ _ e) d)))),
    λ y. (false_exactly disagrees_exactly).1 (λ d. d.4 ((agree_exactly s label).0 y d.0 d.1 d.2)),
  )

  -- ---- the three answers

  fails_exactly : (label_test known s label ≡ Fails) ↔ Disagrees known s label
  unfolding label_test
  fails_exactly =
      let a = answer_fails (disagrees known s label) (all_known known label) in
      (λ e. disagrees_exactly.0 (a.0 e), λ d. a.1 (disagrees_exactly.1 d))

  pub tested_holds : (label_test known s label ≡ Holds) ↔ (AllKnown known label × AllAgree s label)
  unfolding label_test
  tested_holds = (
    λ e. let h = (answer_holds (disagrees known s label) (all_known known label)).0 e in
        let k = all_known_exactly.0 h.1 in
        (k, (agree_exactly s label).0 ((none_disagrees k).0 h.0)),
    λ h. (answer_holds _ _).1 ((none_disagrees h.0).1 ((agree_exactly s label).1 h.1), all_known_exactly.1 h.0),
  )

  open_exactly : (label_test known s label ≡ Open) ↔ ((¬ Disagrees known s label) × (¬ (AllKnown known label × AllAgree s label)))
  unfolding label_test
  open_exactly = (
    λ e. let h = (answer_open (disagrees known s label) (all_known known label)).0 e in
        ((false_exactly disagrees_exactly).0 h.0, λ a. (false_exactly all_known_exactly).0 h.1 a.0),
    λ h. let z = (false_exactly disagrees_exactly).1 h.0 in
        (answer_open _ _).1 (z, (false_exactly all_known_exactly).1 (λ k. h.1 (k, (agree_exactly s label).0 ((none_disagrees k).0 z)))),
  )

  -- ---- with all letters of the label known

  never_open : AllKnown known label → ¬ (label_test known s label ≡ Open)
  never_open k e = let o = open_exactly.0 e in o.1 (k, (agree_exactly s label).0 ((none_disagrees k).0 ((false_exactly disagrees_exactly).1 o.0)))

  pub holds_all_known : AllKnown known label → (label_test known s label ≡ Holds) ↔ (holds s label ≡ true)
  holds_all_known k = (λ e. (agree_exactly s label).1 (tested_holds.0 e).1, λ y. tested_holds.1 (k, (agree_exactly s label).0 y))

  pub tested_all : AllKnown known label → is_holds (label_test known s label) ≡ holds s label
  tested_all k = both_ways _ _ (λ y. (holds_all_known k).0 (is_holds_lem _ y)) (λ y. ap is_holds ((holds_all_known k).1 y))

  fails_all_known : AllKnown known label → (label_test known s label ≡ Fails) ↔ (holds s label ≡ false)
  fails_all_known k = (
    λ e. (false_exactly (agree_exactly s label)).1 (λ a. let d = fails_exactly.0 e in d.4 (a d.0 d.1 d.2)),
    λ z. fails_exactly.1 (by_test (disagrees known s label) disagrees_exactly.0 (λ n. clash ((none_disagrees k).0 n) z)),
  )

-- the test looks only at the values of the letters known
pub tested_cong :
    (known : ℕ) (s s' : Scenario) (label : Label) → ((l : ℕ) → bit label.need l ≡ true → bit known l ≡ true → s l ≡ s' l) →
    label_test known s label ≡ label_test known s' label
unfolding label_test disagrees
tested_cong known s s' label h =
    ap (λ (b : Bool). cond b Fails (cond (all_known known label) Holds Open))
    (any_cong 8 (disagrees_at known s label) (disagrees_at known s' label) (λ l lt. by_test (bit label.need l)
    (λ n. by_test (bit known l) (λ k. rw (n, k, h l n k)) (λ k. rw (n, k)))
    (λ n. rw n)))

-- Card 1: the computed test is the one that the card asks for.
pub label_test_lem : LabelTest label_test
label_test_lem =
    record {
      fails_exactly = fails_exactly;
      holds_exactly = tested_holds;
      open_exactly = open_exactly;
      never_open = never_open;
      holds_all_known = holds_all_known;
      fails_all_known = fails_all_known;
    }
