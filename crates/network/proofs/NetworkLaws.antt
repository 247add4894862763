-- Laws of networks: kinds of letters, and what `keeps` looks at. Only the checker need believe this file.
use mathlib.Core.Path.{◌≡◌, refl}
use mathlib.Core.Logic.{◌↔◌}
use mathlib.Core.List.{List, [], ◌∷◌}
use mathlib.Core.Bool.{true, false, not, ◌&&◌}
use Prim.Native.Nat.{ℕ, ◌<◌}
use native.Mathlib.Omega.{arith}
use lib.Dec.{ltb}
use Rattle.network.specs.Mask.{bit}
use Rattle.network.specs.Network.{Label, Constraint, Network, Scenario, Schedule, condition, decision, combined, holds, projected, satisfies, feasible, keeps}
use Rattle.network.specs.LabelTest.{AllAgree}
use Rattle.network.specs.IsNetwork.{Each, InNetwork, IsNetwork}
use Rattle.network.proofs.Booleans.{by_test, clash, not_true, and_left, and_right, and_make, beq_is, beq_yes, ltb_yes, ltb_is}
use Rattle.network.proofs.BelowLaws.{all_at, all_make, all_cong}

-- a label holds exactly where each letter that it needs has the value shown
pub agree_exactly : (s : Scenario) (label : Label) → (holds s label ≡ true) ↔ AllAgree s label
unfolding holds
agree_exactly s label = (
  λ t l lt y. beq_is (s l) (bit label.truth l) (rw y at (all_at 8 _ t l lt)),
  λ h. all_make 8 _ (λ l lt. by_test (bit label.need l)
      (λ y. rw y (beq_yes (s l) (bit label.truth l) (h l lt y)))
      (λ z. rw z)),
)

module _ (net : Network) where
  -- ---- kinds of letters

  pub condition_lt : (l : ℕ) → condition net l ≡ true → l < net.letters
  condition_lt l c = ltb_is l net.letters (and_left (ltb l net.letters) (not (net.is_decision l)) c)

  pub decision_lt : (l : ℕ) → decision net l ≡ true → l < net.letters
  decision_lt l d = ltb_is l net.letters (and_left (ltb l net.letters) (net.is_decision l) d)

  pub condition_point : IsNetwork net → (l : ℕ) → condition net l ≡ true → net.disclosing l < net.points
  condition_point wf l c = wf.disclosed l (condition_lt l c)

  pub decision_point : IsNetwork net → (l : ℕ) → decision net l ≡ true → net.disclosing l < net.points
  decision_point wf l d = wf.disclosed l (decision_lt l d)

  pub condition_of : (l : ℕ) → l < net.letters → net.is_decision l ≡ false → condition net l ≡ true
  condition_of l h e = rw (ltb_yes l net.letters h, e)

  pub decision_of : (l : ℕ) → l < net.letters → net.is_decision l ≡ true → decision net l ≡ true
  decision_of l h e = rw (ltb_yes l net.letters h, e)

  -- a letter is of one kind
  pub not_decision : (l : ℕ) → condition net l ≡ true → net.is_decision l ≡ false
  not_decision l c = not_true (net.is_decision l) (and_right (ltb l net.letters) (not (net.is_decision l)) c)

  pub one_kind : {C : Type 0} (l : ℕ) → condition net l ≡ true → decision net l ≡ true → C
  one_kind l c d = clash (and_right (ltb l net.letters) (net.is_decision l) d) (not_decision l c)

  -- two pairs of a condition scenario and a decision scenario that agree on the letters that they set
  pub combined_cong :
      (cs cs' ds ds' : ℕ) → ((l : ℕ) → condition net l ≡ true → bit cs l ≡ bit cs' l) →
      ((l : ℕ) → decision net l ≡ true → bit ds l ≡ bit ds' l) → (l : ℕ) → l < net.letters →
      combined net cs ds l ≡ combined net cs' ds' l
  combined_cong cs cs' ds ds' hc hd l lt =
      by_test (net.is_decision l)
      (λ e. rw (e, hd l (decision_of l lt e)))
      (λ e. rw (e, hc l (condition_of l lt e)))

  -- ---- what `keeps` looks at

  -- each constraint whose label holds is kept
  abbrev pub KeepsEach : Schedule → Scenario → List Constraint → Type 0
  KeepsEach ψ s = Each (λ c. holds s c.label ≡ true → satisfies ψ c ≡ true)

  each_kept : (ψ : Schedule) (s : Scenario) (cs : List Constraint) → feasible ψ (projected s cs) ≡ true → KeepsEach ψ s cs
  unfolding projected feasible Each
  each_kept ψ s [] k = tt
  each_kept ψ s (c ∷ cs) k =
      by_test (holds s c.label)
      (λ y. let q : (satisfies ψ c && feasible ψ (projected s cs)) ≡ true = rw y at k in (
        λ t. and_left (satisfies ψ c) (feasible ψ (projected s cs)) q,
        each_kept ψ s cs (and_right (satisfies ψ c) (feasible ψ (projected s cs)) q),
      ))
      (λ z. let q : feasible ψ (projected s cs) ≡ true = rw z at k in
      (λ t. clash t z, each_kept ψ s cs q))

  kept_each : (ψ : Schedule) (s : Scenario) (cs : List Constraint) → KeepsEach ψ s cs → feasible ψ (projected s cs) ≡ true
  unfolding projected feasible Each
  kept_each ψ s [] k = refl
  kept_each ψ s (c ∷ cs) k =
      by_test (holds s c.label)
      (λ y. rw y (and_make (k.0 y) (kept_each ψ s cs k.1)))
      (λ z. rw z (kept_each ψ s cs k.1))

  pub keeps_is : (ψ : Schedule) (s : Scenario) → (keeps net ψ s ≡ true) ↔ KeepsEach ψ s net.constraints
  unfolding keeps
  keeps_is ψ s = (each_kept ψ s net.constraints, kept_each ψ s net.constraints)

  -- the label test, in document 01's words: each letter in "need" has the value that "true" shows
  pub holds_exactly :
      IsNetwork net → (s : Scenario) (c : Constraint) → InNetwork net c →
      (holds s c.label ≡ true) ↔ ((l : ℕ) → bit c.label.need l ≡ true → s l ≡ bit c.label.truth l)
  holds_exactly wf s c in-net =
      let few = wf.letters_in_a_byte in (
        λ t l y. let lt = in-net.over_letters l y in (agree_exactly s c.label).0 t l (omega arith) y,
        λ h. (agree_exactly s c.label).1 (λ l lt y. h l y),
      )

  -- the label test looks only at the values of the letters that it needs
  pub holds_cong : (s s' : Scenario) (b : Label) → ((l : ℕ) → bit b.need l ≡ true → s l ≡ s' l) → holds s b ≡ holds s' b
  unfolding holds
  holds_cong s s' b h = all_cong 8 _ _ (λ l lt. by_test (bit b.need l) (λ y. rw (y, h l y)) (λ z. rw z))

  feasible_cong :
      (ψ ψ' : Schedule) (s s' : Scenario) → ((x : ℕ) → x < net.points → ψ x ≡ ψ' x) →
      ((l : ℕ) → l < net.letters → s l ≡ s' l) → (cs : List Constraint) → Each (InNetwork net) cs →
      feasible ψ (projected s cs) ≡ feasible ψ' (projected s' cs)
  unfolding projected feasible Each
  feasible_cong ψ ψ' s s' hx hl [] k = refl
  feasible_cong ψ ψ' s s' hx hl (c ∷ cs) k =
      let r = feasible_cong ψ ψ' s s' hx hl cs k.1 in
      rw (holds_cong s s' c.label (λ l y. hl l (k.0.over_letters l y))) (by_test (holds s' c.label)
      (λ y. rw (y, hx c.from k.0.from_point, hx c.to k.0.to_point, r))
      (λ z. rw (z, r)))

  -- `keeps` looks only at the slots of the points and at the values of the letters
  pub keeps_cong :
      IsNetwork net → (ψ ψ' : Schedule) (s s' : Scenario) → ((x : ℕ) → x < net.points → ψ x ≡ ψ' x) →
      ((l : ℕ) → l < net.letters → s l ≡ s' l) → keeps net ψ s ≡ keeps net ψ' s'
  unfolding keeps
  keeps_cong wf ψ ψ' s s' hx hl = feasible_cong ψ ψ' s s' hx hl net.constraints wf.in_network
