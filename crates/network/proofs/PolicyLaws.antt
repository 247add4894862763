-- Theorem 5: some policy always succeeds exactly where some strategy is dynamic and viable. Only the checker need believe this file.
use mathlib.Core.Path.{◌≡◌, refl, sym, ap, ◌∙◌, subst}
use mathlib.Core.Logic.{◌↔◌, by_cases}
use mathlib.Core.List.{List, [], ◌∷◌}
use mathlib.Core.Bool.{Bool, true, false, ◌&&◌, ◌||◌, and-false}
use Prim.Native.Nat.{ℕ, zero, suc, ◌≤◌, ◌<◌}
use native.Mathlib.Omega.{arith}
use native.Mathlib.Nat.{not-suc-le-zero}
use native.Mathlib.Decide.{dec_lt, ℕ_discrete}
use lib.Dec.{eqb, ltb}
use Rattle.network.specs.Mask.{bit, mask}
use Rattle.network.specs.Below.{any_below}
use Rattle.network.specs.Network.{Network, condition, decision}
use Rattle.network.specs.IsNetwork.{IsNetwork}
use Rattle.network.specs.Strategy.{ConditionScenario, Strategy, Viable, SameHistory, Dynamic, DynamicallyConsistent}
use Rattle.network.specs.Policy.{Action, Observation, Policy, observe, heard_before, action_in, performs_in, slot_by, choices_by, Succeeds, SucceedsAlways}
use Rattle.network.proofs.Booleans.{by_test, and_left, and_right, ltb_yes, ltb_no, eqb_yes, eqb_no, eqb_is}
use Rattle.network.proofs.BelowLaws.{any_make, first_at, first_le, first_same, count_cong, any_counted, count_one}
use Rattle.network.proofs.MaskLaws.{bit_mask, in_mask, mask_cong}
use Rattle.network.proofs.NetworkLaws.{condition_lt, decision_lt, combined_cong, keeps_cong, condition_point, decision_point}
use Rattle.network.proofs.StrategyTree.{same_history, swap}

-- ---- from a policy to a strategy

module _ (net : Network) (wf : IsNetwork net) (π : Policy) where
  observe_eq :
      (a : Action) (cs cs' : ℕ) →
      ((l : ℕ) → condition net l ≡ true → bit a.points (net.disclosing l) ≡ true → bit cs l ≡ bit cs' l) →
      observe net a cs ≡ observe net a cs'
  unfolding observe
  observe_eq a cs cs' h =
      let disclosed : ℕ → Bool = λ l. condition net l && bit a.points (net.disclosing l) in
      ap (λ (x : ℕ). record { conditions = mask net.letters disclosed; true_ones = x })
      (mask_cong net.letters _ _ (λ l lt. by_test (disclosed l)
      (λ y. rw (h l (and_left (condition net l) _ y) (and_right (condition net l) (bit a.points (net.disclosing l)) y)))
      (λ n. rw n)))

  -- what is heard before slot u is the same where the conditions heard by then are
  heard_same :
      (u cs cs' : ℕ) → ((l : ℕ) → condition net l ≡ true → slot_by net π cs (net.disclosing l) < u → bit cs l ≡ bit cs' l) →
      heard_before net π cs u ≡ heard_before net π cs' u
  unfolding heard_before
  heard_same zero cs cs' h = refl
  heard_same (suc u) cs cs' h =
      let old = heard_before net π cs u in
      let ih = heard_same u cs cs' (λ l c lt. h l c (omega arith)) in
      subst (λ (x : List Observation). observe net (π u old) cs ∷ old ≡ observe net (π u x) cs' ∷ x) ih
      (ap (λ (y : Observation). y ∷ old) (observe_eq (π u old) cs cs'
      (λ l c y. h l c (let r = first_le (suc net.horizon) (performs_in net π cs (net.disclosing l)) u y in omega arith))))

  module _ (win : SucceedsAlways net π) where
    -- the strategy that the policy carries out
    abbrev σ : Strategy
    σ = record { time = slot_by net π; choice = choices_by net π }

    somewhere :
        (cs : ℕ) → ConditionScenario net cs → (x : ℕ) → x < net.points →
        any_below (suc net.horizon) (performs_in net π cs x) ≡ true
    somewhere cs k x h = any_counted (suc net.horizon) (performs_in net π cs x) ((win cs k).once x h)

    module _
        (cs cs' : ℕ) (k : ConditionScenario net cs) (x : ℕ) (h : x < net.points)
        (sh : SameHistory net σ (slot_by net π cs x) cs cs') where
      same_heard : (u : ℕ) → u ≤ slot_by net π cs x → heard_before net π cs u ≡ heard_before net π cs' u
      same_heard u le =
          heard_same u cs cs' (λ l c lt.
          sym ((sh l (bit cs l)).0 (record { contingent = c; before = omega arith; valued = refl })).valued)

      same_action : (u : ℕ) → u ≤ slot_by net π cs x → action_in net π cs u ≡ action_in net π cs' u
      same_action u le = ap (π u) (same_heard u le)

      same_slot : slot_by net π cs' x ≡ slot_by net π cs x
      same_slot = first_same (suc net.horizon) (performs_in net π cs x) (performs_in net π cs' x) (somewhere cs k x h)
          (λ u le. ap (λ (d : Action). bit d.points x) (same_action u le))

    pub succeeds→consistent : DynamicallyConsistent net
    succeeds→consistent = record {
      strategy = σ;
      viable = record {
        within = λ cs k x h. let r = first_at (suc net.horizon) (performs_in net π cs x) (somewhere cs k x h) in omega (arith, r.0);
        keeping = λ cs k. (win cs k).keeping;
      };
      dynamic = record {
        times = λ cs cs' k k' x h sh. same_slot cs cs' k x h sh;
        choices = λ cs cs' k k' l d sh.
            let h = decision_point net wf l d in
            let t = slot_by net π cs (net.disclosing l) in
            bit_mask net.letters _ l (decision_lt net l d)
            ∙ ap (λ (x : Bool). decision net l && x)
            (ap (λ (e : Action). bit e.choices l) (same_action cs cs' k (net.disclosing l) h sh t (omega arith))
            ∙ ap (λ (u : ℕ). bit (action_in net π cs' u).choices l) (sym (same_slot cs cs' k (net.disclosing l) h sh)))
            ∙ sym (bit_mask net.letters _ l (decision_lt net l d));
      };
    }

-- ---- from a strategy to a policy

-- performed now, or before
now_or_before : (t u : ℕ) (b : Bool) → ((eqb t u && b) || (ltb t u && b)) ≡ (ltb t (suc u) && b)
now_or_before t u false = rw (and-false (eqb t u), and-false (ltb t u), and-false (ltb t (suc u)))
now_or_before t u true =
    by_cases (dec_lt t u)
    (λ lt. rw (eqb_no t u (λ e. omega arith), ltb_yes t u lt, ltb_yes t (suc u) (omega arith)))
    (λ ge. by_cases (ℕ_discrete t u)
    (λ e. rw (eqb_yes t u e, ltb_yes t (suc u) (omega arith)))
    (λ ne. rw (eqb_no t u ne, ltb_no t u ge, ltb_no t (suc u) (λ h. ne (omega arith)))))

-- a letter is heard true
true_in : List Observation → ℕ → Bool
true_in [] l = false
true_in (x ∷ xs) l = bit x.true_ones l || true_in xs l

module _ (net : Network) (wf : IsNetwork net) (σ : Strategy) (dy : Dynamic net σ) (vi : Viable net σ) where
  -- the scenario with the conditions heard true so far, and no other
  abbrev known : List Observation → ℕ
  known ns = mask net.letters (λ l. condition net l && true_in ns l)

  -- do now what the strategy does now in that scenario
  abbrev policy_of : Policy
  policy_of u ns = record { points = mask net.points (λ x. eqb (σ.time (known ns) x) u); choices = σ.choice (known ns) }

  known_cs : (ns : List Observation) → ConditionScenario net (known ns)
  known_cs ns l b = and_left (condition net l) (true_in ns l) (in_mask net.letters _ l b).1

  module _ (cs : ℕ) (k : ConditionScenario net cs) where
    abbrev before : ℕ → List Observation
    before u = heard_before net policy_of cs u

    abbrev Seen : ℕ → Type 0
    Seen u = (l : ℕ) → condition net l ≡ true → true_in (before u) l ≡ (ltb (σ.time cs (net.disclosing l)) u && bit cs l)

    module _ (u : ℕ) (seen : Seen u) where
      agree : (l : ℕ) → condition net l ≡ true → σ.time cs (net.disclosing l) < u → bit cs l ≡ bit (known (before u)) l
      agree l c lt =
          sym (bit_mask net.letters _ l (condition_lt net l c) ∙ rw (c, seen l c, ltb_yes (σ.time cs (net.disclosing l)) u lt))

      history : (v : ℕ) → v ≤ u → SameHistory net σ v cs (known (before u))
      history v le = same_history net wf σ dy v cs (known (before u)) k (known_cs (before u)) (λ l c lt. agree l c (omega arith))

      performs_is : (x : ℕ) → x < net.points → performs_in net policy_of cs x u ≡ eqb (σ.time cs x) u
      performs_is x h =
          let c = known (before u) in
          let kc = known_cs (before u) in
          bit_mask net.points _ x h
          ∙ by_cases (dec_lt u (σ.time cs x))
          (λ late. eqb_no (σ.time c x) u
          (λ e. let r = dy.times c cs kc k x h (swap net wf σ dy (history (σ.time c x) (omega arith))) in absurd (omega arith))
          ∙ sym (eqb_no (σ.time cs x) u (λ e. omega arith)))
          (λ by-now. ap (λ (v : ℕ). eqb v u) (dy.times cs c k kc x h (history (σ.time cs x) (omega arith))))

    seen : (u : ℕ) → Seen u
    unfolding heard_before observe true_in
    seen zero l c = rw (ltb_no (σ.time cs (net.disclosing l)) zero (λ h. absurd (not-suc-le-zero h)))
    seen (suc u) l c =
        let x = net.disclosing l in
        let t = σ.time cs x in
        let now : Bool = bit (action_in net policy_of cs u).points x in
        let e : bit (observe net (action_in net policy_of cs u) cs).true_ones l ≡ (eqb t u && bit cs l)
        = bit_mask net.letters _ l (condition_lt net l c)
        ∙ ap (λ (b : Bool). (b && now) && bit cs l) c
        ∙ ap (λ (b : Bool). b && bit cs l) (performs_is u (seen u) x (condition_point net wf l c)) in
        ap (λ (b : Bool). b || true_in (before u) l) e
        ∙ ap (λ (b : Bool). (eqb t u && bit cs l) || b) (seen u l c)
        ∙ now_or_before t u (bit cs l)

    does : (x : ℕ) → x < net.points → (u : ℕ) → performs_in net policy_of cs x u ≡ eqb (σ.time cs x) u
    does x h u = performs_is u (seen u) x h

    slot_by_lem : (x : ℕ) → x < net.points → slot_by net policy_of cs x ≡ σ.time cs x
    slot_by_lem x h =
        let t = σ.time cs x in
        let y : performs_in net policy_of cs x t ≡ true = does x h t ∙ eqb_yes t t refl in
        let w = vi.within cs k x h in
        let n = suc net.horizon in
        let f = first_at n (performs_in net policy_of cs x) (any_make n (performs_in net policy_of cs x) t (omega arith) y) in
        sym (eqb_is t (slot_by net policy_of cs x) (sym (does x h (slot_by net policy_of cs x)) ∙ f.1))

    succeeds : Succeeds net policy_of cs
    succeeds = record {
      once = λ x h. count_cong (suc net.horizon) (performs_in net policy_of cs x) (λ u. eqb (σ.time cs x) u) (λ u lt. does x h u)
          ∙ count_one (suc net.horizon) (σ.time cs x) (let w = vi.within cs k x h in omega arith);
      keeping = keeps_cong net wf _ _ _ _ (λ x h. slot_by_lem x h) (combined_cong net _ _ _ _ (λ l c. refl) (λ l d.
          let h = decision_point net wf l d in
          let t = σ.time cs (net.disclosing l) in
          bit_mask net.letters _ l (decision_lt net l d)
          ∙ ap (λ (x : Bool). x && bit (action_in net policy_of cs (slot_by net policy_of cs (net.disclosing l))).choices l) d
          ∙ ap (λ (v : ℕ). bit (action_in net policy_of cs v).choices l) (slot_by_lem (net.disclosing l) h)
          ∙ sym (dy.choices cs (known (before t)) k (known_cs (before t)) l d (history t (seen t) t (omega arith)))))
          ∙ vi.keeping cs k;
    }

pub policy_exactly : (net : Network) → IsNetwork net → ((π : Policy) × SucceedsAlways net π) ↔ DynamicallyConsistent net
policy_exactly net wf = (
  λ r. succeeds→consistent net wf r.0 r.1,
  λ c. (policy_of net wf c.strategy c.dynamic c.viable, λ cs k. succeeds net wf c.strategy c.dynamic c.viable cs k),
)
