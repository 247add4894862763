-- Theorem 2, from strategies to trees: the agent wins by following a dynamic and viable strategy, slot by slot. Only the checker need
-- believe this file.
use mathlib.Core.Path.{◌≡◌, refl, sym, ◌∙◌}
use mathlib.Core.Logic.{by_cases}
use mathlib.Core.Bool.{Bool, true, false, ◌&&◌}
use Prim.Native.Nat.{ℕ, zero, suc, ◌+◌, ◌≤◌, ◌<◌, zero-le}
use native.Mathlib.Omega.{arith}
use native.Mathlib.Nat.{not-suc-le-zero}
use native.Mathlib.Decide.{dec_lt}
use lib.Dec.{eqb}
use Rattle.network.specs.Mask.{bit, mask}
use Rattle.network.specs.Below.{any_below}
use Rattle.network.specs.Network.{Network, condition, decision}
use Rattle.network.specs.IsNetwork.{IsNetwork}
use Rattle.network.specs.Strategy.{ConditionScenario, Strategy, Viable, InHistory, SameHistory, Dynamic, DynamicallyConsistent}
use Rattle.network.specs.Game.{State, start, Move, settles, Legal, after, Over, Kept}
use Rattle.network.specs.Tree.{Tree, done, node, Sound}
use Rattle.network.specs.FirstMoves.{CanBeWon}
use Rattle.network.proofs.Booleans.{by_test, clash, and_left, and_right, differs, eqb_is}
use Rattle.network.proofs.BelowLaws.{any_at, any_make}
use Rattle.network.proofs.MaskLaws.{bit_mask, in_mask}
use Rattle.network.proofs.NetworkLaws.{decision_lt, combined_cong, keeps_cong, condition_point, decision_point}
use Rattle.network.proofs.GameLaws.{all_left, open_is, was_left, was_performed, slot_new, slot_old, heard_old, decided_new, decided_old}
use Rattle.network.proofs.TreeStrategy.{heard_scenario, start_scenario}

module _ (net : Network) (wf : IsNetwork net) (σ : Strategy) (dy : Dynamic net σ) where
  pub swap : {u c c' : ℕ} → SameHistory net σ u c c' → SameHistory net σ u c' c
  swap sh l v = ((sh l v).1, (sh l v).0)

  history_step : (u c c' : ℕ) → ConditionScenario net c → ConditionScenario net c' → SameHistory net σ u c c'
      → ((l : ℕ) → condition net l ≡ true → σ.time c (net.disclosing l) < suc u → bit c l ≡ bit c' l) → SameHistory net σ (suc u) c c'
  history_step u c c' k k' ih agree l v = (
    λ h. by_cases (dec_lt (σ.time c (net.disclosing l)) u)
        (λ lt. widen c' ((ih l v).0 (record { contingent = h.contingent; before = lt; valued = h.valued })))
        (λ ge. let b = h.before in
        let q : u ≡ σ.time c (net.disclosing l) = omega arith in
        let e = dy.times c c' k k' (net.disclosing l) (point h.contingent) (rw q at ih) in
        record { contingent = h.contingent; before = omega (arith, e); valued = sym (agree l h.contingent b) ∙ h.valued }),
    λ h. by_cases (dec_lt (σ.time c' (net.disclosing l)) u)
        (λ lt. widen c ((ih l v).1 (record { contingent = h.contingent; before = lt; valued = h.valued })))
        (λ ge. let b = h.before in
        let q : u ≡ σ.time c' (net.disclosing l) = omega arith in
        let e = dy.times c' c k' k (net.disclosing l) (point h.contingent) (rw q at (swap ih)) in
        record { contingent = h.contingent; before = omega (arith, e); valued = agree l h.contingent (omega (arith, e)) ∙ h.valued }),
  )
    where
      point : condition net l ≡ true → net.disclosing l < net.points
      point d = condition_point net wf l d

      widen : (x : ℕ) → InHistory net σ u x l v → InHistory net σ (suc u) x l v
      widen x h = let b = h.before in record { contingent = h.contingent; before = omega arith; valued = h.valued }

  -- KEY LEMMA: two scenarios that agree on what the one hears before slot u have the same history at u
  pub same_history : (u c c' : ℕ) → ConditionScenario net c → ConditionScenario net c'
      → ((l : ℕ) → condition net l ≡ true → σ.time c (net.disclosing l) < u → bit c l ≡ bit c' l) → SameHistory net σ u c c'
  same_history zero c c' k k' agree = λ l v. (λ h. absurd (not-suc-le-zero h.before), λ h. absurd (not-suc-le-zero h.before))
  same_history (suc u) c c' k k' agree =
      history_step u c c' k k' (same_history u c c' k k' (λ l d lt. agree l d (omega arith))) agree

  -- the game has followed the strategy up to slot e, for the scenario with the conditions heard so far and no other
  pub record Following (s : State) (e : ℕ) : Type 0 where
    pub scenario : ConditionScenario net s.heard
    pub clock : s.open_from ≤ e
    pub past :
        (p : ℕ) → p < net.points → bit s.left p ≡ false → (σ.time s.heard p ≡ s.slots p) × (σ.time s.heard p < e)
    pub future : (p : ℕ) → p < net.points → bit s.left p ≡ true → e ≤ σ.time s.heard p
    pub decided :
        (l : ℕ) → decision net l ≡ true → bit s.left (net.disclosing l) ≡ false →
        bit s.decided l ≡ bit (σ.choice s.heard) l

  -- whether the strategy performs p now
  abbrev pub due : State → ℕ → ℕ → Bool
  due s e p = bit s.left p && eqb (σ.time s.heard p) e

  abbrev pub due_points : State → ℕ → ℕ
  due_points s e = mask net.points (due s e)

  -- the move that the strategy makes now
  unfoldable pub move_now : State → ℕ → Move
  move_now s e = record {
    slot = e;
    points = due_points s e;
    choices = mask net.letters (λ l. (decision net l && bit (due_points s e) (net.disclosing l)) && bit (σ.choice s.heard) l);
  }

  module _ (s : State) (e : ℕ) (fo : Following s e) where
    -- nothing is due: the clock goes on
    pub wait : any_below net.points (due s e) ≡ false → Following s (suc e)
    wait n = record {
      scenario = fo.scenario;
      clock = let h = fo.clock in omega arith;
      past = λ p h b. let r = fo.past p h b in (r.0, omega arith);
      future = λ p h b. let r = fo.future p h b in
          by_test (eqb (σ.time s.heard p) e)
          (λ y. clash (any_make net.points (due s e) p h (rw (b, y))) n)
          (λ z. let d = differs _ e z in omega arith);
      decided = fo.decided;
    }

    abbrev m : Move
    m = move_now s e

    slot_now : m.slot ≡ e
    unfolding move_now
    slot_now = refl

    choice_now :
        (l : ℕ) → decision net l ≡ true → bit m.points (net.disclosing l) ≡ true →
        bit m.choices l ≡ bit (σ.choice s.heard) l
    unfolding move_now
    choice_now l d y = bit_mask net.letters _ l (decision_lt net l d) ∙ rw (d, y)

    due_left : (p : ℕ) → bit m.points p ≡ true → bit s.left p ≡ true
    unfolding move_now
    due_left p y = and_left (bit s.left p) (eqb (σ.time s.heard p) e) (in_mask net.points _ p y).1

    due_time : (p : ℕ) → bit m.points p ≡ true → σ.time s.heard p ≡ e
    unfolding move_now
    due_time p y =
        eqb_is (σ.time s.heard p) e
        (and_right (bit s.left p) (eqb (σ.time s.heard p) e) (in_mask net.points _ p y).1)

    not_due : (p : ℕ) → p < net.points → bit s.left p ≡ true → bit m.points p ≡ false → e < σ.time s.heard p
    unfolding move_now
    not_due p h b z =
        let r = fo.future p h b in
        by_test (eqb (σ.time s.heard p) e)
        (λ y. clash (bit_mask net.points (due s e) p h ∙ rw (b, y)) z)
        (λ n. let d = differs _ e n in omega arith)

    pub legal : any_below net.points (due s e) ≡ true → e ≤ net.horizon → Legal net s m
    unfolding move_now
    legal y h = let r = any_at net.points (due s e) y in record {
      later = fo.clock;
      within = h;
      some = (r.0, r.1, bit_mask net.points (due s e) r.0 r.1 ∙ r.2);
      not_yet = due_left;
      disclosed = λ l b. and_left (settles net m l) (bit (σ.choice s.heard) l) (in_mask net.letters _ l b).1;
    }

    module _ (o : ℕ) where
      abbrev c : ℕ
      c = s.heard

      abbrev c' : ℕ
      c' = (after net s m o).heard

      scenario' : ConditionScenario net c'
      scenario' = heard_scenario net wf s m o fo.scenario

      -- what was heard before slot e stays
      agree : (l : ℕ) → condition net l ≡ true → σ.time c (net.disclosing l) < e → bit c l ≡ bit c' l
      agree l d lt =
          let x = net.disclosing l in
          sym (heard_old net s m o l d (by_test (bit m.points x) (λ y. let q = due_time x y in absurd (omega arith)) (λ n. n)))

      history : (u : ℕ) → u ≤ e → SameHistory net σ u c c'
      history u h = same_history u c c' fo.scenario scenario' (λ l d lt. agree l d (omega arith))

      -- what happens up to slot e is the same, whatever is heard after it
      settled : (p : ℕ) → p < net.points → σ.time c p ≤ e → σ.time c' p ≡ σ.time c p
      settled p h le = dy.times c c' fo.scenario scenario' p h (history (σ.time c p) le)

      settled_choice :
          (l : ℕ) → decision net l ≡ true → σ.time c (net.disclosing l) ≤ e → bit (σ.choice c) l ≡ bit (σ.choice c') l
      settled_choice l d le = dy.choices c c' fo.scenario scenario' l d (history (σ.time c (net.disclosing l)) le)

      pub next : Following (after net s m o) (suc e)
      next = record {
        scenario = scenario';
        clock = let q = open_is net s m o in let r = slot_now in omega arith;
        past = λ p h b. by_test (bit m.points p)
            (λ y. let q = due_time p y in
            let r = settled p h (omega arith) in
            (r ∙ q ∙ sym slot_now ∙ sym (slot_new net s m o p y), omega arith))
            (λ n. let g = fo.past p h (was_performed net s m o p h b n) in
            let g1 = g.1 in
            let r = settled p h (omega arith) in
            (r ∙ g.0 ∙ sym (slot_old net s m o p n), omega arith));
        future = λ p h b.
            let w = was_left net s m o p h b in
            let nd = not_due p h w.0 w.1 in
            by_cases (dec_lt e (σ.time c' p))
            (λ lt. lt)
            (λ ge. let q = swap (history (σ.time c' p) (omega arith)) in
            let r = dy.times c' c scenario' fo.scenario p h q in
            absurd (omega arith));
        decided = λ l d b.
            let x = net.disclosing l in
            let h = decision_point net wf l d in
            by_test (bit m.points x)
            (λ y. let q = due_time x y in
            decided_new net s m o l d y ∙ choice_now l d y ∙ settled_choice l d (omega arith))
            (λ n. let gone = was_performed net s m o x h b n in
            let g = (fo.past x h gone).1 in
            decided_old net s m o l d n ∙ fo.decided l d gone ∙ settled_choice l d (omega arith));
      }

  module _ (vi : Viable net σ) where
    pub kept_at_end : (s : State) (e : ℕ) → Following s e → Over net s → Kept net s
    kept_at_end s e fo over =
        keeps_cong net wf _ _ _ _ (λ p h. sym (fo.past p h (over p h)).0)
        (combined_cong net _ _ _ _ (λ l d. refl) (λ l d. fo.decided l d (over (net.disclosing l) (decision_point net wf l d))))
        ∙ vi.keeping s.heard fo.scenario

    -- the clock is past the horizon: all is performed
    pub all_performed : (s : State) (e : ℕ) → net.horizon < e → Following s e → Over net s
    all_performed s e late fo p h = by_test (bit s.left p)
        (λ y. let a = fo.future p h y in let b = vi.within s.heard fo.scenario p h in absurd (omega arith)) (λ n. n)

    follow : (n e : ℕ) → e + n ≡ suc net.horizon → (s : State) → Following s e → (t : Tree) × Sound net (Kept net) t s
    unfolding Sound
    follow zero e q s fo = let ov = all_performed s e (omega arith) fo in (done, (ov, kept_at_end s e fo ov))
    follow (suc n) e q s fo =
        by_test (any_below net.points (due s e))
        (λ y. (
          node (move_now s e) (λ o. (follow n (suc e) (omega arith) (after net s (move_now s e) o) (next s e fo o)).0),
          (legal s e fo y (omega arith), λ o k. (follow n (suc e) (omega arith) (after net s (move_now s e) o) (next s e fo o)).1),
        ))
        (λ z. follow n (suc e) (omega arith) s (wait s e fo z))

  -- the start
  pub begin : Following (start net) 0
  unfolding start
  begin = record {
    scenario = start_scenario net wf;
    clock = zero-le;
    past = λ p h b. clash (all_left net p h) b;
    future = λ p h b. zero-le;
    decided = λ l d b. clash (all_left net (net.disclosing l) (decision_point net wf l d)) b;
  }

-- from any dynamic and viable strategy the game is won
pub consistent→won : (net : Network) → IsNetwork net → DynamicallyConsistent net → CanBeWon net (start net)
consistent→won net wf k =
    let r = follow net wf k.strategy k.dynamic k.viable (suc net.horizon) 0 (omega arith) (start net)
    (begin net wf k.strategy k.dynamic) in
    record { tree = r.0; sound = r.1 }
