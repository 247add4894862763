-- Theorem 1: the strategy that a tree describes is dynamic, and it is viable just where every path keeps. Only the checker need believe
-- this file.
use mathlib.Core.Path.{◌≡◌, refl, sym, ◌∙◌, subst}
use mathlib.Core.Logic.{◌↔◌}
use mathlib.Core.Bool.{true, false}
use Prim.Native.Nat.{ℕ, ◌<◌}
use Rattle.network.specs.Mask.{bit}
use Rattle.network.specs.Network.{Network, condition, combined, keeps}
use Rattle.network.specs.IsNetwork.{IsNetwork}
use Rattle.network.specs.Strategy.{ConditionScenario, Viable, SameHistory, Dynamic, DynamicallyConsistent}
use Rattle.network.specs.Game.{State, start, Move, hears, Legal, Outcome, after, Kept}
use Rattle.network.specs.Tree.{Tree, done, node, Sound, Shaped, outcome_of, play, strategy_of}
use Rattle.network.specs.Walks.{Wins}
use Rattle.network.proofs.Booleans.{by_test, clash}
use Rattle.network.proofs.MaskLaws.{bit_zero, bits_ext, in_mask}
use Rattle.network.proofs.NetworkLaws.{combined_cong, keeps_cong, condition_point, decision_point}
use Rattle.network.proofs.GameLaws.{heard_condition, heard_point, outcome_outside, all_left, performed, stays_performed, heard_new, heard_old, not_again}
use Rattle.network.proofs.PathLaws.{AgreeBefore, outcome_is, outcome_at_lem, slot_open, ends, heard_is, same}

module _ (net : Network) (wf : IsNetwork net) where
  module _ (End : State → Type 0) (t : Tree) (sd : Sound net End t (start net)) where
    -- a sound tree describes a dynamic strategy
    pub dynamic : Dynamic net (strategy_of net t)
    unfolding strategy_of
    dynamic =
        record {
          times = λ cs cs' k k' x h sh. (same net wf End t (start net) cs cs' x sd h (all_left net x h) (agree cs cs' x sh)).slot;
          choices = λ cs cs' k k' l d sh.
              let x = net.disclosing l in
              let h = decision_point net wf l d in
              (same net wf End t (start net) cs cs' x sd h (all_left net x h) (agree cs cs' x sh)).choice l d refl;
        }
      where
        agree :
            (cs cs' x : ℕ) → SameHistory net (strategy_of net t) ((strategy_of net t).time cs x) cs cs' →
            AgreeBefore net wf t (start net) cs cs' x
        agree cs cs' x sh l c z lt = sym ((sh l (bit cs l)).0 (record { contingent = c; before = lt; valued = refl })).valued

    -- the state at the end of the path of a scenario, and the scenario's letters there
    abbrev final : ℕ → State
    final cs = play net t (start net) cs

    at_end_lem : (cs l : ℕ) → l < net.letters → combined net (final cs).heard (final cs).decided l ≡ combined net cs (final cs).decided l
    at_end_lem cs =
        combined_cong net _ _ _ _
        (heard_is net wf End t (start net) cs sd
        (λ l c e. clash (all_left net (net.disclosing l) (condition_point net wf l c)) e))
        (λ l d. refl)

    kept_is :
        (cs : ℕ) →
        keeps net (final cs).slots (combined net (final cs).heard (final cs).decided)
        ≡ keeps net ((strategy_of net t).time cs) (combined net cs ((strategy_of net t).choice cs))
    unfolding strategy_of
    kept_is cs = keeps_cong net wf _ _ _ _ (λ p h. refl) (at_end_lem cs)

    -- .. which is viable exactly where the path of each condition scenario keeps its constraints
    pub viable_iff : Viable net (strategy_of net t) ↔ ((cs : ℕ) → ConditionScenario net cs → Kept net (play net t (start net) cs))
    unfolding strategy_of
    viable_iff = (
      λ v cs k. kept_is cs ∙ v.keeping cs k,
      λ h. record {
        within = λ cs k p lt. (slot_open net wf End t (start net) cs p sd lt (all_left net p lt)).1;
        keeping = λ cs k. sym (kept_is cs) ∙ h cs k;
      },
    )

  -- ---- every path is walked by some scenario

  -- the scenario agrees with what was heard
  abbrev pub Fits : State → ℕ → Type 0
  Fits s cs = (l : ℕ) → condition net l ≡ true → bit s.left (net.disclosing l) ≡ false → bit s.heard l ≡ bit cs l

  pub heard_scenario :
      (s : State) (m : Move) (o : ℕ) → ConditionScenario net s.heard → ConditionScenario net (after net s m o).heard
  unfolding after
  heard_scenario s m o k l b =
      let r = (in_mask net.letters _ l b).1 in
      by_test (hears net m l) (λ y. heard_condition net m l y) (λ n. k l (rw n at r))

  pub fits_outcome : (s : State) (m : Move) (o cs : ℕ) → Outcome net m o → Fits (after net s m o) cs → outcome_of net m cs ≡ o
  fits_outcome s m o cs k f =
      bits_ext (outcome_of net m cs) o (λ l. by_test (hears net m l)
      (λ y. let c = heard_condition net m l y in
      let b = heard_point net m l y in
      outcome_at_lem net wf m cs l c b
      ∙ sym (f l c (performed net s m o (net.disclosing l) (condition_point net wf l c) b))
      ∙ heard_new net s m o l c b)
      (λ z. outcome_outside net m (outcome_of net m cs) (outcome_is net wf m cs) l z ∙ sym (outcome_outside net m o k l z)))

  pub fits_before : (s : State) (m : Move) (o cs : ℕ) → Legal net s m → Fits (after net s m o) cs → Fits s cs
  fits_before s m o cs lg f l c e =
      let n : bit m.points (net.disclosing l) ≡ false = not_again net s m lg (net.disclosing l) e in
      sym (heard_old net s m o l c n)
      ∙ f l c (stays_performed net s m o (net.disclosing l) (condition_point net wf l c) e)

  -- where each scenario's path ends well, all paths do
  all_paths :
      (Any End : State → Type 0) (t : Tree) (s : State) → ConditionScenario net s.heard → Sound net Any t s →
      ((cs : ℕ) → ConditionScenario net cs → Fits s cs → End (play net t s cs)) → Sound net End t s
  unfolding Sound play
  all_paths Any End done s k sd h = (sd.0, h s.heard k (λ l c e. refl))
  all_paths Any End (node m next) s k sd h = (
    sd.0,
    λ o ok. all_paths Any End (next o) (after net s m o) (heard_scenario s m o k) (sd.1 o ok)
        (λ cs c f. subst (λ (x : ℕ). End (play net (next x) (after net s m x) cs)) (fits_outcome s m o cs ok f)
        (h cs c (fits_before s m o cs sd.0 f))),
  )

  pub start_scenario : ConditionScenario net (start net).heard
  unfolding start
  start_scenario l b = clash b (bit_zero l)

  -- ---- the theorem

  -- a tree that wins is sound in shape
  pub wins→shaped : (t : Tree) (s : State) → Sound net (Kept net) t s → Sound net (λ x. Unit {0}) t s
  unfolding Sound
  wins→shaped done s sd = (sd.0, tt)
  wins→shaped (node m next) s sd = (sd.0, λ o ok. wins→shaped (next o) (after net s m o) (sd.1 o ok))

  pub viable_exactly : (t : Tree) → Shaped net t → Viable net (strategy_of net t) ↔ Wins net t
  viable_exactly t sd = (
    λ v. all_paths (λ s. Unit {0}) (Kept net) t (start net) start_scenario sd (λ cs c f. (viable_iff (λ s. Unit {0}) t sd).0 v cs c),
    λ w. (viable_iff (λ s. Unit {0}) t sd).1 (λ cs c. ends net wf (Kept net) t (start net) cs w),
  )

  pub wins→consistent : (t : Tree) → Wins net t → DynamicallyConsistent net
  wins→consistent t w =
      record {
        strategy = strategy_of net t;
        viable = (viable_exactly t (wins→shaped t (start net) w)).1 w;
        dynamic = dynamic (Kept net) t w;
      }
