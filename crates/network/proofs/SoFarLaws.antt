-- Laws of what is kept so far: a state in which a constraint is not kept so far is lost, and where no point is left what is kept so far is
-- kept. Like NetworkLaws, RaiseLaws and LimitLaws it opens what a constraint asks. Only the checker need believe it.
use mathlib.Core.Path.{◌≡◌, refl, sym, ◌∙◌}
use mathlib.Core.Logic.{◌↔◌}
use mathlib.Core.Bool.{Bool, true, false, ◌&&◌}
use mathlib.Core.List.{List, [], ◌∷◌}
use Prim.Native.Nat.{ℕ, ◌<◌}
use Rattle.network.specs.Mask.{bit}
use Rattle.network.specs.Network.{Label, Constraint, Network, Scenario, Schedule, combined, holds, satisfies}
use Rattle.network.specs.IsNetwork.{Each, InNetwork, IsNetwork}
use Rattle.network.specs.Game.{State, Kept, Over, kept}
use Rattle.network.specs.Tree.{Tree, Sound, play}
use Rattle.network.specs.FirstMoves.{CanBeWon}
use Rattle.network.specs.LabelTest.{Holds, AllKnown}
use Rattle.network.specs.TestLabel.{label_test, is_holds}
use Rattle.network.specs.SoFar.{relevant_so_far, kept_so_far, all_kept_so_far, keeps_so_far, performed_at, known_at, keeps_so_far_at}
use Rattle.network.proofs.Booleans.{by_test, clash, not_true, and_left, and_right, and_make, both_ways}
use Rattle.network.proofs.MaskLaws.{bit_mask, in_mask}
use Rattle.network.proofs.NetworkLaws.{KeepsEach, keeps_is, condition_of, decision_of, agree_exactly}
use Rattle.network.proofs.LabelTestLaws.{is_holds_lem, tested_holds, holds_all_known, tested_cong}
use Rattle.network.proofs.PathLaws.{slot_stays, decided_stays, ends, heard_is}

-- ---- what the definitions say, in words

module _ (net : Network) (s : State) where
  -- the points performed are those of the network that are not left; the letters known are those that they disclose
  pub performed_exactly : (x : ℕ) → (bit (performed_at net s) x ≡ true) ↔ ((x < net.points) × (bit s.left x ≡ false))
  performed_exactly x = (
    λ y. let m = in_mask net.points _ x y in (m.0, not_true _ m.1),
    λ h. bit_mask net.points _ x h.0 ∙ rw h.1,
  )

  pub known_exactly :
      IsNetwork net → (l : ℕ) → (bit (known_at net s) l ≡ true) ↔ ((l < net.letters) × (bit (performed_at net s) (net.disclosing l) ≡ true))
  known_exactly wf l = (
    λ y. let m = in_mask net.letters _ l y in (m.0, (performed_exactly (net.disclosing l)).1 (wf.disclosed l m.0, not_true _ m.1)),
    λ h. bit_mask net.letters _ l h.0 ∙ rw ((performed_exactly (net.disclosing l)).0 h.1).1,
  )

-- each constraint is satisfied whose label holds by the letters known and whose points are performed
abbrev pub KeepsEachSoFar : ℕ → ℕ → Schedule → Scenario → List Constraint → Type 0
KeepsEachSoFar known performed ψ s =
    Each (λ c. label_test known s c.label ≡ Holds → bit performed c.from ≡ true → bit performed c.to ≡ true → satisfies ψ c ≡ true)

module _ (known performed : ℕ) (ψ : Schedule) (s : Scenario) where
  pub so_far_each : (cs : List Constraint) → (all_kept_so_far known performed ψ s cs ≡ true) ↔ KeepsEachSoFar known performed ψ s cs
  unfolding all_kept_so_far Each
  so_far_each [] = (λ y. tt, λ k. refl)
  so_far_each (c ∷ cs) =
      let rest = so_far_each cs in
      let here : Bool = kept_so_far known performed ψ s c in (
        λ y. (λ h f t. rw (h, f, t) at (and_left here (all_kept_so_far known performed ψ s cs) y), rest.0 (and_right here _ y)),
        λ k. and_make {a = here}
            (by_test (relevant_so_far known performed s c)
            (λ y. let both = and_right (is_holds (label_test known s c.label)) (bit performed c.from && bit performed c.to) y in
            rw (y, k.0 (is_holds_lem _ (and_left _ _ y)) (and_left (bit performed c.from) _ both) (and_right (bit performed c.from) _ both)))
            (λ z. rw z))
            (rest.1 k.1),
      )

pub so_far_exactly :
    (net : Network) (known performed : ℕ) (ψ : Schedule) (s : Scenario) →
    (keeps_so_far net known performed ψ s ≡ true) ↔ KeepsEachSoFar known performed ψ s net.constraints
unfolding keeps_so_far
so_far_exactly net known performed ψ s = so_far_each known performed ψ s net.constraints

module _ (net : Network) (wf : IsNetwork net) where
  abbrev values_at : State → Scenario
  values_at s = combined net s.heard s.decided

  -- ---- what is known at a state stands at the end of every path from it

  module _ (End : State → Type 0) (t : Tree) (s : State) (sd : Sound net End t s) where
    -- the path on which nothing more is heard to be true
    abbrev end : State
    end = play net t s s.heard

    value_stays : (l : ℕ) → bit (known_at net s) l ≡ true → values_at s l ≡ values_at end l
    value_stays l k =
        let m = (known_exactly net s wf l).0 k in
        let gone = ((performed_exactly net s (net.disclosing l)).0 m.1).1 in
        by_test (net.is_decision l)
        (λ d. rw d (sym (decided_stays net wf End t s s.heard l sd (decision_of net l m.0 d) gone)))
        (λ c. rw c (sym (heard_is net wf End t s s.heard sd (λ i q z. refl) l (condition_of net l m.0 c))))

    slot_was : (x : ℕ) → bit (performed_at net s) x ≡ true → end.slots x ≡ s.slots x
    slot_was x y = let m = (performed_exactly net s x).0 y in slot_stays net wf End t s s.heard x sd m.0 m.1

    -- a label that holds by the letters known holds at the end
    holds_at_end : (label : Label) → label_test (known_at net s) (values_at s) label ≡ Holds → holds (values_at end) label ≡ true
    holds_at_end label h =
        let same = tested_cong (known_at net s) (values_at s) (values_at end) label (λ l n kn. value_stays l kn) in
        (agree_exactly (values_at end) label).1 ((tested_holds (known_at net s) (values_at end) label).0 (sym same ∙ h)).1

    kept_from_end :
        (cs : List Constraint) → KeepsEach net end.slots (values_at end) cs →
        KeepsEachSoFar (known_at net s) (performed_at net s) s.slots (values_at s) cs
    unfolding Each
    kept_from_end [] k = tt
    kept_from_end (c ∷ cs) k = (
      λ h f t. rw (← slot_was c.from f, ← slot_was c.to t) (k.0 (holds_at_end c.label h)),
      kept_from_end cs k.1,
    )

  -- From a state that can be won every constraint is kept so far. So a state in which one is not is lost.
  pub won_keeps : (s : State) → CanBeWon net s → keeps_so_far_at net s ≡ true
  won_keeps s w =
      (so_far_exactly net (known_at net s) (performed_at net s) s.slots (values_at s)).1
      (kept_from_end (Kept net) w.tree s w.sound net.constraints
      ((keeps_is net _ _).0 (ends net wf (Kept net) w.tree s s.heard w.sound)))

  pub broken_lost : (s : State) → keeps_so_far_at net s ≡ false → ¬ CanBeWon net s
  broken_lost s z w = clash (won_keeps s w) z

  -- ---- where no point is left all are performed and every letter is known

  over_performed : (s : State) → Over net s → (x : ℕ) → x < net.points → bit (performed_at net s) x ≡ true
  over_performed s ov x lt = (performed_exactly net s x).1 (lt, ov x lt)

  over_known : (s : State) → Over net s → (c : Constraint) → InNetwork net c → AllKnown (known_at net s) c.label
  over_known s ov c k l lt n =
      let in-net = k.over_letters l n in
      (known_exactly net s wf l).1 (in-net, over_performed s ov (net.disclosing l) (wf.disclosed l in-net))

  over_each :
      (s : State) → Over net s → (cs : List Constraint) → Each (InNetwork net) cs →
      KeepsEachSoFar (known_at net s) (performed_at net s) s.slots (values_at s) cs ↔ KeepsEach net s.slots (values_at s) cs
  unfolding Each
  over_each s ov [] k = (λ e. tt, λ e. tt)
  over_each s ov (c ∷ cs) k =
      let rest = over_each s ov cs k.1 in
      let same = holds_all_known (known_at net s) (values_at s) c.label (over_known s ov c k.0) in
      let from = over_performed s ov c.from k.0.from_point in
      let to = over_performed s ov c.to k.0.to_point in (
        λ e. (λ h. e.0 (same.1 h) from to, rest.0 e.1),
        λ e. (λ h f t. e.0 (same.0 h), rest.1 e.1),
      )

  -- what is kept so far is kept
  pub over_keeps : (s : State) → Over net s → keeps_so_far_at net s ≡ kept net s
  over_keeps s ov =
      let f = over_each s ov net.constraints wf.in_network in
      let g = keeps_is net s.slots (values_at s) in
      let h = so_far_exactly net (known_at net s) (performed_at net s) s.slots (values_at s) in
      both_ways _ _ (λ y. g.1 (f.0 (h.0 y))) (λ y. h.1 (f.1 (g.0 y)))

  -- ---- it looks only at the values of the letters of the network

  so_far_cong_in :
      (known performed : ℕ) (ψ : Schedule) (s s' : Scenario) → ((l : ℕ) → l < net.letters → s l ≡ s' l) → (cs : List Constraint) →
      Each (InNetwork net) cs → all_kept_so_far known performed ψ s cs ≡ all_kept_so_far known performed ψ s' cs
  unfolding all_kept_so_far Each
  so_far_cong_in known performed ψ s s' h [] k = refl
  so_far_cong_in known performed ψ s s' h (c ∷ cs) k =
      rw (tested_cong known s s' c.label (λ l n kn. h l (k.0.over_letters l n)), so_far_cong_in known performed ψ s s' h cs k.1)

  pub so_far_cong :
      (known performed : ℕ) (ψ : Schedule) (s s' : Scenario) → ((l : ℕ) → l < net.letters → s l ≡ s' l) →
      keeps_so_far net known performed ψ s ≡ keeps_so_far net known performed ψ s'
  unfolding keeps_so_far
  so_far_cong known performed ψ s s' h = so_far_cong_in known performed ψ s s' h net.constraints wf.in_network
