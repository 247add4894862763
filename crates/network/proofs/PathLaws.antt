-- Laws of the path that a condition scenario walks down a sound tree. Only the checker need believe this file.
use mathlib.Core.Path.{◌≡◌, refl, sym, ap, ◌∙◌, subst}
use mathlib.Core.Bool.{true, false}
use Prim.Native.Nat.{ℕ, ◌≤◌, ◌<◌}
use native.Mathlib.Omega.{arith}
use Rattle.network.specs.Mask.{bit}
use Rattle.network.specs.Network.{Network, condition, decision}
use Rattle.network.specs.IsNetwork.{IsNetwork}
use Rattle.network.specs.Game.{State, start, Move, hears, Outcome, after, Over}
use Rattle.network.specs.Tree.{Tree, done, node, Sound, outcome_of, play, strategy_of}
use Rattle.network.specs.Walks.{SameTree}
use Rattle.network.proofs.Booleans.{by_test, clash, and_left}
use Rattle.network.proofs.MaskLaws.{bit_mask, mask_cong, in_mask}
use Rattle.network.proofs.NetworkLaws.{condition_lt, condition_point, decision_point}
use Rattle.network.proofs.GameLaws.{heard_condition, heard_point, open_is, performed, stays_performed, stays_left, was_left, slot_new, slot_old, heard_new, heard_old, decided_new, decided_old, not_again}

module _ (net : Network) (wf : IsNetwork net) where
  pub outcome_is : (m : Move) (cs : ℕ) → Outcome net m (outcome_of net m cs)
  unfolding outcome_of
  outcome_is m cs l e = and_left (hears net m l) (bit cs l) (in_mask net.letters _ l e).1

  pub outcome_at_lem :
      (m : Move) (cs l : ℕ) → condition net l ≡ true → bit m.points (net.disclosing l) ≡ true →
      bit (outcome_of net m cs) l ≡ bit cs l
  unfolding outcome_of
  outcome_at_lem m cs l c e = bit_mask net.letters _ l (condition_lt net l c) ∙ rw (c, e)

  pub outcome_cong :
      (m : Move) (cs cs' : ℕ) →
      ((l : ℕ) → condition net l ≡ true → bit m.points (net.disclosing l) ≡ true → bit cs l ≡ bit cs' l)
      → outcome_of net m cs ≡ outcome_of net m cs'
  unfolding outcome_of
  outcome_cong m cs cs' h =
      mask_cong net.letters _ _ (λ l lt. by_test (hears net m l)
      (λ y. rw (h l (heard_condition net m l y) (heard_point net m l y)))
      (λ n. rw n))

  -- the same trees are played alike, so they describe the same strategy
  play_alike : (t t' : Tree) → SameTree net t t' → (s : State) (cs : ℕ) → play net t s cs ≡ play net t' s cs
  unfolding SameTree play
  play_alike done done same s cs = refl
  play_alike done (node m' next') same s cs = absurd same
  play_alike (node m next) done same s cs = absurd same
  play_alike (node m next) (node m' next') same s cs =
      let o = outcome_of net m cs in
      play_alike (next o) (next' o) (same.1 o (outcome_is m cs)) (after net s m o) cs
      ∙ ap (λ (x : Move). play net (next' (outcome_of net x cs)) (after net s x (outcome_of net x cs)) cs) same.0

  pub same_strategy : (t t' : Tree) → SameTree net t t' → strategy_of net t ≡ strategy_of net t'
  unfolding strategy_of
  same_strategy t t' same i =
      record {
        time = λ cs. (play_alike t t' same (start net) cs i).slots;
        choice = λ cs. (play_alike t t' same (start net) cs i).decided;
      }

  -- cs and cs' agree on each condition that cs hears, in what is left of the tree, before the slot of x
  abbrev pub AgreeBefore : Tree → State → ℕ → ℕ → ℕ → Type 0
  AgreeBefore t s cs cs' x =
      (l : ℕ) → condition net l ≡ true → bit s.left (net.disclosing l) ≡ true →
      (play net t s cs).slots (net.disclosing l) < (play net t s cs).slots x → bit cs l ≡ bit cs' l

  -- two ends of paths have x in the same slot, and the same values of the decisions that x discloses
  pub record SameAt (f f' : State) (x : ℕ) : Type 0 where
    pub slot : f'.slots x ≡ f.slots x
    pub choice : (l : ℕ) → decision net l ≡ true → net.disclosing l ≡ x → bit f.decided l ≡ bit f'.decided l

  module _ (End : State → Type 0) where
    -- a point that is not left has its slot already
    pub slot_stays :
        (t : Tree) (s : State) (cs p : ℕ) → Sound net End t s → p < net.points → bit s.left p ≡ false →
        (play net t s cs).slots p ≡ s.slots p
    unfolding Sound play
    slot_stays done s cs p sd h e = refl
    slot_stays (node m next) s cs p sd h e =
        let o = outcome_of net m cs in
        let f : bit m.points p ≡ false = not_again net s m sd.0 p e in
        slot_stays (next o) (after net s m o) cs p (sd.1 o (outcome_is m cs)) h (stays_performed net s m o p h e) ∙ slot_old net s m o p f

    pub decided_stays :
        (t : Tree) (s : State) (cs l : ℕ) → Sound net End t s → decision net l ≡ true → bit s.left (net.disclosing l) ≡ false
        → bit (play net t s cs).decided l ≡ bit s.decided l
    unfolding Sound play
    decided_stays done s cs l sd d e = refl
    decided_stays (node m next) s cs l sd d e =
        let o = outcome_of net m cs in
        let f : bit m.points (net.disclosing l) ≡ false = not_again net s m sd.0 (net.disclosing l) e in
        let gone = stays_performed net s m o (net.disclosing l) (decision_point net wf l d) e in
        decided_stays (next o) (after net s m o) cs l (sd.1 o (outcome_is m cs)) d gone
        ∙ decided_old net s m o l d f

    -- a point of the first move has that move's slot, and its decision the value chosen there
    pub slot_first :
        (m : Move) (next : ℕ → Tree) (s : State) (cs p : ℕ) → Sound net End (node m next) s → p < net.points →
        bit m.points p ≡ true
        → (play net (node m next) s cs).slots p ≡ m.slot
    unfolding Sound play
    slot_first m next s cs p sd h y =
        let o = outcome_of net m cs in
        slot_stays (next o) (after net s m o) cs p (sd.1 o (outcome_is m cs)) h (performed net s m o p h y) ∙ slot_new net s m o p y

    pub decided_first :
        (m : Move) (next : ℕ → Tree) (s : State) (cs l : ℕ) → Sound net End (node m next) s → decision net l ≡ true →
        bit m.points (net.disclosing l) ≡ true
        → bit (play net (node m next) s cs).decided l ≡ bit m.choices l
    unfolding Sound play
    decided_first m next s cs l sd d y =
        let o = outcome_of net m cs in
        let gone = performed net s m o (net.disclosing l) (decision_point net wf l d) y in
        decided_stays (next o) (after net s m o) cs l (sd.1 o (outcome_is m cs)) d gone
        ∙ decided_new net s m o l d y

    -- a point that is left gets a slot that is open, within the horizon
    pub slot_open : (t : Tree) (s : State) (cs p : ℕ) → Sound net End t s → p < net.points → bit s.left p ≡ true
        → (s.open_from ≤ (play net t s cs).slots p) × ((play net t s cs).slots p ≤ net.horizon)
    unfolding Sound play
    slot_open done s cs p sd h e = clash e (sd.0 p h)
    slot_open (node m next) s cs p sd h e =
        let o = outcome_of net m cs in
        by_test (bit m.points p)
        (λ y. let q = slot_first m next s cs p sd h y in (omega arith, omega arith))
        (λ n. let r = slot_open (next o) (after net s m o) cs p (sd.1 o (outcome_is m cs)) h (stays_left net s m o p h e n) in
        let q = open_is net s m o in (omega arith, r.1))

    -- the path ends where End holds
    pub ends : (t : Tree) (s : State) (cs : ℕ) → Sound net End t s → End (play net t s cs)
    unfolding Sound play
    ends done s cs sd = sd.1
    ends (node m next) s cs sd = let o = outcome_of net m cs in ends (next o) (after net s m o) cs (sd.1 o (outcome_is m cs))

    -- .. and where no point is left
    pub ends_over : (t : Tree) (s : State) (cs : ℕ) → Sound net End t s → Over net (play net t s cs)
    unfolding Sound play
    ends_over done s cs sd = sd.0
    ends_over (node m next) s cs sd = let o = outcome_of net m cs in ends_over (next o) (after net s m o) cs (sd.1 o (outcome_is m cs))

    -- what was heard on the path are the scenario's values
    pub heard_is : (t : Tree) (s : State) (cs : ℕ) → Sound net End t s
        → ((l : ℕ) → condition net l ≡ true → bit s.left (net.disclosing l) ≡ false → bit s.heard l ≡ bit cs l)
        → (l : ℕ) → condition net l ≡ true → bit (play net t s cs).heard l ≡ bit cs l
    unfolding Sound play
    heard_is done s cs sd so l c = so l c (sd.0 (net.disclosing l) (condition_point net wf l c))
    heard_is (node m next) s cs sd so l c =
        let o = outcome_of net m cs in
        heard_is (next o) (after net s m o) cs (sd.1 o (outcome_is m cs)) (λ k d e. by_test (bit m.points (net.disclosing k))
        (λ y. heard_new net s m o k d y ∙ outcome_at_lem m cs k d y)
        (λ n. heard_old net s m o k d n ∙ so k d (by_test (bit s.left (net.disclosing k))
        (λ z. clash (stays_left net s m o (net.disclosing k) (condition_point net wf k d) z n) e) (λ z. z)))) l c

    -- two scenarios that agree on what is heard before the slot of x come to the same slot and choices of x
    pub same :
        (t : Tree) (s : State) (cs cs' x : ℕ) → Sound net End t s → x < net.points → bit s.left x ≡ true →
        AgreeBefore t s cs cs' x → SameAt (play net t s cs) (play net t s cs') x
    unfolding Sound play
    same done s cs cs' x sd h e agree = clash e (sd.0 x h)
    same (node m next) s cs cs' x sd h e agree =
        let o = outcome_of net m cs in
        by_test (bit m.points x)
        (λ y. record {
          slot = slot_first m next s cs' x sd h y ∙ sym (slot_first m next s cs x sd h y);
          choice = λ l d q.
              let z : bit m.points (net.disclosing l) ≡ true = rw q y in
              decided_first m next s cs l sd d z ∙ sym (decided_first m next s cs' l sd d z);
        })
        (λ n.
        let sdo = sd.1 o (outcome_is m cs) in
        let left = stays_left net s m o x h e n in
        let lower = slot_open (next o) (after net s m o) cs x sdo h left in
        let q = open_is net s m o in
        let oe : o ≡ outcome_of net m cs' = outcome_cong m cs cs' (λ l c y.
        let f = slot_first m next s cs (net.disclosing l) sd (condition_point net wf l c) y in
        agree l c (sd.0.not_yet (net.disclosing l) y) (omega arith)) in
        let before : AgreeBefore (next o) (after net s m o) cs cs' x
        = λ l c z lt. agree l c (was_left net s m o (net.disclosing l) (condition_point net wf l c) z).0 lt in
        subst (λ (o' : ℕ). SameAt (play net (next o) (after net s m o) cs) (play net (next o') (after net s m o') cs') x) oe
        (same (next o) (after net s m o) cs cs' x sdo h left before))
