-- Laws of the setting of all letters that a tree comes to, and of the slots in it: what a win from a state says of every setting of the
-- conditions not yet heard. Only the checker need believe this file.
use mathlib.Core.Path.{◌≡◌, refl, sym, ap, ◌∙◌, subst}
use mathlib.Core.Logic.{by_cases, ◌⊎◌, inl, inr, ◌≢◌}
use mathlib.Core.Bool.{Bool, true, false, cond, xor, and-false}
use Prim.Native.Nat.{ℕ, zero, suc, ◌/◌, ◌%◌, ◌≤◌, ◌<◌, ◌^◌}
use native.Mathlib.Omega.{arith}
use native.Mathlib.Nat.{pow-suc}
use native.Mathlib.Decide.{dec_lt}
use lib.Bits.{bit_xor}
use Rattle.network.specs.Mask.{bit, mask}
use Rattle.network.specs.Network.{Network, condition, decision, condition_at, decision_at, combined, keeps}
use Rattle.network.specs.IsNetwork.{IsNetwork}
use Rattle.network.specs.Game.{State, Kept, after}
use Rattle.network.specs.Tree.{Tree, done, node, Sound, outcome_of, play}
use Rattle.network.proofs.Booleans.{by_test, and_left, and_right, and_make}
use Rattle.network.proofs.MaskLaws.{bit_zero, bit_mask, mask_cong, mask_lt}
use Rattle.network.proofs.MachineLaws.{bit_xor_lem}
use Rattle.network.proofs.NetworkLaws.{condition_lt, decision_lt, condition_point, condition_of, decision_of, not_decision, one_kind, keeps_cong}
use Rattle.network.proofs.GameLaws.{was_left}
use Rattle.network.proofs.PathLaws.{SameAt, outcome_is, outcome_cong, slot_stays, decided_stays, slot_open, ends, heard_is, same}

-- ---- one letter the other way round

pub power_other : (q l : ℕ) → l ≢ q → bit (2 ^ q) l ≡ false
unfolding bit
power_other zero zero n = absurd (n refl)
power_other zero (suc l) n = bit_zero l
power_other (suc q) zero n = let p = pow-suc 2 q in let e : 2 ^ suc q % 2 ≡ 0 = omega arith in rw e
power_other (suc q) (suc l) n =
    let p = pow-suc 2 q in
    let e : 2 ^ suc q / 2 ≡ 2 ^ q = omega arith in
    rw e (power_other q l (λ w. n (ap suc w)))

pub flip_other : (s q l : ℕ) → l ≢ q → bit (bit_xor s (2 ^ q)) l ≡ bit s l
unfolding xor
flip_other s q l n = bit_xor_lem s (2 ^ q) l ∙ rw (power_other q l n) (stays (bit s l))
  where
    stays : (b : Bool) → xor b false ≡ b
    stays true = refl
    stays false = refl

-- ---- a tree that wins

-- a tree that wins from a state, and what is known there of the letters, of which there are at most six
pub record Won (net : Network) : Type 0 where
  pub is_network : IsNetwork net
  pub few : net.letters ≤ 6
  pub state : State
  pub tree : Tree
  pub sound : Sound net (Kept net) tree state
  pub values : ℕ
  pub known : (l : ℕ) → l < net.letters → bit values l ≡ combined net state.heard state.decided l

-- where the path of a scenario ends
abbrev pub final : {net : Network} → Won net → ℕ → State
final {net} g s = play net g.tree g.state s

-- the letters not yet known
abbrev pub unheard : {net : Network} → Won net → ℕ → Bool
unheard {net} g = condition_at net g.state.left

abbrev pub undecided : {net : Network} → Won net → ℕ → Bool
undecided {net} g = decision_at net g.state.left

-- The setting that the tree comes to in the scenario of s: conditions not yet heard are those of s, decisions not yet made are those at the
-- end of the path, and the other letters have the values known.
unfoldable pub settle : {net : Network} → Won net → ℕ → ℕ
settle g s = mask 6 (λ l. cond (unheard g l) (bit s l) (cond (undecided g l) (bit (final g s).decided l) (bit g.values l)))

module _ (net : Network) where
  -- the path looks only at the conditions not yet heard
  play_cong :
      IsNetwork net → (t : Tree) (st : State) (s s' : ℕ) → Sound net (Kept net) t st →
      ((l : ℕ) → condition_at net st.left l ≡ true → bit s l ≡ bit s' l) → play net t st s ≡ play net t st s'
  unfolding Sound play
  play_cong wf done st s s' sd h = refl
  play_cong wf (node m next) st s s' sd h =
      let o = outcome_of net m s in
      let oe : o ≡ outcome_of net m s'
      = outcome_cong net wf m s s' (λ l c y. h l (and_make c (sd.0.not_yet (net.disclosing l) y))) in
      subst (λ (x : ℕ). play net (next o) (after net st m o) s ≡ play net (next x) (after net st m x) s') oe
      (play_cong wf (next o) (after net st m o) s s' (sd.1 o (outcome_is net wf m s))
      (λ l e. let c = and_left (condition net l) (bit (after net st m o).left (net.disclosing l)) e in
      let y = and_right (condition net l) (bit (after net st m o).left (net.disclosing l)) e in
      h l (and_make c (was_left net st m o (net.disclosing l) (condition_point net wf l c) y).0)))

module _ {net : Network} (g : Won net) where
  pub unheard_condition : (l : ℕ) → unheard g l ≡ true → condition net l ≡ true
  unheard_condition l y = and_left (condition net l) (bit g.state.left (net.disclosing l)) y

  pub undecided_decision : (l : ℕ) → undecided g l ≡ true → decision net l ≡ true
  undecided_decision l y = and_left (decision net l) (bit g.state.left (net.disclosing l)) y

  settled_at :
      (s l : ℕ) → l < 6 → bit (settle g s) l
      ≡ cond (unheard g l) (bit s l) (cond (undecided g l) (bit (final g s).decided l) (bit g.values l))
  unfolding settle
  settled_at s l lt = bit_mask 6 _ l lt

  -- ---- the setting, letter by letter

  pub settled_unheard : (s l : ℕ) → unheard g l ≡ true → bit (settle g s) l ≡ bit s l
  settled_unheard s l y =
      let few = g.few in
      let lt = condition_lt net l (unheard_condition l y) in
      settled_at s l (omega arith) ∙ rw y

  pub settled_undecided : (s l : ℕ) → undecided g l ≡ true → bit (settle g s) l ≡ bit (final g s).decided l
  settled_undecided s l y =
      let few = g.few in
      let d = undecided_decision l y in
      let lt = decision_lt net l d in
      settled_at s l (omega arith) ∙ by_test (unheard g l) (λ u. one_kind net l (unheard_condition l u) d) (λ z. rw (z, y))

  pub settled_known : (s l : ℕ) → l < 6 → unheard g l ≡ false → undecided g l ≡ false → bit (settle g s) l ≡ bit g.values l
  settled_known s l lt z z' = settled_at s l lt ∙ rw (z, z')

  pub settled_small : (s : ℕ) → settle g s < 64
  unfolding settle
  settled_small s = mask_lt 6 _

  -- ---- one setting for each scenario: each setting of the conditions not yet heard

  path_cong : (s s' : ℕ) → ((l : ℕ) → unheard g l ≡ true → bit s l ≡ bit s' l) → final g s ≡ final g s'
  path_cong s s' h = play_cong net g.is_network g.tree g.state s s' g.sound h

  settled_cong : (s s' : ℕ) → ((l : ℕ) → unheard g l ≡ true → bit s l ≡ bit s' l) → settle g s ≡ settle g s'
  unfolding settle
  settled_cong s s' h = mask_cong 6 _ _ (λ l lt. by_test (unheard g l) (λ y. rw (y, h l y)) (λ z. rw (z, path_cong s s' h)))

  pub settled_path : (s : ℕ) → final g (settle g s) ≡ final g s
  settled_path s = path_cong (settle g s) s (settled_unheard s)

  pub settled_on : (s : ℕ) → settle g (settle g s) ≡ settle g s
  settled_on s = settled_cong (settle g s) s (settled_unheard s)

  pub on_only :
      (s s' : ℕ) → settle g s ≡ s → settle g s' ≡ s' → ((l : ℕ) → unheard g l ≡ true → bit s l ≡ bit s' l) → s ≡ s'
  on_only s s' on on' h = sym on ∙ settled_cong s s' h ∙ on'

  -- ---- a setting that is come to

  module _ (s : ℕ) (on : settle g s ≡ s) where
    abbrev st : State
    st = g.state

    pub on_undecided : (l : ℕ) → undecided g l ≡ true → bit s l ≡ bit (final g s).decided l
    on_undecided l y = ap (λ (x : ℕ). bit x l) (sym on) ∙ settled_undecided s l y

    pub on_known : (l : ℕ) → l < 6 → unheard g l ≡ false → undecided g l ≡ false → bit s l ≡ bit g.values l
    on_known l lt z z' = ap (λ (x : ℕ). bit x l) (sym on) ∙ settled_known s l lt z z'

    pub on_small : s < 64
    on_small = subst (λ (x : ℕ). x < 64) on (settled_small s)

    on_past : (l : ℕ) → l < net.letters → bit st.left (net.disclosing l) ≡ false → bit s l ≡ combined net st.heard st.decided l
    on_past l lt z = let few = g.few in on_known l (omega arith) (rw (z, and-false)) (rw (z, and-false)) ∙ g.known l lt

    -- the values at the end of the path are those of the setting
    final_value : (l : ℕ) → l < net.letters → combined net (final g s).heard (final g s).decided l ≡ bit s l
    final_value l lt =
        by_test (net.is_decision l)
        (λ d. let k = decision_of net l lt d in
        rw d (by_test (bit st.left (net.disclosing l))
        (λ y. sym (on_undecided l (and_make k y)))
        (λ z. decided_stays net g.is_network (Kept net) g.tree st s l g.sound k z ∙ sym (rw d at (on_past l lt z)))))
        (λ c. rw c (heard_is net g.is_network (Kept net) g.tree st s g.sound
        (λ i k z. sym (rw (not_decision net i k) at (on_past i (condition_lt net i k) z))) l (condition_of net l lt c)))

    pub on_keeps : keeps net (final g s).slots (bit s) ≡ true
    on_keeps =
        sym (keeps_cong net g.is_network (final g s).slots (final g s).slots _ _ (λ x lt. refl) final_value)
        ∙ ends net g.is_network (Kept net) g.tree st s g.sound

  -- ---- the slots

  -- points performed have their slots, the others come from the first open slot to the horizon
  pub slot_past : (s x : ℕ) → x < net.points → bit g.state.left x ≡ false → (final g s).slots x ≡ g.state.slots x
  slot_past s x lt z = slot_stays net g.is_network (Kept net) g.tree g.state s x g.sound lt z

  pub slot_ahead :
      (s x : ℕ) → x < net.points → bit g.state.left x ≡ true →
      (g.state.open_from ≤ (final g s).slots x) × ((final g s).slots x ≤ net.horizon)
  slot_ahead s x lt y = slot_open net g.is_network (Kept net) g.tree g.state s x g.sound lt y

  -- a point comes later than the point of condition q, or where it comes with q the other way round, its decision alike
  pub slot_flip :
      (s q x : ℕ) → x < net.points → bit g.state.left x ≡ true →
      ((final g s).slots (net.disclosing q) < (final g s).slots x)
      ⊎ SameAt net g.is_network (final g s) (final g (bit_xor s (2 ^ q))) x
  slot_flip s q x h y =
      by_cases (dec_lt ((final g s).slots (net.disclosing q)) ((final g s).slots x)) (λ lt. inl lt) (λ ge.
      inr (same net g.is_network (Kept net) g.tree g.state s (bit_xor s (2 ^ q)) x g.sound h y (λ l c z lt.
      sym (flip_other s q l (λ e. ge (subst (λ (i : ℕ). (final g s).slots (net.disclosing i) < (final g s).slots x) e lt))))))
