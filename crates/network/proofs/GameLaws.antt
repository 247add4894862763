-- Laws of the game: what a move changes. Only the checker need believe this file.
use mathlib.Core.Path.{◌≡◌, refl, sym, ◌∙◌}
use mathlib.Core.Bool.{true, false, not, ◌&&◌, and-false}
use Prim.Native.Nat.{ℕ, suc, ◌<◌}
use Rattle.network.specs.Mask.{bit, count}
use Rattle.network.specs.Below.{rank}
use Rattle.network.specs.Network.{Network, condition, decision}
use Rattle.network.specs.Game.{State, start, Move, hears, settles, Legal, Outcome, outcomes, outcome_at, after, Over}
use Rattle.network.proofs.Booleans.{by_test, clash, and_left, and_right, not_true}
use Rattle.network.proofs.BelowLaws.{count_drop}
use Rattle.network.proofs.MaskLaws.{bit_zero, bit_mask, in_mask}
use Rattle.network.proofs.SubmaskLaws.{rank_lt, submask_rank, in_submask}
use Rattle.network.proofs.NetworkLaws.{condition_lt, decision_lt}

module _ (net : Network) where
  -- ---- letters and points of a move

  pub heard_condition : (m : Move) (l : ℕ) → hears net m l ≡ true → condition net l ≡ true
  heard_condition m l y = and_left (condition net l) (bit m.points (net.disclosing l)) y

  pub heard_point : (m : Move) (l : ℕ) → hears net m l ≡ true → bit m.points (net.disclosing l) ≡ true
  heard_point m l y = and_right (condition net l) (bit m.points (net.disclosing l)) y

  pub settled_decision : (m : Move) (l : ℕ) → settles net m l ≡ true → decision net l ≡ true
  settled_decision m l y = and_left (decision net l) (bit m.points (net.disclosing l)) y

  -- a set of points left lies among the points
  abbrev pub Inside : State → Type 0
  Inside s = (x : ℕ) → bit s.left x ≡ true → x < net.points

  -- where a move is legal, a point is left
  pub not_over : {C : Type 0} (s : State) (m : Move) → Legal net s m → Over net s → C
  not_over s m lg ov = let p = lg.some in clash (lg.not_yet p.0 p.2) (ov p.0 p.1)

  -- a legal move performs a point
  pub some_points : (s : State) (m : Move) → Legal net s m → ¬ (m.points ≡ 0)
  some_points s m lg e = let p = lg.some in clash p.2 (rw e (bit_zero p.0))

  -- a point that is not left is not performed again
  pub not_again : (s : State) (m : Move) → Legal net s m → (x : ℕ) → bit s.left x ≡ false → bit m.points x ≡ false
  not_again s m lg x e = by_test (bit m.points x) (λ y. clash (lg.not_yet x y) e) (λ n. n)

  -- ---- outcomes and their numbers

  pub outcome_outside : (m : Move) (o : ℕ) → Outcome net m o → (l : ℕ) → hears net m l ≡ false → bit o l ≡ false
  outcome_outside m o k l z = by_test (bit o l) (λ y. clash (k l y) z) (λ n. n)

  pub outcome_at_is : (m : Move) (k : ℕ) → Outcome net m (outcome_at net m k)
  outcome_at_is m k l y = (in_submask net.letters (hears net m) k l y).1

  pub outcome_numbered : (m : Move) (o : ℕ) → Outcome net m o → (k : ℕ) × (k < outcomes net m) × (outcome_at net m k ≡ o)
  outcome_numbered m o h = (
    rank net.letters (hears net m) o,
    rank_lt net.letters (hears net m) o,
    submask_rank net.letters (hears net m) o (λ l y. (condition_lt net l (heard_condition m l (h l y)), h l y)),
  )

  -- ---- the start

  pub all_left : (x : ℕ) → x < net.points → bit (start net).left x ≡ true
  unfolding start
  all_left x h = bit_mask net.points _ x h

  pub start_inside : Inside (start net)
  unfolding start
  start_inside x b = (in_mask net.points _ x b).0

  -- ---- after a move

  module _ (s : State) (m : Move) (o : ℕ) where
    pub open_is : (after net s m o).open_from ≡ suc m.slot
    unfolding after
    open_is = refl

    pub after_inside : Inside (after net s m o)
    unfolding after
    after_inside x b = (in_mask net.points _ x b).0

    pub left_is : (x : ℕ) → x < net.points → bit (after net s m o).left x ≡ (bit s.left x && not (bit m.points x))
    unfolding after
    left_is x h = bit_mask net.points _ x h

    pub performed : (x : ℕ) → x < net.points → bit m.points x ≡ true → bit (after net s m o).left x ≡ false
    performed x h e = left_is x h ∙ rw (e, and-false)

    pub stays_performed : (x : ℕ) → x < net.points → bit s.left x ≡ false → bit (after net s m o).left x ≡ false
    stays_performed x h e = rw (left_is x h, e)

    pub stays_left :
        (x : ℕ) → x < net.points → bit s.left x ≡ true → bit m.points x ≡ false → bit (after net s m o).left x ≡ true
    stays_left x h e f = rw (left_is x h, e, f)

    pub was_left :
        (x : ℕ) → x < net.points → bit (after net s m o).left x ≡ true →
        (bit s.left x ≡ true) × (bit m.points x ≡ false)
    was_left x h e =
        let q : (bit s.left x && not (bit m.points x)) ≡ true = sym (left_is x h) ∙ e in (
          and_left (bit s.left x) (not (bit m.points x)) q,
          not_true (bit m.points x) (and_right (bit s.left x) (not (bit m.points x)) q),
        )

    pub was_performed :
        (x : ℕ) → x < net.points → bit (after net s m o).left x ≡ false → bit m.points x ≡ false → bit s.left x ≡ false
    was_performed x h b n = by_test (bit s.left x) (λ y. clash (stays_left x h y n) b) (λ z. z)

    -- each legal move leaves fewer points
    pub fewer_left : Legal net s m → count net.points (bit (after net s m o).left) < count net.points (bit s.left)
    fewer_left lg =
        let p = lg.some in
        count_drop net.points (bit s.left) (bit (after net s m o).left) (λ x lt b. (was_left x lt b).0) p.0 p.1
        (lg.not_yet p.0 p.2) (performed p.0 p.1 p.2)

    pub slot_new : (x : ℕ) → bit m.points x ≡ true → (after net s m o).slots x ≡ m.slot
    unfolding after
    slot_new x e = rw e

    pub slot_old : (x : ℕ) → bit m.points x ≡ false → (after net s m o).slots x ≡ s.slots x
    unfolding after
    slot_old x e = rw e

    pub heard_new :
        (l : ℕ) → condition net l ≡ true → bit m.points (net.disclosing l) ≡ true →
        bit (after net s m o).heard l ≡ bit o l
    unfolding after
    heard_new l c e = bit_mask net.letters _ l (condition_lt net l c) ∙ rw (c, e)

    pub heard_old :
        (l : ℕ) → condition net l ≡ true → bit m.points (net.disclosing l) ≡ false →
        bit (after net s m o).heard l ≡ bit s.heard l
    unfolding after
    heard_old l c e = bit_mask net.letters _ l (condition_lt net l c) ∙ rw (c, e)

    pub decided_new :
        (l : ℕ) → decision net l ≡ true → bit m.points (net.disclosing l) ≡ true →
        bit (after net s m o).decided l ≡ bit m.choices l
    unfolding after
    decided_new l d e = bit_mask net.letters _ l (decision_lt net l d) ∙ rw (d, e)

    pub decided_old :
        (l : ℕ) → decision net l ≡ true → bit m.points (net.disclosing l) ≡ false →
        bit (after net s m o).decided l ≡ bit s.decided l
    unfolding after
    decided_old l d e = bit_mask net.letters _ l (decision_lt net l d) ∙ rw (d, e)
