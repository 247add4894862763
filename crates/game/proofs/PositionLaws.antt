-- Laws of positions: they stand for the states of the game, and the code's moves are its moves. Only the checker need believe this file.
use mathlib.Core.Path.{◌≡◌, refl, sym, ap, ◌∙◌, subst, fun_ext}
use mathlib.Core.Logic.{by_cases}
use mathlib.Core.Bool.{Bool, true, false, not, cond, ◌&&◌, ◌||◌, and-false, or-false}
use mathlib.Core.List.{[], ◌∷◌, ◌++◌}
use Prim.Native.Nat.{ℕ, ◌<◌}
use native.Mathlib.Omega.{arith}
use native.Mathlib.Decide.{dec_lt}
use native.Mathlib.Numerals.{add-one}
use lib.ListN.{length, length-replicate, get_or-eq_default}
use Rattle.network.specs.Mask.{bit, mask, count}
use Rattle.network.specs.Network.{Network, condition, decision, combined, slots_in}
use Rattle.network.specs.Game.{State, start, hears, settles, Legal, Outcome, after}
use Rattle.network.specs.Crew.{Step}
use Rattle.network.specs.Walks.{state_after}
use Rattle.network.specs.RunningSet.{LegalPath}
use Rattle.network.specs.Search.{over}
use Rattle.network.proofs.Booleans.{by_test, clash, and_left, and_right, ltb_is}
use Rattle.network.proofs.BelowLaws.{count_drop}
use Rattle.network.proofs.MaskLaws.{bit_zero, bit_mask, in_mask, mask_cong, mask_narrow, mask_first, no_bits}
use Rattle.network.proofs.NetworkLaws.{decision_of, condition_of, one_kind}
use Rattle.network.proofs.GameLaws.{Inside, heard_condition, heard_point, settled_decision, outcome_outside}
use Rattle.network.proofs.SearchLaws.{over_is}
use Rattle.network.proofs.RunningSetLaws.{legal_on, state_on}
use Rattle.plan.specs.declared.Plan.{Plan}
use Rattle.plan.specs.Plan.{network_of}
use Rattle.plan.specs.WellFormed.{WellFormed}
use Rattle.plan.proofs.SliceLaws.{all_same, length_listed, get_listed}
use Rattle.tree.specs.declared.Node.{Node}
use Rattle.tree.specs.Parts.{move_of}
use Rattle.game.specs.declared.Position.{Position}
use Rattle.game.specs.Carried.{start_position, position_after, position_along}
use Rattle.game.specs.Position.{state_of, Proper}
use Rattle.game.proofs.PathLaws.{along_on, along_long}

-- no letter is set true where none is
none_set : (n : ℕ) (f : ℕ → Bool) → mask n (λ l. f l && bit 0 l) ≡ 0
none_set n f =
    no_bits _ (λ l. by_test (bit (mask n (λ l. f l && bit 0 l)) l)
    (λ y. clash (and_right (f l) (bit 0 l) (in_mask n _ l y).1) (bit_zero l))
    (λ z. z))

-- a letter of the kind k has the new value where it is disclosed now, and the old one else
value_after :
    (k now b new old : Bool) → (k ≡ true → now ≡ true → b ≡ new) → (k ≡ true → now ≡ false → b ≡ old) →
    (k && b) ≡ cond (k && now) new (k && old)
value_after true true b new old f g = f refl refl
value_after true false b new old f g = g refl refl
value_after false now b new old f g = refl

only_old : (old : Bool) → (old || false || false) ≡ old
only_old true = refl
only_old false = refl

module _ (p : Plan) (wf : WellFormed p) where
  abbrev net : Network
  net = network_of p

  -- ---- the start

  pub start_is : state_of p (start_position p) ≡ start net
  unfolding start
  start_is =
      let left = mask_first p.points 8 wf.head.points in
      let slots = fun_ext (all_same {E = ℕ} 8 0) in
      let heard = none_set p.letters (condition net) in
      let decided = none_set p.letters (decision net) in
      λ i. record { open_from = 0; left = left i; slots = slots i; heard = heard i; decided = decided i }

  unfoldable pub start_proper : Proper p (start_position p)
  unfolding LegalPath position_along state_after
  start_proper =
      record {
        points_left_lem = λ x y. ltb_is x p.points (in_mask 8 _ x y).1;
        disclosed = λ l y. clash y (bit_zero l);
        above = [];
        legal = tt;
        reached = refl;
        stands = start_is;
      }

  -- ---- a position as a state

  pub inside_is : (at : Position) → Proper p at → Inside net (state_of p at)
  inside_is at ok = ok.points_left_lem

  -- the value of a letter is what was heard or decided
  pub value_is :
      (at : Position) (l : ℕ) → l < p.letters → bit at.values l ≡ combined net (state_of p at).heard (state_of p at).decided l
  value_is at l lt =
      by_test (net.is_decision l)
      (λ y. rw y (sym (bit_mask p.letters _ l lt ∙ rw (decision_of net l lt y))))
      (λ z. rw z (sym (bit_mask p.letters _ l lt ∙ rw (condition_of net l lt z))))

  pub over_is_zero :
      (at : Position) → Proper p at →
      (at.left ≡ 0 → over net (state_of p at) ≡ true) × (¬ (at.left ≡ 0) → over net (state_of p at) ≡ false)
  over_is_zero at ok = (
    λ e. (over_is net (state_of p at)).1 (λ x lt. rw e (bit_zero x)),
    λ ne. by_test (over net (state_of p at))
        (λ y. absurd (ne (no_bits at.left (λ x. by_test (bit at.left x)
        (λ b. (over_is net (state_of p at)).0 y x (ok.points_left_lem x b))
        (λ z. z)))))
        (λ z. z),
  )

  -- ---- after a move

  -- a position has eight slots, and so has the one after it
  pub after_long : (at : Position) (v : Node) (o : ℕ) → length (position_after at v o).slots ≡ 8
  after_long at v o = length_listed 8 _

  -- not left before, or performed: not left after
  pub gone :
      (at : Position) (v : Node) (o x : ℕ) → (bit at.left x && not (bit v.points x)) ≡ false →
      bit (position_after at v o).left x ≡ false
  gone at v o x z = by_test (bit (position_after at v o).left x) (λ y. clash (in_mask 8 _ x y).1 z) (λ n. n)

  module _ (at : Position) (v : Node) (o : ℕ) (ok : Proper p at) (lg : Legal net (state_of p at) (move_of v)) where
    pub left_no_more : (x : ℕ) → bit v.points x ≡ true → bit (position_after at v o).left x ≡ false
    left_no_more x y = gone at v o x (rw (y, and-false))

    -- a letter that the move discloses was not set before
    unset : (l : ℕ) → bit v.points (net.disclosing l) ≡ true → bit at.values l ≡ false
    unset l y = by_test (bit at.values l) (λ b. clash (lg.not_yet (net.disclosing l) y) (ok.disclosed l b)) (λ z. z)

    pub fewer : count 8 (bit (position_after at v o).left) < count 8 (bit at.left)
    fewer =
        let x = lg.some in
        let few = wf.head.points in
        let lt = x.1 in
        count_drop 8 (bit at.left) (bit (position_after at v o).left)
        (λ i l y. and_left (bit at.left i) (not (bit v.points i)) (in_mask 8 _ i y).1) x.0 (omega arith)
        (lg.not_yet x.0 x.2) (left_no_more x.0 x.2)

    module _ (out : Outcome net (move_of v) o) where
      -- the value of a letter after the move
      abbrev value : ℕ → Bool
      value l = bit at.values l || bit v.choices l || bit o l

      -- a choice sets a decision that the move discloses, an outcome a condition that it does
      unchosen : (l : ℕ) → settles net (move_of v) l ≡ false → bit v.choices l ≡ false
      unchosen l z = by_test (bit v.choices l) (λ y. clash (lg.disclosed l y) z) (λ n. n)

      heard_after :
          (l : ℕ) → (condition net l && value l)
          ≡ cond (hears net (move_of v) l) (bit o l) (condition net l && bit at.values l)
      heard_after l =
          let no-choice : condition net l ≡ true → bit v.choices l ≡ false
          = λ c. by_test (bit v.choices l) (λ y. one_kind net l c (settled_decision net (move_of v) l (lg.disclosed l y))) (λ z. z) in
          value_after (condition net l) (bit v.points (net.disclosing l)) (value l) (bit o l) (bit at.values l)
          (λ c y. rw (unset l y, no-choice c))
          (λ c z. rw (no-choice c, outcome_outside net (move_of v) o out l (rw (z, and-false)), only_old))

      decided_after :
          (l : ℕ) → (decision net l && value l)
          ≡ cond (settles net (move_of v) l) (bit v.choices l) (decision net l && bit at.values l)
      decided_after l =
          let no-outcome : decision net l ≡ true → bit o l ≡ false
          = λ d. by_test (bit o l) (λ y. one_kind net l (heard_condition net (move_of v) l (out l y)) d) (λ z. z) in
          value_after (decision net l) (bit v.points (net.disclosing l)) (value l) (bit v.choices l) (bit at.values l)
          (λ d y. rw (unset l y, no-outcome d, or-false))
          (λ d z. rw (unchosen l (rw (z, and-false)), no-outcome d, only_old))

      -- the letters of one kind that are true after the move
      mask_after :
          (kind now new : ℕ → Bool) → ((l : ℕ) → (kind l && value l) ≡ cond (now l) (new l) (kind l && bit at.values l)) →
          mask p.letters (λ l. kind l && bit (position_after at v o).values l)
          ≡ mask p.letters (λ l. cond (now l) (new l) (bit (mask p.letters (λ k. kind k && bit at.values k)) l))
      mask_after kind now new h =
          mask_cong p.letters
          (λ l. kind l && bit (position_after at v o).values l)
          (λ l. cond (now l) (new l) (bit (mask p.letters (λ k. kind k && bit at.values k)) l))
          (λ l lt. let few = wf.head.letters in
          rw (bit_mask 8 value l (omega arith), bit_mask p.letters (λ k. kind k && bit at.values k) l lt) (h l))

      slots_after_lem :
          length at.slots ≡ 8 → (x : ℕ) →
          slots_in (position_after at v o).slots x ≡ cond (bit v.points x) v.slot (slots_in at.slots x)
      slots_after_lem long x =
          by_cases (dec_lt x 8)
          (λ lt. get_listed 0 8 _ x lt)
          (λ ge. let new = after_long at v o in
          let few = wf.head.points in
          let none : bit v.points x ≡ false
          = by_test (bit v.points x) (λ y. let lt = ok.points_left_lem x (lg.not_yet x y) in absurd (omega arith)) (λ z. z) in
          get_or-eq_default (position_after at v o).slots 0 (omega arith)
          ∙ rw none (sym (get_or-eq_default at.slots 0 (omega arith))))

      pub after_is : length at.slots ≡ 8 → state_of p (position_after at v o) ≡ after net (state_of p at) (move_of v) o
      unfolding after
      after_is long =
          let next = add-one v.slot in
          let left = mask_narrow p.points 8 (λ x. bit at.left x && not (bit v.points x)) wf.head.points
          (λ x y. ok.points_left_lem x (and_left (bit at.left x) (not (bit v.points x)) y)) in
          let slots = fun_ext (slots_after_lem long) in
          let heard = mask_after (condition net) (hears net (move_of v)) (bit o) heard_after in
          let decided = mask_after (decision net) (settles net (move_of v)) (bit v.choices) decided_after in
          λ i. record { open_from = next i; left = left i; slots = slots i; heard = heard i; decided = decided i }

      unfoldable pub after_proper : Proper p (position_after at v o)
      after_proper =
          record {
            points_left_lem = λ x y. ok.points_left_lem x (and_left (bit at.left x) (not (bit v.points x)) (in_mask 8 _ x y).1);
            disclosed = λ l y. let x = net.disclosing l in
                by_test (bit at.values l)
                (λ b. gone at v o x (rw (ok.disclosed l b)))
                (λ z. by_test (bit v.choices l)
                (λ b. left_no_more x (and_right (decision net l) (bit v.points x) (lg.disclosed l b)))
                (λ w. left_no_more x (heard_point net (move_of v) l (out l (rw (z, w) at (in_mask 8 _ l y).1)))));
            above = ok.above ++ (step ∷ []);
            legal = legal_on net ok.above (start net) step ok.legal (subst (λ (s : State). Legal net s (move_of v)) ok.stands lg) out;
            reached = ap (λ (u : Position). position_after u v o) ok.reached ∙ sym (along_on ok.above (start_position p) step);
            stands = after_is long ∙ ap (λ (s : State). after net s (move_of v) o) ok.stands ∙ sym (state_on net ok.above (start net) step);
          }
        where
          step : Step
          step = record { instruction = move_of v; report = o }

          long : length at.slots ≡ 8
          long = ap (λ (u : Position). length u.slots) ok.reached ∙ along_long ok.above (start_position p) (length-replicate {A = ℕ} 8 0)
