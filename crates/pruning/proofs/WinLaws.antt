-- Laws of wins: a tree that wins from a position is a win as the table of least slots sees it. So a view that has no win is of a position
-- that is lost, and slots that no win comes before are slots that no winning move comes before. Only the checker need believe this file.
use mathlib.Core.Path.{◌≡◌, refl, sym, ap, ◌∙◌, subst}
use mathlib.Core.Logic.{by_cases, ◌⊎◌, inl, inr, ⊎_elim, ◌≢◌}
use mathlib.Core.Bool.{Bool, true, false, cond, ◌&&◌, ◌||◌, and-false}
use mathlib.Core.List.{List}
use Prim.Native.Nat.{ℕ, ◌-◌, ◌%◌, ◌^◌, ◌≤◌, ◌<◌}
use native.Mathlib.Omega.{arith}
use native.Mathlib.Nat.{mod-eq_of_lt, mod-le}
use native.Mathlib.Decide.{dec_lt, ℕ_discrete}
use lib.Bits.{bit_and, bit_xor, or_lt}
use lib.Dec.{ltb, eqb}
use lib.ListN.{get_or}
use Rattle.network.specs.Mask.{bit, mask}
use Rattle.network.specs.Network.{Network, condition, decision, condition_at, decision_at, slots_in}
use Rattle.network.specs.Game.{State, Move, Kept, after}
use Rattle.network.specs.Tree.{Tree, node, Sound}
use Rattle.network.specs.FirstMoves.{CanBeWon, Winning}
use Rattle.network.specs.Search.{first_tree_from}
use Rattle.network.proofs.Booleans.{by_test, clash, and_left, eqb_no}
use Rattle.network.proofs.BelowLaws.{count_le}
use Rattle.network.proofs.MaskLaws.{bit_mask, bit_mask_above, mask_lt}
use Rattle.network.proofs.MachineLaws.{bit_and_lem, bit_or_lem, bit_not}
use Rattle.network.proofs.NetworkLaws.{condition_lt, decision_lt, one_kind}
use Rattle.network.proofs.GameLaws.{after_inside}
use Rattle.network.proofs.PathLaws.{SameAt, slot_first}
use Rattle.network.proofs.FirstLaws.{found→sound, winnable_exactly}
use Rattle.std.specs.Borrow.{Bor}
use Rattle.plan.specs.declared.Constraint.{Constraint}
use Rattle.plan.specs.declared.Plan.{Plan}
use Rattle.plan.specs.Plan.{letter_at, network_of}
use Rattle.plan.specs.Settled.{settled_by}
use Rattle.plan.specs.WellFormed.{WellFormed}
use Rattle.plan.proofs.PlanLaws.{network_of_well_formed}
use Rattle.plan.proofs.SliceLaws.{get_listed}
use Rattle.constraints.specs.Used.{constraints_of}
use Rattle.table.specs.declared.View.{View}
use Rattle.table.specs.Table.{Within, set_to, unknown, free, flipped, Win, Below}
use Rattle.table.proofs.TableLaws.{free_byte}
use Rattle.table.proofs.SetToLaws.{part_within, set_to_bit, set_to_is}
use Rattle.game.specs.declared.Position.{Position}
use Rattle.game.specs.Carried.{slots_after}
use Rattle.game.specs.Position.{state_of, Proper}
use Rattle.game.proofs.PositionLaws.{value_is}
use Rattle.pruning.specs.Pruning.{letters_at, view_of}
use Rattle.pruning.proofs.SettingLaws.{flip_other, Won, final, unheard, undecided, settle, unheard_condition, undecided_decision, settled_unheard, settled_undecided, settled_known, settled_small, settled_path, settled_on, on_only, on_undecided, on_known, on_small, on_keeps, slot_past, slot_ahead, slot_flip}

-- a mask of letters, of which there are at most six
letters_bit : (f : ℕ → Bool) → ((l : ℕ) → f l ≡ true → l < 6) → (l : ℕ) → bit (mask 6 f) l ≡ f l
letters_bit f h l =
    by_cases (dec_lt l 6)
    (λ lt. bit_mask 6 f l lt)
    (λ ge. bit_mask_above 6 f l (omega arith) ∙ sym (by_test (f l) (λ y. absurd (ge (h l y))) (λ z. z)))

or_none : (a b : Bool) → (a || b) ≡ false → (a ≡ false) × (b ≡ false)
or_none true b e = clash refl e
or_none false b e = (refl, e)

-- a winning move with the trees that the search finds after its outcomes is a tree that wins
winning_sound :
    (net : Network) (st : State) (m : Move) → Winning net st m →
    Sound net (Kept net) (node m (λ o. first_tree_from net net.points (after net st m o))) st
unfolding Sound
winning_sound net st m w = (
  w.legal,
  λ o k. let n = net.points in
      let next = after net st m o in
      found→sound net n next ((winnable_exactly net n next (after_inside net st m o) (count_le n (bit next.left))).1 (w.answered o k)),
)

module _ (p : Plan) (wf : WellFormed p) (at : Position) (constraints : Bor (List Constraint)) where
  abbrev net : Network
  net = network_of p

  abbrev st : State
  st = state_of p at

  abbrev v : View
  v = view_of p at constraints

  -- ---- the view

  unheard_is : (l : ℕ) → bit v.unheard l ≡ condition_at net at.left l
  unheard_is =
      letters_bit _ (λ l y. let few = wf.head.letters in
      let lt = condition_lt net l (and_left (condition net l) (bit at.left (net.disclosing l)) y) in omega arith)

  settled_by_is : (points l : ℕ) → bit (settled_by p points) l ≡ decision_at net points l
  settled_by_is points =
      letters_bit _ (λ l y. let few = wf.head.letters in
      let lt = decision_lt net l (and_left (decision net l) (bit points (net.disclosing l)) y) in omega arith)

  unheard_byte : v.unheard < 256
  unheard_byte = let h = mask_lt 6 (condition_at net at.left) in omega arith

  undecided_byte : v.undecided < 256
  undecided_byte = let h = mask_lt 6 (decision_at net at.left) in omega arith

  own_is : (x : ℕ) → x < 8 → get_or v.own x 0 ≡ letters_at p.letter p.letters x
  own_is x lt = get_listed 0 8 _ x lt

  slots_after_is :
      (points slot x : ℕ) → x < 8 →
      get_or (slots_after at.slots points slot) x 0 ≡ cond (bit points x) slot (get_or at.slots x 0)
  slots_after_is points slot x lt = get_listed 0 8 _ x lt

  disclosing_is : (q : ℕ) → bit v.unheard q ≡ true → get_or v.disclosing q 0 % 8 ≡ net.disclosing q
  disclosing_is q y =
      let letters = wf.head.letters in
      let points = wf.head.points in
      let lt = condition_lt net q (and_left (condition net q) (bit at.left (net.disclosing q)) (sym (unheard_is q) ∙ y)) in
      let point = wf.letters.disclosing q lt in
      rw (get_listed 0 6 (λ l. (letter_at p l).point) q (omega arith)) (mod-eq_of_lt (omega arith))

  -- a decision not yet made that is not free at x is the one that x discloses
  own_decision : (x l : ℕ) → x < 8 → l < 6 → decision_at net at.left l ≡ true → bit (free v x) l ≡ false → net.disclosing l ≡ x
  own_decision x l hx hl d z =
      by_cases (ℕ_discrete (net.disclosing l) x) (λ e. e) (λ ne.
      clash (rw (
        bit_and_lem v.undecided (255 - get_or v.own x 0) l,
        settled_by_is at.left l,
        d,
        own_is x hx,
        bit_not 8 (letters_at p.letter p.letters x) l (let h = mask_lt 6 (λ k. ltb k p.letters && eqb (letter_at p k).point x) in omega arith) (omega arith),
        bit_mask 6 (λ k. ltb k p.letters && eqb (letter_at p k).point x) l hl,
        eqb_no (net.disclosing l) x ne,
        and-false,
      )) z)

  -- ---- the win

  module _ (ok : Proper p at) (t : Tree) (sd : Sound net (Kept net) t st) where
    abbrev g : Won net
    g =
        record {
          is_network = network_of_well_formed p wf;
          few = wf.head.letters;
          state = st;
          tree = t;
          sound = sd;
          values = at.values;
          known = value_is p wf at;
        }

    abbrev time : ℕ → ℕ → ℕ
    time s x = (final g s).slots x

    from : (s x : ℕ) → x < p.points → get_or v.low x 0 ≤ time s x
    from s x lt =
        let few = wf.head.points in
        subst (λ (n : ℕ). n ≤ time s x) (sym (slots_after_is at.left (at.earliest % 256) x (omega arith))) (by_test (bit at.left x)
        (λ y. let a = (slot_ahead g s x lt y).0 in let b = mod-le at.earliest 256 in rw y (omega arith))
        (λ z. rw (z, slot_past g s x lt z) (omega arith)))

    upto : (s x : ℕ) → x < p.points → time s x ≤ get_or v.cap x 0
    upto s x lt =
        let few = wf.head.points in
        subst (λ (n : ℕ). time s x ≤ n) (sym (slots_after_is at.left p.horizon x (omega arith))) (by_test (bit at.left x)
        (λ y. rw y (slot_ahead g s x lt y).1)
        (λ z. rw (z, slot_past g s x lt z) (omega arith)))

    -- the setting of the scenario with condition q the other way round, where x comes in the same slot with its decision alike
    flip_is :
        (s q x : ℕ) → settle g s ≡ s → bit v.unheard q ≡ true → x < 8 →
        SameAt net g.is_network (final g s) (final g (bit_xor s (2 ^ q))) x →
        let r = settle g (bit_xor s (2 ^ q)) in
        flipped v s q x (bit_and (free v x) r) ≡ r
    flip_is s q x on yq hx same =
        set_to_is (free v x) (free_byte v x undecided_byte) f (settle g f) (settled_small g f) (λ l lt z. by_test (unheard g l)
        (λ y. sym (settled_unheard g f l y))
        (λ n. flip_other s q l (other l n) ∙ by_test (undecided g l)
        (λ y. on_undecided g s on l y
        ∙ same.choice l (undecided_decision g l y) (own_decision x l hx lt y z)
        ∙ sym (settled_undecided g f l y))
        (λ n'. on_known g s on l lt n n' ∙ sym (settled_known g f l lt n n'))))
      where
        f : ℕ
        f = bit_xor s (2 ^ q)

        other : (l : ℕ) → unheard g l ≡ false → l ≢ q
        other l n e = clash (sym (unheard_is q) ∙ yq) (subst (λ (i : ℕ). unheard g i ≡ false) e n)

    flip :
        (s q x : ℕ) → settle g s ≡ s → bit v.unheard q ≡ true → bit v.left x ≡ true →
        (time s (get_or v.disclosing q 0 % 8) < time s x)
        ⊎ ((d : ℕ) × Within (free v x) d × (settle g (flipped v s q x d) ≡ flipped v s q x d) × (time (flipped v s q x d) x ≡ time s x))
    flip s q x on yq yx =
        let lt = ok.points_left_lem x yx in
        let few = wf.head.points in
        let f = bit_xor s (2 ^ q) in
        let r = settle g f in
        ⊎_elim
        (λ less. inl (rw (disclosing_is q yq) less))
        (λ same. let e = flip_is s q x on yq (omega arith) same in
        inr (
          bit_and (free v x) r,
          part_within (free v x) r,
          subst (λ (n : ℕ). settle g n ≡ n) (sym e) (settled_on g f),
          subst (λ (n : ℕ). time n x ≡ time s x) (sym e) (ap (λ (a : State). a.slots x) (settled_path g f) ∙ same.slot),
        ))
        (slot_flip g s q x lt yx)

    known : (s : ℕ) → settle g s ≡ s → (d : ℕ) × Within (unknown v) d × (set_to v.values (unknown v) d ≡ s)
    known s on = (
      bit_and (unknown v) s,
      part_within (unknown v) s,
      set_to_is (unknown v) (or_lt 8 v.unheard v.undecided unheard_byte undecided_byte) at.values s (on_small g s on)
          (λ l lt z. let n = or_none (bit v.unheard l) (bit v.undecided l) (sym (bit_or_lem v.unheard v.undecided l) ∙ z) in
          sym (on_known g s on l lt (sym (unheard_is l) ∙ n.0) (sym (settled_by_is at.left l) ∙ n.1))),
    )

    some :
        (u : ℕ) → Within v.unheard u →
        let c = set_to v.values v.unheard u in
        (d : ℕ) × Within v.undecided d × (settle g (set_to c v.undecided d) ≡ set_to c v.undecided d)
    some u w =
        let c = set_to v.values v.unheard u in
        let r = settle g c in
        let e : set_to c v.undecided (bit_and v.undecided r) ≡ r
        = set_to_is v.undecided undecided_byte c r (settled_small g c) (λ l lt z. by_test (unheard g l)
        (λ y. sym (settled_unheard g c l y))
        (λ n. set_to_bit v.unheard unheard_byte v.values u w l lt
        ∙ rw (unheard_is l, n) (sym (settled_known g c l lt n (sym (settled_by_is at.left l) ∙ z))))) in
        (bit_and v.undecided r, part_within v.undecided r, subst (λ (n : ℕ). settle g n ≡ n) (sym e) (settled_on g c))

    only :
        (s d : ℕ) → settle g s ≡ s → Within v.undecided d →
        settle g (set_to s v.undecided d) ≡ set_to s v.undecided d → set_to s v.undecided d ≡ s
    only s d on w on' =
        on_only g (set_to s v.undecided d) s on' on (λ l y.
        let letters = wf.head.letters in
        let k = unheard_condition g l y in
        let lt = condition_lt net l k in
        let z : bit v.undecided l ≡ false
        = settled_by_is at.left l ∙ by_test (undecided g l) (λ b. one_kind net l k (undecided_decision g l b)) (λ b. b) in
        set_to_bit v.undecided undecided_byte s d w l (omega arith) ∙ rw z)

    -- `small`: no slot of a point performed is 255, which stands for no slot in a table
    abbrev win_of :
        ((x : ℕ) → x < 8 → get_or v.cap x 0 < 255) → constraints_of constraints.now ≡ net.constraints → Win v
    win_of small say =
        record {
          net = net;
          is_network = network_of_well_formed p wf;
          constraints = sym say;
          points = refl;
          few_points = wf.head.points;
          some_point = wf.head.some_point;
          settled = settle g;
          time = time;
          from = λ s x on lt. from s x lt;
          upto = λ s x on lt. upto s x lt;
          small = λ x lt. small x (let few = wf.head.points in omega arith);
          kept = on_keeps g;
          flip = flip;
          left_point = ok.points_left_lem;
          disclosing_point = λ q y.
              let lt = condition_lt net q (and_left (condition net q) (bit at.left (net.disclosing q)) (sym (unheard_is q) ∙ y)) in
              rw (disclosing_is q y) (wf.letters.disclosing q lt);
          known = known;
          some = some;
          only = only;
        }

  -- ---- what follows of the game

  module _
      (ok : Proper p at) (small : (x : ℕ) → x < 8 → get_or v.cap x 0 < 255)
      (say : constraints_of constraints.now ≡ net.constraints) where
    -- no win, so no tree that wins
    pub table_lost : ¬ Win v → ¬ CanBeWon net st
    table_lost none c = none (win_of ok c.tree c.sound small say)

    -- a winning move does not perform a point before the slots that every win keeps to
    pub table_timely :
        (slots : List ℕ) → ((w : Win v) (s : ℕ) → w.settled s ≡ s → Below w s slots) → (m : Move) → Winning net st m →
        (x : ℕ) → bit m.points x ≡ true → slots_in slots x ≤ m.slot
    table_timely slots below m w x y =
        let next : ℕ → Tree = λ o. first_tree_from net p.points (after net st m o) in
        let sd = winning_sound net st m w in
        let lt = ok.points_left_lem x (w.legal.not_yet x y) in
        let t = node m next in
        let s = settle (g ok t sd) 0 in
        let b = below (win_of ok t sd small say) s (settled_on (g ok t sd) 0) x lt in
        let e = slot_first net (network_of_well_formed p wf) (Kept net) m next st s x sd lt y in
        omega arith
