-- Laws of the order of moves: the steps lead through the legal and timely moves, first to last, and each leaves fewer ahead. Only the
-- checker need believe this file.
use mathlib.Core.Path.{◌≡◌, refl, sym, ◌∙◌, subst}
use mathlib.Core.Logic.{◌↔◌, inl, inr, ⊎_elim, by_cases}
use mathlib.Core.Bool.{true}
use mathlib.Core.List.{List}
use Prim.Native.Nat.{ℕ, suc, ◌+◌, ◌-◌, ◌*◌, ◌≤◌, ◌<◌}
use native.Mathlib.Omega.{arith}
use native.Mathlib.Decide.{dec_le, ℕ_discrete}
use lib.Dec.{leb}
use Rattle.std.specs.Prelude.{Option, Some, None}
use Rattle.network.specs.Mask.{bit}
use Rattle.network.specs.Network.{Network, slots_in}
use Rattle.network.specs.Game.{State, Move, Legal}
use Rattle.network.specs.FirstMoves.{Before}
use Rattle.network.proofs.Booleans.{clash, and_left, and_right, and_make, leb_yes, leb_is}
use Rattle.network.proofs.MaskLaws.{bit_zero, bit_mask, in_mask, bits_lt}
use Rattle.network.proofs.GameLaws.{some_points}
use Rattle.network.proofs.SearchLaws.{some_bit}
use Rattle.masks.specs.Next.{next_inside}
use Rattle.masks.proofs.NextLaws.{Within, Last, Next, next_inside_cases}
use Rattle.plan.specs.declared.Plan.{Plan}
use Rattle.plan.specs.Plan.{network_of}
use Rattle.plan.specs.Settled.{settled_by}
use Rattle.plan.specs.WellFormed.{WellFormed}
use Rattle.tree.specs.declared.Node.{Node}
use Rattle.tree.specs.Parts.{move_of}
use Rattle.game.specs.declared.Position.{Position}
use Rattle.game.specs.Position.{state_of, Proper}
use Rattle.game.proofs.LegalLaws.{choices_settled}
use Rattle.moves.specs.Moves.{FirstOf, Timely, ready_at, from_slot, first_step, next_step}
use Rattle.moves.proofs.StepLaws.{
  choices_behind,
  points_behind,
  Idle,
  none_ready,
  first_ready,
  ready_cases,
  more_choices,
  other_points,
  later_slot,
}

-- ---- what the order says

before_slot : {m k : Move} → Before m k → m.slot ≤ k.slot
before_slot (inl lt) = omega arith
before_slot (inr (e, rest)) = omega arith

before_points : {m k : Move} → Before m k → m.slot ≡ k.slot → m.points ≤ k.points
before_points (inl lt) t = absurd (omega arith)
before_points (inr (e, inl lt)) t = omega arith
before_points (inr (e, inr (q, lt))) t = omega arith

before_choices : {m k : Move} → Before m k → m.slot ≡ k.slot → m.points ≡ k.points → m.choices < k.choices
before_choices (inl lt) t q = absurd (omega arith)
before_choices (inr (e, inl lt)) t q = absurd (omega arith)
before_choices (inr (e, inr (r, lt))) t q = lt

-- ---- the measure of a loop that steps through the moves

-- a number that falls with every step
abbrev pub moves_ahead : Option Node → ℕ
moves_ahead None = 0
moves_ahead (Some v) = suc ((63 - v.slot) * 65536 + (255 - v.points) * 256 + (255 - v.choices))

record Bytes (v : Node) : Type 0 where
  slot_small : v.slot ≤ 63
  points_small : v.points < 256
  choices_small : v.choices < 256

fewer_ahead : (v w : Node) → Bytes v → Bytes w → Before (move_of v) (move_of w) → moves_ahead (Some w) < moves_ahead (Some v)
fewer_ahead v w a b (inl lt) = omega arith
fewer_ahead v w a b (inr (e, inl lt)) = omega arith
fewer_ahead v w a b (inr (e, inr (q, lt))) = omega arith

module _ (p : Plan) (wf : WellFormed p) (at : Position) (ok : Proper p at) (soonest : List ℕ) where
  abbrev net : Network
  net = network_of p

  abbrev s : State
  s = state_of p at

  abbrev ready : ℕ → ℕ
  ready slot = ready_at at soonest slot

  -- ---- the masks of a legal move

  left_byte : (x : ℕ) → bit at.left x ≡ true → x < 8
  left_byte x y = let lt = ok.points_left_lem x y in let few = wf.head.points in omega arith

  settled_byte : (points l : ℕ) → bit (settled_by p points) l ≡ true → l < 8
  settled_byte points l y = let lt = (in_mask 6 _ l y).0 in omega arith

  ready_byte : (slot x : ℕ) → bit (ready slot) x ≡ true → x < 8
  ready_byte slot x y = (in_mask 8 _ x y).0

  ready_left : (slot x : ℕ) → bit (ready slot) x ≡ true → bit at.left x ≡ true
  ready_left slot x y = and_left (bit at.left x) (leb (slots_in soonest x) slot) (in_mask 8 _ x y).1

  -- a legal move is timely just where its points are ready
  timely_ready : (k : Move) → Legal net s k → Timely soonest k → Within (ready k.slot) k.points
  timely_ready k lk early x y =
      let left = lk.not_yet x y in
      bit_mask 8 _ x (left_byte x left) ∙ and_make left (leb_yes (slots_in soonest x) k.slot (early x y))

  ready_timely :
      (slot points choices : ℕ) → Within (ready slot) points →
      Timely soonest (record { slot = slot; points = points; choices = choices })
  ready_timely slot points choices inside x y =
      leb_is (slots_in soonest x) slot (and_right (bit at.left x) (leb (slots_in soonest x) slot) (in_mask 8 _ x (inside x y)).1)

  -- ready points, and no choices
  bare_legal :
      (slot points : ℕ) → at.earliest ≤ slot → slot ≤ p.horizon → 0 < points → Within (ready slot) points →
      Legal net s (record { slot = slot; points = points; choices = 0 })
  bare_legal slot points later within some inside =
      record {
        later = later;
        within = within;
        some = some_bit p.points points (λ x y. ok.points_left_lem x (ready_left slot x (inside x y))) some;
        not_yet = λ x y. ready_left slot x (inside x y);
        disclosed = λ l y. clash y (bit_zero l);
      }

  legal_bytes : (v : Node) → Legal net s (move_of v) → Bytes v
  legal_bytes v lg =
      record {
        slot_small = let w = lg.within in let h = wf.head.horizon in omega arith;
        points_small = bits_lt 8 v.points (λ x y. left_byte x (lg.not_yet x y));
        choices_small = bits_lt 8 v.choices (λ l y. settled_byte v.points l (choices_settled p wf s (move_of v) lg l y));
      }

  -- ---- from a slot on

  -- where no point is ready no move is timely
  ready_some : (k : Move) → Legal net s k → Timely soonest k → ¬ (ready k.slot ≡ 0)
  ready_some k lk early e =
      let x = lk.some in
      clash (timely_ready k lk early x.0 x.2) (rw e (bit_zero x.0))

  not_idle : (slot t : ℕ) → Idle at soonest slot t → (k : Move) → Legal net s k → Timely soonest k → slot ≤ k.slot → t ≤ k.slot
  not_idle slot t i k lk early le =
      by_cases (dec_le t k.slot) (λ l. l) (λ n. absurd (ready_some k lk early (i.none k.slot le (omega arith))))

  -- the least set of ready points
  first_points : (slot : ℕ) → ¬ (ready slot ≡ 0) → Next (ready slot) 0
  first_points slot n =
      ⊎_elim
      (λ l. absurd (l.none_greater (ready slot) (λ x y. y) (omega arith)))
      (λ r. r)
      (next_inside_cases (ready slot) (ready_byte slot) 0 (λ x y. clash y (bit_zero x)))

  -- none in this slot or a later one comes before its first
  first_least :
      (slot : ℕ) → Next (ready slot) 0 → (k : Move) → Legal net s k → Timely soonest k → slot ≤ k.slot →
      ¬ Before k (record { slot = slot; points = next_inside (ready slot) 0; choices = 0 })
  first_least slot r k lk early le b =
      let e : k.slot ≡ slot = let u = before_slot b in omega arith in
      let some = some_points net s k lk in
      let inside : Within (ready slot) k.points
      = subst (λ (t : ℕ). Within (ready t) k.points) e (timely_ready k lk early) in
      let l = r.least k.points inside (omega arith) in
      let q : k.points ≡ next_inside (ready slot) 0 = let u = before_points b e in omega arith in
      let c = before_choices b e q in
      omega arith

  -- R says that a legal move is timely and in this slot or a later one
  from_slot_is :
      (R : Move → Type 0) (slot : ℕ) → at.earliest ≤ slot →
      ((k : Move) → Legal net s k → R k ↔ (Timely soonest k × (slot ≤ k.slot))) → FirstOf net s R (from_slot p at soonest slot)
  unfolding FirstOf
  from_slot_is R slot later says =
      let c = ready_cases p at soonest slot in
      let t = c.0 in
      let idle = c.1 in
      let from = idle.from in
      let reached : (k : Move) → Legal net s k → R k → t ≤ k.slot
      = λ k lk h. let q = (says k lk).0 h in not_idle slot t idle k lk q.0 q.1 in
      ⊎_elim
      (λ past. rw (none_ready p at soonest slot t idle past)
      (λ k lk h. let l = reached k lk h in let w = lk.within in omega arith))
      (λ here. let r = first_points t here.1 in
      let lg = bare_legal t (next_inside (ready t) 0) (omega arith) here.0 r.greater r.within in
      rw (first_ready p at soonest slot t idle here.0 here.1) (
        lg,
        (says _ lg).1 (ready_timely t _ 0 r.within, from),
        λ k lk h. first_least t r k lk ((says k lk).0 h).0 (reached k lk h),
      ))
      c.2

  pub first_step_is : FirstOf net s (λ k. Timely soonest k) (first_step p at soonest)
  first_step_is = from_slot_is (λ k. Timely soonest k) at.earliest (omega arith) (λ k lk. (λ early. (early, lk.later), λ q. q.0))

  -- ---- behind a move

  module _ (v : Node) (lg : Legal net s (move_of v)) (early : Timely soonest (move_of v)) where
    abbrev MoreChoices : Type 0
    MoreChoices = Next (settled_by p v.points) v.choices

    abbrev LastChoices : Type 0
    LastChoices = Last (settled_by p v.points) v.choices

    -- the choices of a legal move with the same points
    same_settled : (k : Move) → Legal net s k → v.points ≡ k.points → Within (settled_by p v.points) k.choices
    same_settled k lk q = subst (λ (x : ℕ). Within (settled_by p x) k.choices) (sym q) (choices_settled p wf s k lk)

    -- the points of a timely move in the same slot
    same_ready : (k : Move) → Legal net s k → Timely soonest k → v.slot ≡ k.slot → Within (ready v.slot) k.points
    same_ready k lk ek t = subst (λ (x : ℕ). Within (ready x) k.points) (sym t) (timely_ready k lk ek)

    -- the same points with more choices
    choices_legal : MoreChoices → Legal net s (record { slot = v.slot; points = v.points; choices = choices_behind p v })
    choices_legal r =
        record {
          later = lg.later;
          within = lg.within;
          some = lg.some;
          not_yet = lg.not_yet;
          disclosed = λ l y. (in_mask 6 _ l (r.within l y)).1;
        }

    -- behind the last choices, in the same slot: new points
    new_points : LastChoices → (k : Move) → Legal net s k → Before (move_of v) k → v.slot ≡ k.slot → v.points < k.points
    new_points l k lk a t =
        by_cases (ℕ_discrete v.points k.points)
        (λ q. absurd (l.none_greater k.choices (same_settled k lk q) (before_choices a t q)))
        (λ n. let u = before_points a t in omega arith)

    choices_least :
        MoreChoices → (k : Move) → Legal net s k → Before (move_of v) k →
        ¬ Before k (record { slot = v.slot; points = v.points; choices = choices_behind p v })
    choices_least r k lk a b =
        let t : v.slot ≡ k.slot = let x = before_slot a in let y = before_slot b in omega arith in
        let q : v.points ≡ k.points = let x = before_points a t in let y = before_points b (sym t) in omega arith in
        let l = r.least k.choices (same_settled k lk q) (before_choices a t q) in
        let u = before_choices b (sym t) (sym q) in
        omega arith

    points_least :
        LastChoices → Next (ready v.slot) v.points → (k : Move) → Legal net s k → Timely soonest k → Before (move_of v) k →
        ¬ Before k (record { slot = v.slot; points = points_behind at soonest v; choices = 0 })
    points_least l r k lk ek a b =
        let t : v.slot ≡ k.slot = let x = before_slot a in let y = before_slot b in omega arith in
        let le = r.least k.points (same_ready k lk ek t) (new_points l k lk a t) in
        let q : k.points ≡ points_behind at soonest v = let u = before_points b (sym t) in omega arith in
        let c = before_choices b (sym t) q in
        omega arith

    later_exactly :
        LastChoices → Last (ready v.slot) v.points → (k : Move) → Legal net s k →
        (Timely soonest k × Before (move_of v) k) ↔ (Timely soonest k × (v.slot + 1 ≤ k.slot))
    later_exactly l r k lk = (
      λ h. (
        h.0,
        by_cases (ℕ_discrete v.slot k.slot)
            (λ t. absurd (r.none_greater k.points (same_ready k lk h.0 t) (new_points l k lk h.1 t)))
            (λ n. let u = before_slot h.1 in omega arith),
      ),
      λ h. let le = h.1 in (h.0, inl (omega arith)),
    )

    abbrev Behind : Move → Type 0
    Behind k = Timely soonest k × Before (move_of v) k

    pub next_step_is : FirstOf net s (λ k. Timely soonest k × Before (move_of v) k) (next_step p at soonest v)
    unfolding FirstOf
    next_step_is =
        let later = lg.later in
        ⊎_elim
        (λ l. ⊎_elim
        (λ r. rw (later_slot p at soonest v l.zero_next r.zero_next)
        (from_slot_is Behind (v.slot + 1) (omega arith) (later_exactly l r)))
        (λ r. let g = r.greater in
        rw (other_points p at soonest v l.zero_next (λ e. omega arith)) (
          bare_legal v.slot (points_behind at soonest v) later lg.within (omega arith) r.within,
          (ready_timely v.slot _ 0 r.within, inr (refl, inl g)),
          λ k lk h. points_least l r k lk h.0 h.1,
        ))
        (next_inside_cases (ready v.slot) (ready_byte v.slot) v.points (timely_ready (move_of v) lg early)))
        (λ r. let g = r.greater in
        rw (more_choices p at soonest v (λ e. omega arith)) (
          choices_legal r,
          (early, inr (refl, inr (refl, g))),
          λ k lk h. choices_least r k lk h.1,
        ))
        (next_inside_cases (settled_by p v.points) (settled_byte v.points) v.choices (choices_settled p wf s (move_of v) lg))

    pub ahead_falls : moves_ahead (next_step p at soonest v) < moves_ahead (Some v)
    unfolding FirstOf
    ahead_falls = falls (next_step p at soonest v) next_step_is
      where
        falls : (t : Option Node) → FirstOf net s Behind t → moves_ahead t < moves_ahead (Some v)
        falls None f = omega arith
        falls (Some w) f = fewer_ahead v w (legal_bytes v lg) (legal_bytes w f.0) f.1.1
