-- Laws of the steps through the moves, case by case. Only the checker need believe this file.
use mathlib.Core.Path.{◌≡◌, refl}
use mathlib.Core.Logic.{◌⊎◌, inl, inr, by_cases}
use mathlib.Core.Bool.{Bool, true, false}
use mathlib.Core.List.{List}
use Prim.Native.Nat.{ℕ, zero, suc, ◌+◌, ◌-◌, ◌≤◌, ◌<◌}
use native.Mathlib.Omega.{arith}
use native.Mathlib.Decide.{dec_lt}
use native.Mathlib.Nat.{not-suc-le-zero}
use Rattle.std.specs.Prelude.{Some, None}
use Rattle.network.specs.Mask.{first_below}
use Rattle.network.proofs.Booleans.{by_test, clash, not_true, not_false, leb_yes, leb_no, eqb_is, eqb_yes, eqb_no, differs}
use Rattle.network.proofs.BelowLaws.{before_first, first_le}
use Rattle.masks.specs.Next.{next_inside}
use Rattle.plan.specs.declared.Plan.{Plan}
use Rattle.plan.specs.Settled.{settled_by}
use Rattle.tree.specs.declared.Node.{Node}
use Rattle.game.specs.declared.Position.{Position}
use Rattle.moves.specs.Moves.{ready_at, some_ready, from_slot, next_step}

-- ---- the first number that has f, where it is known; where none has it

first_has : (n : ℕ) (f : ℕ → Bool) → first_below n f < n → f (first_below n f) ≡ true
unfolding first_below
first_has zero f h = absurd (not-suc-le-zero h)
first_has (suc n) f h =
    by_test (f zero)
    (λ y. rw y y)
    (λ z. let lt : suc (first_below n (λ i. f (suc i))) < suc n = rw z at h in rw z (first_has n (λ i. f (suc i)) (omega arith)))

first_none : (n : ℕ) (f : ℕ → Bool) → ((j : ℕ) → j < n → f j ≡ false) → first_below n f ≡ n
unfolding first_below
first_none zero f h = refl
first_none (suc n) f h = rw (h zero (omega arith), first_none n (λ i. f (suc i)) (λ j lt. h (suc j) (omega arith)))

first_is : (n : ℕ) (f : ℕ → Bool) (i : ℕ) → i < n → f i ≡ true → ((j : ℕ) → j < i → f j ≡ false) → first_below n f ≡ i
first_is n f i lt y none =
    let le = first_le n f i y in
    by_cases (dec_lt (first_below n f) i)
    (λ l. clash (first_has n f (omega arith)) (none (first_below n f) l))
    (λ ge. omega arith)

-- ---- behind a move: the next choices for its points, the next points ready; 0 where there are no more

abbrev pub choices_behind : Plan → Node → ℕ
choices_behind p v = next_inside (settled_by p v.points) v.choices

abbrev pub points_behind : Position → List ℕ → Node → ℕ
points_behind at soonest v = next_inside (ready_at at soonest v.slot) v.points

-- from a slot on, no point is ready before slot t
pub record Idle (at : Position) (soonest : List ℕ) (slot t : ℕ) : Type 0 where
  pub from : slot ≤ t
  pub none : (u : ℕ) → slot ≤ u → u < t → ready_at at soonest u ≡ 0

module _ (p : Plan) (at : Position) (soonest : List ℕ) where
  -- ---- from a slot on

  abbrev ready_from : ℕ → ℕ → Bool
  ready_from slot i = some_ready at soonest (slot + i)

  pub idle_start : (slot : ℕ) → Idle at soonest slot slot
  idle_start slot = record { from = omega arith; none = λ u a b. absurd (omega arith) }

  pub idle_more : (slot t : ℕ) → Idle at soonest slot t → ready_at at soonest t ≡ 0 → Idle at soonest slot (t + 1)
  idle_more slot t i e =
      let le = i.from in
      record {
        from = omega arith;
        none = λ u a b. by_cases (dec_lt u t) (i.none u a) (λ ge. let q : u ≡ t = omega arith in rw q e);
      }

  idle_at : (slot t : ℕ) → Idle at soonest slot t → (j : ℕ) → slot + j < t → ready_from slot j ≡ false
  idle_at slot t i j lt = rw (eqb_yes (ready_at at soonest (slot + j)) 0 (i.none (slot + j) (omega arith) lt))

  -- past the horizon
  pub none_ready : (slot t : ℕ) → Idle at soonest slot t → p.horizon < t → from_slot p at soonest slot ≡ None
  unfolding from_slot
  none_ready slot t i past =
      let e : first_below (suc p.horizon - slot) (ready_from slot) ≡ suc p.horizon - slot
      = first_none _ (ready_from slot) (λ j lt. idle_at slot t i j (omega arith)) in
      rw (e, leb_no (slot + (suc p.horizon - slot)) p.horizon (λ le. omega arith))

  -- the first slot in which some are
  pub first_ready :
      (slot t : ℕ) → Idle at soonest slot t → t ≤ p.horizon → ¬ (ready_at at soonest t ≡ 0) →
      from_slot p at soonest slot ≡ Some (record { slot = t; points = next_inside (ready_at at soonest t) 0; choices = 0 })
  unfolding from_slot
  first_ready slot t i within some =
      let from = i.from in
      let at-t : slot + (t - slot) ≡ t = omega arith in
      let e : first_below (suc p.horizon - slot) (ready_from slot) ≡ t - slot
      = first_is _ (ready_from slot) (t - slot) (omega arith) (rw (at-t, eqb_no (ready_at at soonest t) 0 some))
      (λ j lt. idle_at slot t i j (omega arith)) in
      rw (e, at-t, leb_yes t p.horizon within)

  -- one of the two is the case
  pub ready_cases :
      (slot : ℕ) → (t : ℕ) × Idle at soonest slot t × ((p.horizon < t) ⊎ ((t ≤ p.horizon) × ¬ (ready_at at soonest t ≡ 0)))
  ready_cases slot =
      let n = suc p.horizon - slot in
      let first = first_below (suc p.horizon - slot) (ready_from slot) in (
        slot + first,
        record {
          from = omega arith;
          none = λ u a b. let at-u : slot + (u - slot) ≡ u = omega arith in
              let z : some_ready at soonest (slot + (u - slot)) ≡ false = before_first n (ready_from slot) (u - slot) (omega arith) in
              eqb_is _ 0 (not_false _ (rw at-u at z));
        },
        by_cases (dec_lt first (suc p.horizon - slot))
            (λ lt. inr (omega arith, differs _ 0 (not_true _ (first_has n (ready_from slot) lt))))
            (λ ge. inl (omega arith)),
      )

  -- ---- behind a move: more choices, other points, a later slot

  pub more_choices :
      (v : Node) → ¬ (choices_behind p v ≡ 0) →
      next_step p at soonest v ≡ Some (record { slot = v.slot; points = v.points; choices = choices_behind p v })
  unfolding next_step
  more_choices v n = rw (eqb_no (choices_behind p v) 0 n)

  pub other_points :
      (v : Node) → choices_behind p v ≡ 0 → ¬ (points_behind at soonest v ≡ 0) →
      next_step p at soonest v ≡ Some (record { slot = v.slot; points = points_behind at soonest v; choices = 0 })
  unfolding next_step
  other_points v e n = rw (eqb_yes (choices_behind p v) 0 e, eqb_no (points_behind at soonest v) 0 n)

  pub later_slot :
      (v : Node) → choices_behind p v ≡ 0 → points_behind at soonest v ≡ 0 → next_step p at soonest v ≡ from_slot p at soonest (v.slot + 1)
  unfolding next_step
  later_slot v e f = rw (eqb_yes (choices_behind p v) 0 e, eqb_yes (points_behind at soonest v) 0 f)
