-- Laws of the raise: it only raises, to the cap at most and past no schedule, and where it rests the slots keep. Like NetworkLaws,
-- SoFarLaws and LimitLaws it opens what a constraint asks. Only the checker need believe it.
use mathlib.Core.Path.{◌≡◌, refl, ◌∙◌}
use mathlib.Core.Logic.{◌↔◌, by_cases}
use mathlib.Core.Bool.{true}
use mathlib.Core.List.{List, [], ◌∷◌}
use Prim.Native.Nat.{ℕ, suc, ◌+◌, min, max, ◌≤◌, ◌<◌}
use native.Mathlib.Omega.{arith}
use native.Mathlib.Nat.{le_trans}
use native.Mathlib.Decide.{dec_lt, ℕ_discrete}
use lib.IntN.{ℤ, pos, negsuc}
use lib.ListN.{length, length-set}
use lib.Seq.{set_out, get_or-set_same, get_or-set_other, ext_get_or}
use Rattle.network.specs.Network.{Constraint, Network, Scenario, Schedule, slots_in, holds, at_most, satisfies, keeps}
use Rattle.network.specs.IsNetwork.{Each, InNetwork, IsNetwork}
use Rattle.network.specs.Raise.{least_from, asked, turn, turns, raised}
use Rattle.network.proofs.Booleans.{by_test, clash, leb_yes, leb_is}
use Rattle.network.proofs.NetworkLaws.{keeps_is}

-- ---- what one constraint asks

least_from_lem : (x y : ℕ) (d : ℤ) → (at_most x y d ≡ true) ↔ (least_from y d ≤ x)
unfolding at_most least_from
least_from_lem x y (pos d) = (λ t. let h = leb_is y (x + d) t in omega arith, λ h. leb_yes y (x + d) (omega arith))
least_from_lem x y (negsuc d) = (leb_is (y + suc d) x, leb_yes (y + suc d) x)

least_from_mono : (y z : ℕ) (d : ℤ) → y ≤ z → least_from y d ≤ least_from z d
unfolding least_from
least_from_mono y z (pos d) h = omega arith
least_from_mono y z (negsuc d) h = omega arith

module _ (s : Scenario) where
  -- X stands no earlier than the constraint asks: exactly where the schedule keeps it, should its label hold
  abbrev Content : Schedule → Constraint → Type 0
  Content ψ c = asked s ψ c ≤ ψ c.from

  content_exactly : (ψ : Schedule) (c : Constraint) → (holds s c.label ≡ true → satisfies ψ c ≡ true) ↔ Content ψ c
  unfolding asked
  content_exactly ψ c =
      let f = least_from_lem (ψ c.from) (ψ c.to) c.bound in
      by_test (holds s c.label)
      (λ y. rw y (λ h. f.0 (h refl), λ h t. f.1 h))
      (λ z. rw z (λ h. omega arith, λ h t. clash t refl))

  -- no later slots ask for no later slot
  asked_mono :
      (net : Network) (ψ φ : Schedule) (c : Constraint) → InNetwork net c → ((x : ℕ) → x < net.points → ψ x ≤ φ x) →
      asked s ψ c ≤ asked s φ c
  unfolding asked
  asked_mono net ψ φ c in-net h =
      by_test (holds s c.label)
      (λ y. rw y (least_from_mono (ψ c.to) (φ c.to) c.bound (h c.to in-net.to_point)))
      (λ z. rw z (omega arith))

each_map : {A : Type 0} {P Q : A → Type 0} → ((x : A) → P x → Q x) → (xs : List A) → Each P xs → Each Q xs
unfolding Each
each_map f [] h = tt
each_map f (x ∷ xs) h = (f x h.0, each_map f xs h.1)

keeps_content : (net : Network) (ψ : Schedule) (s : Scenario) → (keeps net ψ s ≡ true) ↔ Each (Content s ψ) net.constraints
keeps_content net ψ s =
    let f = keeps_is net ψ s in (
      λ t. each_map (λ c. (content_exactly s ψ c).0) net.constraints (f.0 t),
      λ h. f.1 (each_map (λ c. (content_exactly s ψ c).1) net.constraints h),
    )

module _ (cap : ℕ) (s : Scenario) where
  -- ---- one turn

  pub turn_length : (slots : List ℕ) (c : Constraint) → length (turn cap s slots c) ≡ length slots
  unfolding turn
  turn_length slots c = length-set slots c.from _

  -- where X stands after the turn
  abbrev moved : List ℕ → Constraint → ℕ
  moved slots c = max (slots_in slots c.from) (min cap (asked s (slots_in slots) c))

  turn_moves : (slots : List ℕ) (c : Constraint) → c.from < length slots → slots_in (turn cap s slots c) c.from ≡ moved slots c
  unfolding turn
  turn_moves slots c h = get_or-set_same slots c.from (moved slots c) 0 h

  -- of the slot of a point after the turn: the point stays, or it is X
  by_turn :
      (slots : List ℕ) (c : Constraint) (x : ℕ) (P : ℕ → Type 0) → P (slots_in slots x) → (x ≡ c.from → P (moved slots c)) →
      P (slots_in (turn cap s slots c) x)
  unfolding turn
  by_turn slots c x P stays moves =
      by_cases (ℕ_discrete x c.from)
      (λ e. by_cases (dec_lt x (length slots))
      (λ lt. rw (e, get_or-set_same slots c.from (moved slots c) 0 (rw e at lt)) (moves e))
      (λ ge. rw (set_out slots c.from (moved slots c) (rw e at (outside x (length slots) ge))) stays))
      (λ ne. rw (get_or-set_other slots c.from x (moved slots c) 0 ne) stays)
    where
      outside : (x n : ℕ) → ¬ (x < n) → n ≤ x
      outside x n ge = omega arith

  turn_above : (slots : List ℕ) (c : Constraint) (x : ℕ) → slots_in slots x ≤ slots_in (turn cap s slots c) x
  turn_above slots c x = by_turn slots c x (λ v. slots_in slots x ≤ v) (omega arith) (λ e. rw e (omega arith))

  -- if every later turn only raised and all is as before, so was it after this turn
  turn_rests :
      (slots : List ℕ) (c : Constraint) → ((x : ℕ) → slots_in (turn cap s slots c) x ≤ slots_in slots x) → turn cap s slots c ≡ slots
  turn_rests slots c h =
      ext_get_or 0 (turn cap s slots c) slots (turn_length slots c)
      (λ x lt. let a = turn_above slots c x in let b = h x in omega arith)

  -- ---- a round

  pub turns_length : (slots : List ℕ) (cs : List Constraint) → length (turns cap s slots cs) ≡ length slots
  unfolding turns
  turns_length slots [] = refl
  turns_length slots (c ∷ cs) = turns_length (turn cap s slots c) cs ∙ turn_length slots c

  turns_above : (slots : List ℕ) (cs : List Constraint) (x : ℕ) → slots_in slots x ≤ slots_in (turns cap s slots cs) x
  unfolding turns
  turns_above slots [] x = omega arith
  turns_above slots (c ∷ cs) x = le_trans (turn_above slots c x) (turns_above (turn cap s slots c) cs x)

  turns_capped :
      (slots : List ℕ) (cs : List Constraint) → ((x : ℕ) → slots_in slots x ≤ cap) → (x : ℕ) → slots_in (turns cap s slots cs) x ≤ cap
  unfolding turns
  turns_capped slots [] h x = h x
  turns_capped slots (c ∷ cs) h x =
      turns_capped (turn cap s slots c) cs
      (λ y. by_turn slots c y (λ v. v ≤ cap) (h y) (λ e. let q = h c.from in omega arith)) x

  module _ (net : Network) where
    turns_unused :
        (slots : List ℕ) (cs : List Constraint) → Each (InNetwork net) cs → (x : ℕ) → net.points ≤ x →
        slots_in (turns cap s slots cs) x ≡ slots_in slots x
    unfolding turns Each
    turns_unused slots [] k x h = refl
    turns_unused slots (c ∷ cs) k x h =
        turns_unused (turn cap s slots c) cs k.1 x h
        ∙ by_turn slots c x (λ v. v ≡ slots_in slots x) refl (λ e. let from_point = k.0.from_point in absurd (omega arith))

    turns_below :
        (φ : Schedule) (slots : List ℕ) (cs : List Constraint) → Each (InNetwork net) cs → Each (Content s φ) cs →
        ((x : ℕ) → x < net.points → slots_in slots x ≤ φ x) → (x : ℕ) → x < net.points → slots_in (turns cap s slots cs) x ≤ φ x
    unfolding turns Each
    turns_below φ slots [] k q h x lt = h x lt
    turns_below φ slots (c ∷ cs) k q h x lt =
        let asks = le_trans (asked_mono s net (slots_in slots) φ c k.0 h) q.0 in
        let stands = h c.from k.0.from_point in
        turns_below φ (turn cap s slots c) cs k.1 q.1
        (λ y lt. by_turn slots c y (λ v. v ≤ φ y) (h y lt) (λ e. rw e (omega arith))) x lt

    turns_still :
        (slots : List ℕ) (cs : List Constraint) → Each (InNetwork net) cs → net.points ≤ length slots →
        ((x : ℕ) → x < net.points → slots_in slots x < cap) → turns cap s slots cs ≡ slots → Each (Content s (slots_in slots)) cs
    unfolding turns Each
    turns_still slots [] k long h e = tt
    turns_still slots (c ∷ cs) k long h e =
        let rests : turn cap s slots c ≡ slots =
        turn_rests slots c (λ x. rw e at (turns_above (turn cap s slots c) cs x)) in
        let from_point = k.0.from_point in
        let early = h c.from from_point in
        let moves : slots_in slots c.from ≡ moved slots c = rw rests at (turn_moves slots c (omega arith)) in
        (omega arith, turns_still slots cs k.1 long h (rw rests at e))

module _ (cap : ℕ) (net : Network) (s : Scenario) (slots : List ℕ) where
  pub raised_length : length (raised cap net s slots) ≡ length slots
  raised_length = turns_length cap s slots net.constraints

  pub raised_above : (x : ℕ) → slots_in slots x ≤ slots_in (raised cap net s slots) x
  raised_above = turns_above cap s slots net.constraints

  pub raised_capped : ((x : ℕ) → slots_in slots x ≤ cap) → (x : ℕ) → slots_in (raised cap net s slots) x ≤ cap
  raised_capped = turns_capped cap s slots net.constraints

  -- the points only; other entries stay
  pub raised_unused : IsNetwork net → (x : ℕ) → net.points ≤ x → slots_in (raised cap net s slots) x ≡ slots_in slots x
  raised_unused wf = turns_unused cap s net slots net.constraints wf.in_network

  -- past no schedule that keeps
  pub raised_below :
      IsNetwork net → (φ : Schedule) → keeps net φ s ≡ true → ((x : ℕ) → x < net.points → slots_in slots x ≤ φ x) →
      (x : ℕ) → x < net.points → slots_in (raised cap net s slots) x ≤ φ x
  raised_below wf φ t =
      turns_below cap s net φ slots net.constraints wf.in_network ((keeps_content net φ s).0 t)

  -- where it rests below the cap, the slots keep
  pub raised_still :
      IsNetwork net → net.points ≤ length slots → ((x : ℕ) → x < net.points → slots_in slots x < cap) →
      raised cap net s slots ≡ slots → keeps net (slots_in slots) s ≡ true
  raised_still wf long h e =
      (keeps_content net (slots_in slots) s).1 (turns_still cap s net slots net.constraints wf.in_network long h e)
