-- Laws of what the code computes: slots that climb round by round, and what a chain looks at. Only the checker need believe this file.
use mathlib.Core.Path.{◌≡◌, refl, sym, ap, ◌∙◌}
use mathlib.Core.Logic.{by_cases}
use mathlib.Core.Bool.{Bool, true, false}
use mathlib.Core.List.{List}
use Prim.Native.Nat.{ℕ, suc, ◌+◌, ◌-◌, ◌*◌, ◌≤◌, ◌<◌}
use native.Mathlib.Omega.{arith}
use native.Mathlib.Numerals.{add-one}
use native.Mathlib.Decide.{dec_lt}
use native.Mathlib.Nat.{zero-add}
use lib.Dec.{leb}
use lib.ListN.{length, replicate}
use Rattle.network.specs.Mask.{all_below}
use Rattle.network.specs.Network.{Network, Constraint, Scenario, slots_in}
use Rattle.network.specs.Raise.{turns, raised}
use Rattle.network.proofs.RaiseLaws.{raised_length, raised_capped}
use Rattle.verdict.specs.Verdict.{climbed, least_slots, within_horizon, fixed, verdict_of}
use Rattle.verdict.specs.Answers.{saying}
use Rattle.network.proofs.Booleans.{leb_yes, leb_no}
use Rattle.network.proofs.BelowLaws.{all_make, all_fails}
use Rattle.std.specs.Bool.{MatchBool}
use Rattle.std.specs.List.{AllWithin, HoldsAt, range_with_len}
use Rattle.std.proofs.lemmas.List.{get_or-take, length-take}
use Rattle.std.proofs.lemmas.List.FromFn.{get_or-range_with_len, length-range_with_len}
use lib.ListN.{take, get_or-eq_default}
use Rattle.std.specs.Prelude.{Some, None}
use Rattle.verdict.proofs.TotalLaws.{total, total_capped}
use Rattle.verdict.proofs.LeastLaws.{climbed_next, rises, rests_at, zeros_at}

-- ---- the climb

module _ (cap : ℕ) (net : Network) (s : Scenario) where
  -- slots that some rounds lead to from all zeros, each of which raised one
  pub record Climbing (slots : List ℕ) : Type 0 where
    pub long : length slots ≡ 8
    pub capped : (x : ℕ) → slots_in slots x ≤ cap
    pub rounds : ℕ
    pub raising : rounds ≤ total slots
    pub way : slots ≡ climbed rounds cap net s (replicate 8 0)

  pub climbing_start : Climbing (replicate 8 0)
  unfolding climbed
  climbing_start = record { long = refl; capped = zeros; rounds = 0; raising = omega arith; way = refl }
    where
      zeros : (x : ℕ) → slots_in (replicate 8 0) x ≤ cap
      zeros x = let e = zeros_at x in omega arith

  -- one more round
  module _ (slots next : List ℕ) (c : Climbing slots) (e : next ≡ raised cap net s slots) where
    next_long : length next ≡ 8
    next_long = rw e (raised_length cap net s slots ∙ c.long)

    next_capped : (x : ℕ) → slots_in next x ≤ cap
    next_capped = rw e (raised_capped cap net s slots c.capped)

    climbing_rests : next ≡ slots → slots ≡ least_slots cap net s
    climbing_rests same = rests_at cap net s c.rounds slots c.raising (total_capped cap slots c.capped) c.way (sym e ∙ same)

    higher : (next ≡ slots → ⊥) → total slots < total next
    higher other = rw e (rises cap net s slots c.long (rw e at other))

    climbing_next : (next ≡ slots → ⊥) → Climbing next
    climbing_next z =
        let up = higher z in
        let low = c.raising in
        record {
          long = next_long;
          capped = next_capped;
          rounds = suc c.rounds;
          raising = omega arith;
          way = e ∙ ap (raised cap net s) c.way ∙ sym (climbed_next cap net s c.rounds (replicate 8 0));
        }

    -- what can still rise
    less_to_rise : (next ≡ slots → ⊥) → 8 * cap - total next < 8 * cap - total slots
    less_to_rise z = let up = higher z in let top = total_capped cap next next_capped in omega arith

-- ---- the climb by a list of constraints: no more of a network matters

-- a network that has them
abbrev bare : List Constraint → Network
bare cs = record { horizon = 0; points = 0; letters = 0; disclosing = λ l. 0; is_decision = λ l. false; constraints = cs }

module _ (cap : ℕ) (cs : List Constraint) (s : Scenario) where
  -- climbing in each network that has them
  abbrev pub ClimbingBy : List ℕ → Type 0
  ClimbingBy slots = (net : Network) → net.constraints ≡ cs → Climbing cap net s slots

  module _ (slots next : List ℕ) (c : ClimbingBy slots) (e : next ≡ turns cap s slots cs) where
    round : (net : Network) → net.constraints ≡ cs → next ≡ raised cap net s slots
    round net q = e ∙ ap (turns cap s slots) (sym q)

    pub by_rests : next ≡ slots → (net : Network) → net.constraints ≡ cs → next ≡ least_slots cap net s
    by_rests same net q = same ∙ climbing_rests cap net s slots next (c net q) (round net q) same

    pub by_next : (next ≡ slots → ⊥) → ClimbingBy next
    by_next z net q = climbing_next cap net s slots next (c net q) (round net q) z

    pub by_less : (next ≡ slots → ⊥) → 8 * cap - total next < 8 * cap - total slots
    by_less z = less_to_rise cap (bare cs) s slots next (c (bare cs) refl) (round (bare cs) refl) z

-- ---- the verdict

module _ (net : Network) (s : Scenario) (slots : List ℕ) (e : slots ≡ least_slots (net.horizon + 1) net s) where
  pub is_fixed : fixed net slots ≡ verdict_of net s
  unfolding verdict_of
  is_fixed = ap (fixed net) (e ∙ ap (λ (cap : ℕ). least_slots cap net s) (add-one net.horizon))

  pub scheduled : within_horizon net slots ≡ true → saying (Some slots) ≡ verdict_of net s
  unfolding fixed
  scheduled t = rw t at is_fixed

  pub not_scheduled : within_horizon net slots ≡ false → saying None ≡ verdict_of net s
  unfolding fixed
  not_scheduled z = rw z at is_fixed

-- ---- what a chain has looked at

-- the slots of the first points
pub each_within :
    (n h : ℕ) (slots : List ℕ) (r : Bool) →
    MatchBool r (AllWithin (λ v. v ≤ h) (take n slots) 0 (length (take n slots)))
    ((k : ℕ) × (k < length (take n slots)) × HoldsAt (λ v. h < v) (take n slots) k) →
    r ≡ all_below n (λ x. leb (slots_in slots x) h)
each_within n h slots true all =
    sym (all_make n (λ x. leb (slots_in slots x) h) (λ x lt. leb_yes (slots_in slots x) h (by_cases (dec_lt x (length (take n slots)))
    (λ inside. rw (get_or-take n slots x 0 lt) at (all x 0 (omega arith) inside))
    (λ past. let long = length-take n slots in
    let zero = get_or-eq_default slots 0 {n = x} (omega arith) in omega arith))))
each_within n h slots false one =
    let long = length-take n slots in
    let inside = one.1 in
    let lt : one.0 < n = omega arith in
    let late = rw (get_or-take n slots one.0 0 lt) at (one.2 0) in
    sym (all_fails (λ x. leb (slots_in slots x) h) n one.0 lt (leb_no (slots_in slots one.0) h (λ le. omega arith)))

-- the numbers below n
pub each_below :
    (n : ℕ) (f : ℕ → Bool) (r : Bool) →
    MatchBool r (AllWithin (λ m. f m ≡ true) (range_with_len 0 n) 0 (length (range_with_len 0 n)))
    ((k : ℕ) × (k < length (range_with_len 0 n)) × HoldsAt (λ m. f m ≡ false) (range_with_len 0 n) k) →
    r ≡ all_below n f
each_below n f true all =
    let long = length-range_with_len 0 n in
    sym (all_make n f (λ m lt. ap f (sym (zero-add m) ∙ sym (get_or-range_with_len 0 n m 0 lt)) ∙ all m 0 (omega arith) (omega arith)))
each_below n f false one =
    let long = length-range_with_len 0 n in
    let inside = one.1 in
    let lt : one.0 < n = omega arith in
    sym (all_fails f n one.0 lt (ap f (sym (zero-add one.0) ∙ sym (get_or-range_with_len 0 n one.0 0 lt)) ∙ one.2 0))
