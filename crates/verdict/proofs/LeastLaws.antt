-- Laws of the climb from all zeros: it rests before long, and where it rests within the horizon it is the least schedule. Only the checker
-- need believe this file.
use mathlib.Core.Path.{◌≡◌, refl, sym, ap, ◌∙◌}
use mathlib.Core.Logic.{◌↔◌, ◌⊎◌, inl, inr, ⊎_elim, by_cases}
use mathlib.Core.Bool.{true, false}
use mathlib.Core.List.{List}
use Prim.Native.Nat.{ℕ, zero, suc, ◌+◌, ◌-◌, ◌*◌, ◌≤◌, ◌<◌}
use native.Mathlib.Omega.{arith}
use native.Mathlib.Nat.{le_trans, zero-add, suc-add}
use native.Mathlib.Decide.{dec_lt}
use lib.Dec.{leb}
use lib.ListN.{length, replicate}
use lib.Seq.{ext_get_or}
use Rattle.network.specs.Network.{Network, Scenario, Schedule, slots_in, keeps}
use Rattle.network.specs.IsNetwork.{IsNetwork}
use Rattle.network.specs.Fixed.{Least, Schedulable}
use Rattle.network.specs.Raise.{raised}
use Rattle.network.proofs.Booleans.{by_test, clash, leb_yes, leb_is}
use Rattle.network.proofs.BelowLaws.{all_at, all_make}
use Rattle.network.proofs.RaiseLaws.{raised_length, raised_above, raised_capped, raised_unused, raised_below, raised_still}
use Rattle.plan.proofs.SliceLaws.{all_same}
use Rattle.verdict.specs.Verdict.{climbed, least_slots, within_horizon, fixed, verdict_of}
use Rattle.verdict.specs.Answers.{Fixed, none}
use Rattle.verdict.proofs.TotalLaws.{total, total_same, total_top}

module _ (cap : ℕ) (net : Network) (s : Scenario) where
  -- ---- rounds

  -- some rounds, and then more
  pub climbed_split :
      (k n : ℕ) (slots : List ℕ) → climbed (k + n) cap net s slots ≡ climbed n cap net s (climbed k cap net s slots)
  unfolding climbed
  climbed_split zero n slots = rw zero-add
  climbed_split (suc k) n slots = rw suc-add (climbed_split k n (raised cap net s slots))

  -- one more
  pub climbed_next : (k : ℕ) (slots : List ℕ) → climbed (suc k) cap net s slots ≡ raised cap net s (climbed k cap net s slots)
  unfolding climbed
  climbed_next zero slots = refl
  climbed_next (suc k) slots = climbed_next k (raised cap net s slots)

  -- none that changes anything
  pub climbed_rests : (n : ℕ) (slots : List ℕ) → raised cap net s slots ≡ slots → climbed n cap net s slots ≡ slots
  unfolding climbed
  climbed_rests zero slots e = refl
  climbed_rests (suc n) slots e = rw e (climbed_rests n slots e)

  -- what each round keeps
  pub climbed_keeps :
      (P : List ℕ → Type 0) → ((slots : List ℕ) → P slots → P (raised cap net s slots)) → (n : ℕ) (slots : List ℕ) → P slots →
      P (climbed n cap net s slots)
  unfolding climbed
  climbed_keeps P step zero slots h = h
  climbed_keeps P step (suc n) slots h = climbed_keeps P step n (raised cap net s slots) (step slots h)

  -- ---- a round that changes something raises the total

  rests_or_rises :
      (slots : List ℕ) → length slots ≡ 8 → (raised cap net s slots ≡ slots) ⊎ (total slots < total (raised cap net s slots))
  rests_or_rises slots long =
      by_cases (dec_lt (total slots) (total (raised cap net s slots)))
      inr
      (λ ge. inl (sym (total_same slots (raised cap net s slots) long (raised_length cap net s slots ∙ long) (raised_above cap net s slots)
      (omega arith))))

  pub rises :
      (slots : List ℕ) → length slots ≡ 8 → (raised cap net s slots ≡ slots → ⊥) → total slots < total (raised cap net s slots)
  rises slots long n = ⊎_elim (λ e. absurd (n e)) (λ lt. lt) (rests_or_rises slots long)

  -- ---- from all zeros

  climbed_long : (n : ℕ) → length (climbed n cap net s (replicate 8 0)) ≡ 8
  climbed_long n = climbed_keeps (λ slots. length slots ≡ 8) (λ slots l. raised_length cap net s slots ∙ l) n (replicate 8 0) refl

  -- it rests, or each of n rounds raised the total
  rests_or_high :
      (n : ℕ) → let now : List ℕ = climbed n cap net s (replicate 8 0) in (raised cap net s now ≡ now) ⊎ (n ≤ total now)
  rests_or_high zero = inr (omega arith)
  rests_or_high (suc n) =
      let now : List ℕ = climbed n cap net s (replicate 8 0) in
      rw (climbed_next n (replicate 8 0)) (⊎_elim
      (λ e. inl (ap (raised cap net s) e))
      (λ high. ⊎_elim (λ e. inl (ap (raised cap net s) e)) (λ lt. inr (omega arith)) (rests_or_rises now (climbed_long n)))
      (rests_or_high n))

  -- Where it rests it is the least fixpoint.
  pub rests_at :
      (k : ℕ) (slots : List ℕ) → k ≤ total slots → total slots ≤ 8 * cap → slots ≡ climbed k cap net s (replicate 8 0) →
      raised cap net s slots ≡ slots → slots ≡ least_slots cap net s
  unfolding least_slots
  rests_at k slots low high way e =
      let more : ℕ = 8 * cap - k in
      let rounds : k + more ≡ 8 * cap = omega arith in
      sym (climbed_rests more slots e) ∙ ap (climbed more cap net s) way ∙ sym (climbed_split k more (replicate 8 0))
      ∙ ap (λ (n : ℕ). climbed n cap net s (replicate 8 0)) rounds

-- ---- what holds on the way

pub zeros_at : (x : ℕ) → slots_in (replicate 8 0) x ≡ 0
zeros_at = all_same {E = ℕ} 8 0

record OnTheWay (cap : ℕ) (net : Network) (s : Scenario) (slots : List ℕ) : Type 0 where
  long : length slots ≡ 8
  capped : (x : ℕ) → slots_in slots x ≤ cap
  unused : (x : ℕ) → net.points ≤ x → slots_in slots x ≡ 0
  below : (φ : Schedule) → keeps net φ s ≡ true → (x : ℕ) → x < net.points → slots_in slots x ≤ φ x

least_on_the_way : (cap : ℕ) (net : Network) (s : Scenario) → IsNetwork net → OnTheWay cap net s (least_slots cap net s)
unfolding least_slots
least_on_the_way cap net s is_net =
    climbed_keeps cap net s (OnTheWay cap net s)
    (λ slots w.
    record {
      long = raised_length cap net s slots ∙ w.long;
      capped = raised_capped cap net s slots w.capped;
      unused = λ x past. raised_unused cap net s slots is_net x past ∙ w.unused x past;
      below = λ φ k. raised_below cap net s slots is_net φ k (w.below φ k);
    })
    (8 * cap) (replicate 8 0)
    (record {
      long = refl;
      capped = λ x. rw (zeros_at x) (omega arith);
      unused = λ x past. zeros_at x;
      below = λ φ k x lt. rw (zeros_at x) (omega arith);
    })

-- ---- the verdict

within_exactly :
    (net : Network) (slots : List ℕ) → (within_horizon net slots ≡ true) ↔ ((x : ℕ) → x < net.points → slots_in slots x ≤ net.horizon)
unfolding within_horizon
within_exactly net slots = (
  λ t x lt. leb_is _ _ (all_at net.points (λ x. leb (slots_in slots x) net.horizon) t x lt),
  λ h. all_make net.points (λ x. leb (slots_in slots x) net.horizon) (λ x lt. leb_yes _ _ (h x lt)),
)

-- two lists of eight slots that agree at the points and are zero behind them
pub same_slots :
    (n : ℕ) (a b : List ℕ) → length a ≡ 8 → length b ≡ 8 → ((x : ℕ) → x < n → slots_in a x ≡ slots_in b x) →
    ((x : ℕ) → n ≤ x → slots_in a x ≡ 0) → ((x : ℕ) → n ≤ x → slots_in b x ≡ 0) → a ≡ b
same_slots n a b long-a long-b agree zero_a zero-b =
    ext_get_or 0 a b (long-a ∙ sym long-b) (λ x lt. by_cases (dec_lt x n)
    (agree x)
    (λ ge. zero_a x (omega arith) ∙ sym (zero-b x (omega arith))))

-- eight slots, all zero beside "none": of every network
pub record EightSlots (r : Fixed) : Type 0 where
  pub long : length r.slots ≡ 8
  pub zeros : r.scheduled ≡ false → r.slots ≡ replicate 8 0

pub none_eight : EightSlots none
none_eight = record { long = refl; zeros = λ z. refl }

pub verdict_eight : (net : Network) (s : Scenario) → EightSlots (verdict_of net s)
unfolding verdict_of fixed least_slots
verdict_eight net s =
    let cap : ℕ = suc net.horizon in
    let long = climbed_long cap net s (8 * cap) in
    by_test (within_horizon net (least_slots cap net s))
    (λ y. rw y (record { long = long; zeros = λ z. clash refl z }))
    (λ z. rw z none_eight)

-- the least schedule, or that there is none
pub record Decides (net : Network) (s : Scenario) (r : Fixed) : Type 0 where
  pub found : r.scheduled ≡ true → Least net s (slots_in r.slots)
  pub missing : r.scheduled ≡ false → Schedulable net s → ⊥
  pub unused : (x : ℕ) → net.points ≤ x → slots_in r.slots x ≡ 0

pub decides_yes : {net : Network} {s : Scenario} {r : Fixed} → Decides net s r → (r.scheduled ≡ true) ↔ Schedulable net s
decides_yes {r = r} d = (
  λ t. record { slots = slots_in r.slots; schedule = (d.found t).schedule },
  λ h. by_test r.scheduled (λ t. t) (λ z. absurd (d.missing z h)),
)

module _ (net : Network) (is_net : IsNetwork net) (some : 1 ≤ net.points) (few : net.points ≤ 8) (s : Scenario) where
  abbrev cap : ℕ
  cap = suc net.horizon

  abbrev least : List ℕ
  least = least_slots cap net s

  -- If every round had moved a slot, all eight would stand at the cap, and point 0 with them.
  least_rests : within_horizon net least ≡ true → raised cap net s least ≡ least
  unfolding least_slots
  least_rests t =
      let w = least_on_the_way cap net s is_net in
      ⊎_elim
      (λ e. e)
      (λ high. let top : slots_in least 0 ≡ cap = total_top cap least w.capped high 0 (omega arith) in
      let early = (within_exactly net least).0 t 0 some in
      absurd (omega arith))
      (rests_or_high cap net s (8 * cap))

  least_kept : within_horizon net least ≡ true → Least net s (slots_in least)
  least_kept t =
      let w = least_on_the_way cap net s is_net in
      let long = w.long in
      let early = (within_exactly net least).0 t in
      record {
        schedule =
            record {
              within = early;
              kept = raised_still cap net s least is_net (omega arith) (λ x lt. let h = early x lt in omega arith) (least_rests t);
            };
        earliest = λ φ f. w.below φ f.kept;
      }

  schedulable_within : Schedulable net s → within_horizon net least ≡ true
  schedulable_within h =
      let w = least_on_the_way cap net s is_net in
      (within_exactly net least).1 (λ x lt. le_trans (w.below h.slots h.schedule.kept x lt) (h.schedule.within x lt))

  pub verdict_decides : Decides net s (verdict_of net s)
  unfolding verdict_of fixed
  verdict_decides =
      let w = least_on_the_way cap net s is_net in
      by_test (within_horizon net least)
      (λ y. rw y (record {
        found = λ t. least_kept y;
        missing = λ z. clash refl z;
        unused = w.unused;
      }))
      (λ z. rw z (record {
        found = λ t. clash t refl;
        missing = λ t h. clash (schedulable_within h) z;
        unused = λ x past. zeros_at x;
      }))
