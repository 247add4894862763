-- Laws of closed limits: they are exact. Each bounds its difference in every schedule and is attained in one, unless the limit of a point and
-- itself is negative, and then there is no schedule. Only the checker need believe this file.
use mathlib.Core.Path.{◌≡◌, ap, ◌∙◌}
use mathlib.Core.Logic.{by_cases}
use mathlib.Core.Bool.{true}
use mathlib.Core.List.{List, []}
use Prim.Native.Nat.{ℕ, zero, suc, ◌+◌, ◌-◌, ◌≤◌, ◌<◌}
use native.Mathlib.Omega.{arith}
use native.Mathlib.Nat.{le_refl, not-suc-le-zero}
use native.Mathlib.Decide.{dec_lt, ℕ_discrete}
use lib.Dec.{leb}
use lib.IntN.{sub_ℕ}
use lib.ListN.{length, get_or, set, replicate, length-set, length-replicate, get_or-replicate}
use lib.Seq.{get_or-set_same, get_or-set_other}
use Rattle.network.specs.Network.{Constraint, Network, Scenario, Schedule}
use Rattle.network.specs.IsNetwork.{Each, IsNetwork}
use Rattle.network.specs.Fixed.{ScheduleFor, Schedulable}
use Rattle.network.specs.Differences.{Largest}
use Rattle.network.specs.Limits.{bias, limit_at, all_limited}
use Rattle.network.proofs.Booleans.{leb_yes, leb_is}
use Rattle.network.proofs.BelowLaws.{all_at, all_make}
use Rattle.network.proofs.LimitLaws.{Square, Within, In16Bits, all_below_lem, all_in_16_bits, kept_within, within_kept}
use Rattle.plan.proofs.SliceLaws.{length_listed, get_listed}
use Rattle.differences.specs.Tabling.{unconstrained, closed, no_negative_cycle}
use Rattle.differences.specs.Ranges.{InRange}
use Rattle.differences.proofs.IntegerLaws.{sub_le, sub_eq}
use Rattle.differences.proofs.PassLaws.{NoNegativeCycle, Passing, passing}

-- ---- the limits of the horizon alone

module _ (h : ℕ) where
  abbrev row : ℕ → List ℕ
  row x = set (replicate 8 (bias + h)) x bias

  free_row : (x : ℕ) → x < 8 → get_or (unconstrained h) x [] ≡ row x
  unfolding unconstrained
  free_row x lx = get_listed [] 8 row x lx

  free_square : Square 8 (unconstrained h)
  unfolding unconstrained
  free_square =
      record {
        long = length_listed 8 row;
        wide = λ x lx. ap length (free_row x lx) ∙ length-set (replicate 8 (bias + h)) x bias ∙ length-replicate 8 (bias + h);
      }

  free_own : (x : ℕ) → x < 8 → limit_at (unconstrained h) x x ≡ bias
  free_own x lx =
      ap (λ (l : List ℕ). get_or l x 0) (free_row x lx)
      ∙ get_or-set_same (replicate 8 (bias + h)) x bias 0 (rw (length-replicate 8 (bias + h)) lx)

  free_other : (x y : ℕ) → x < 8 → y < 8 → ¬ (y ≡ x) → limit_at (unconstrained h) x y ≡ bias + h
  free_other x y lx ly ne =
      ap (λ (l : List ℕ). get_or l y 0) (free_row x lx)
      ∙ get_or-set_other (replicate 8 (bias + h)) x y bias 0 ne
      ∙ get_or-replicate 8 y (bias + h) 0 ly

  free_least : (x y : ℕ) → x < 8 → y < 8 → bias ≤ limit_at (unconstrained h) x y
  free_least x y lx ly =
      by_cases (ℕ_discrete y x)
      (λ e. rw (e, free_own x lx) (omega arith))
      (λ ne. let q = free_other x y lx ly ne in omega arith)

  free_most : (x y : ℕ) → x < 8 → y < 8 → limit_at (unconstrained h) x y ≤ bias + h
  free_most x y lx ly =
      by_cases (ℕ_discrete y x)
      (λ e. rw (e, free_own x lx) (omega arith))
      (λ ne. let q = free_other x y lx ly ne in omega arith)

  free_within : (n : ℕ) (ψ : Schedule) → n ≤ 8 → ((x : ℕ) → x < n → ψ x ≤ h) → Within n (unconstrained h) ψ
  free_within n ψ most early x y lx ly =
      by_cases (ℕ_discrete y x)
      (λ e. rw (e, free_own x (omega arith)) (omega arith))
      (λ ne. let q = free_other x y (omega arith) (omega arith) ne in let w = early y ly in omega arith)

-- ---- a point with the least value

least_of : (f : ℕ → ℕ) (n : ℕ) → (v : ℕ) × (v < suc n) × ((z : ℕ) → z < suc n → f v ≤ f z)
least_of f zero = (0, omega arith, λ z l. let e : z ≡ 0 = omega arith in rw e (le_refl _))
least_of f (suc n) = more (least_of f n)
  where
    more :
        (v : ℕ) × (v < suc n) × ((z : ℕ) → z < suc n → f v ≤ f z) →
        (v : ℕ) × (v < suc (suc n)) × ((z : ℕ) → z < suc (suc n) → f v ≤ f z)
    more (v, a, g) =
        by_cases (dec_lt (f (suc n)) (f v))
        (λ h. (
          suc n,
          omega arith,
          λ z l.
              by_cases (dec_lt z (suc n)) (λ b. omega (arith, g z b)) (λ b. let e : z ≡ suc n = omega arith in rw e (le_refl _)),
        ))
        (λ h. (
          v,
          omega arith,
          λ z l.
              by_cases (dec_lt z (suc n)) (λ b. g z b) (λ b. let e : z ≡ suc n = omega arith in rw e (omega arith)),
        ))

least_below : (f : ℕ → ℕ) (n x : ℕ) → x < n → (v : ℕ) × (v < n) × ((z : ℕ) → z < n → f v ≤ f z)
least_below f zero x l = absurd (not-suc-le-zero l)
least_below f (suc n) x l = least_of f n

-- ---- closed limits

pub no_cycle_is : (n : ℕ) (t : List (List ℕ)) → no_negative_cycle n t ≡ true → NoNegativeCycle n t
unfolding no_negative_cycle
no_cycle_is n t y x lx = leb_is bias (limit_at t x x) (all_at n (λ x. leb bias (limit_at t x x)) y x lx)

pub no_cycle_make : (n : ℕ) (t : List (List ℕ)) → NoNegativeCycle n t → no_negative_cycle n t ≡ true
unfolding no_negative_cycle
no_cycle_make n t st = all_make n (λ x. leb bias (limit_at t x x)) (λ x lx. leb_yes bias (limit_at t x x) (st x lx))

-- before the passes, from the limits of the horizon
pub in_range :
    (s : Scenario) (h : ℕ) (cs : List Constraint) → h ≤ 63 → Each In16Bits cs → InRange 32768 (all_limited s (unconstrained h) cs)
in_range s h cs early in_16_bits x y lx ly =
    let least = free_least h x y lx ly in
    let most = free_most h x y lx ly in
    let below = all_below_lem s (unconstrained h) cs x y in
    (all_in_16_bits s (unconstrained h) cs in_16_bits x y (omega arith), omega arith)

module _
    (net : Network) (s : Scenario) (wf : IsNetwork net) (few : net.points ≤ 8) (early : net.horizon ≤ 63)
    (in_16_bits : Each In16Bits net.constraints)
  where
    abbrev n : ℕ
    n = net.points

    -- before the passes, and behind them
    abbrev d : List (List ℕ)
    d = all_limited s (unconstrained net.horizon) net.constraints

    abbrev t : List (List ℕ)
    t = closed net s

    passed_all : Passing d n n t
    unfolding closed
    passed_all = passing d n few (in_range s net.horizon net.constraints early in_16_bits) n (le_refl _)

    -- no schedule exceeds a limit
    upper : (ψ : Schedule) → ScheduleFor net s ψ → Within n t ψ
    upper ψ sc =
        passed_all.sound ψ
        (kept_within net s (unconstrained net.horizon) ψ n sc.kept (free_within net.horizon n ψ few sc.within))

    -- where there is a schedule no limit of a point and itself is negative
    pub scheduled_no_cycle : Schedulable net s → NoNegativeCycle n t
    scheduled_no_cycle some x lx = let w = upper some.slots some.schedule x x lx lx in omega arith

    module _ (st : NoNegativeCycle n t) where
      triangle : (k x y : ℕ) → k < n → x < n → y < n → limit_at t x y + bias ≤ limit_at t x k + limit_at t k y
      triangle k x y lk lx ly = passed_all.closed st k x y lk (omega arith) (omega arith)

      under : (x y : ℕ) → x < n → y < n → limit_at t x y ≤ limit_at d x y
      under x y lx ly = passed_all.below x y (omega arith) (omega arith)

      started : (x y : ℕ) → x < n → y < n → limit_at d x y ≤ limit_at (unconstrained net.horizon) x y
      started x y lx ly = all_below_lem s (unconstrained net.horizon) net.constraints x y

      reach : (x y : ℕ) → x < n → y < n → limit_at t x y ≤ bias + net.horizon
      reach x y lx ly =
          let a = under x y lx ly in
          let b = started x y lx ly in
          let c = free_most net.horizon x y (omega arith) (omega arith) in
          omega arith

      own : (x : ℕ) → x < n → limit_at t x x ≡ bias
      own x lx =
          let a = under x x lx lx in
          let b = started x x lx lx in
          let c = free_own net.horizon x (omega arith) in
          let e = st x lx in
          omega arith

      -- the schedule read off row x: each point as late after x as it can be, moved so that the earliest is in slot 0
      reading : ℕ → ℕ → Schedule
      reading x v z = limit_at t x z - limit_at t x v

      read_schedule :
          (x v : ℕ) → x < n → v < n → ((z : ℕ) → z < n → limit_at t x v ≤ limit_at t x z) → ScheduleFor net s (reading x v)
      unfolding reading
      read_schedule x v lx lv least =
          record {
            within = λ z lz. let a = triangle v x z lv lx lz in let b = reach v z lv lz in omega arith;
            kept = within_kept net s (unconstrained net.horizon) (reading x v) wf in_16_bits 8 few (free_square net.horizon)
                (λ i j li lj.
                let a = triangle i x j li lx lj in
                let b = under i j li lj in
                let e = least i li in
                let f = least j lj in
                omega arith);
          }

      pub some_schedule : (x : ℕ) → x < n → Schedulable net s
      some_schedule x lx = from (least_below (limit_at t x) n x lx)
        where
          from : (v : ℕ) × (v < n) × ((z : ℕ) → z < n → limit_at t x v ≤ limit_at t x z) → Schedulable net s
          from (v, lv, least) = record { slots = reading x v; schedule = read_schedule x v lx lv least }

      pub exact : (x y : ℕ) → x < n → y < n → Largest net s x y (sub_ℕ (limit_at t x y) bias)
      unfolding reading
      exact x y lx ly = from (least_below (limit_at t x) n x lx)
        where
          from :
              (v : ℕ) × (v < n) × ((z : ℕ) → z < n → limit_at t x v ≤ limit_at t x z) → Largest net s x y (sub_ℕ (limit_at t x y) bias)
          from (v, lv, least) =
              let a = own x lx in
              let e = least x lx in
              let f = least y ly in
              record {
                bounds = λ ψ sc. sub_le (ψ y) (ψ x) (limit_at t x y) bias (upper ψ sc x y lx ly);
                slots = reading x v;
                schedule = read_schedule x v lx lv least;
                attained = sub_eq (reading x v y) (reading x v x) (limit_at t x y) bias (omega arith);
              }

      -- 16 bits hold it
      pub fits_16_bits : (x y : ℕ) → x < n → y < n → (bias ≤ limit_at t x y + 32768) × (limit_at t x y < bias + 32768)
      fits_16_bits x y lx ly =
          let some = some_schedule x lx in
          let w = upper some.slots some.schedule x y lx ly in
          let i = some.schedule.within x lx in
          let r = reach x y lx ly in
          (omega arith, omega arith)
