-- Laws of the next mask inside a set: as the machine adds it, and in the order of numbers. Only the checker need believe this file.
use mathlib.Core.Path.{◌≡◌, refl, sym, ap, ◌∙◌}
use mathlib.Core.Logic.{◌⊎◌, inl, inr, by_cases}
use mathlib.Core.Bool.{true}
use Prim.Native.Nat.{ℕ, zero, suc, ◌+◌, ◌-◌, ◌*◌, ◌/◌, ◌%◌, ◌^◌, ◌≤◌, ◌<◌, max}
use native.Mathlib.Omega.{arith}
use native.Mathlib.Decide.{dec_lt}
use native.Mathlib.Nat.{pow-suc}
use lib.Dec.{eqb}
use lib.Bits.{bit_and, bit_or, and_zero_r, and_shifted, and_step, or_step}
use Rattle.network.specs.Mask.{bit, count, submask}
use Rattle.network.specs.Below.{rank}
use Rattle.network.proofs.Booleans.{by_test, eqb_is, differs}
use Rattle.network.proofs.SubmaskLaws.{rank_lt, submask_rank, in_submask, submask_rises, submask_order, submask_end}
use Rattle.masks.specs.Next.{next_inside}

-- a mask with every place outside the set filled, by its lowest digit and the rest
abbrev filled : ℕ → ℕ → ℕ → ℕ
filled n set m = bit_or m (2 ^ n - 1 - set)

filled_step :
    (n set m : ℕ) → set < 2 ^ suc n → filled (suc n) set m ≡ filled n (set / 2) (m / 2) * 2 + max (m % 2) (1 - set % 2)
filled_step n set m h =
    let p = pow-suc 2 n in
    let a : (2 ^ suc n - 1 - set) / 2 ≡ 2 ^ n - 1 - set / 2 = omega arith in
    let b : (2 ^ suc n - 1 - set) % 2 ≡ 1 - set % 2 = omega arith in
    or_step m (2 ^ suc n - 1 - set) ∙ rw (a, b) refl

-- filling and cutting again leaves the members of the set
cut_is : (n set m : ℕ) → set < 2 ^ n → bit_and (filled n set m) set ≡ submask n (bit set) (rank n (bit set) m)
unfolding submask rank bit
cut_is zero set m h = let e : set ≡ 0 = omega arith in rw e (and_zero_r (filled 0 0 m))
cut_is (suc n) set m h =
    let w = filled n (set / 2) (m / 2) in
    let r = rank n (bit (set / 2)) (m / 2) in
    let below = cut_is n (set / 2) (m / 2) (let p = pow-suc 2 n in omega arith) in
    let a : (w * 2 + max (m % 2) (1 - set % 2)) / 2 ≡ w = omega arith in
    let b : (w * 2 + max (m % 2) (1 - set % 2)) % 2 ≡ max (m % 2) (1 - set % 2) = omega arith in
    let c : (m % 2 + 2 * r) % 2 ≡ m % 2 = omega arith in
    let d : (m % 2 + 2 * r) / 2 ≡ r = omega arith in
    rw (filled_step n set m h) (and_step (w * 2 + max (m % 2) (1 - set % 2)) set
    ∙ rw (a, b, below) (by_test (eqb (set % 2) 1)
    (λ y. let e = eqb_is (set % 2) 1 y in rw (y, c, d, e) (omega arith))
    (λ z. let e = differs (set % 2) 1 z in let f : set % 2 ≡ 0 = omega arith in rw (z, f) (omega arith))))

-- .. and with 1 added in between, the next mask
pub next_is : (n set m : ℕ) → set < 2 ^ n → bit_and (filled n set m + 1) set ≡ submask n (bit set) (suc (rank n (bit set) m))
unfolding submask rank bit
next_is zero set m h = let e : set ≡ 0 = omega arith in rw e (and_zero_r (filled 0 0 m + 1))
next_is (suc n) set m h =
    let w = filled n (set / 2) (m / 2) in
    let r = rank n (bit (set / 2)) (m / 2) in
    let small : set / 2 < 2 ^ n = let p = pow-suc 2 n in omega arith in
    rw (filled_step n set m h) (and_step (w * 2 + max (m % 2) (1 - set % 2) + 1) set
    ∙ by_test (eqb (set % 2) 1)
    (λ y. let e = eqb_is (set % 2) 1 y in
    by_test (eqb (m % 2) 1)
    (λ t. let f = eqb_is (m % 2) 1 t in
    let a : (w * 2 + max (m % 2) (1 - set % 2) + 1) / 2 ≡ w + 1 = rw (e, f) (omega arith) in
    let b : (w * 2 + max (m % 2) (1 - set % 2) + 1) % 2 ≡ 0 = rw (e, f) (omega arith) in
    let c : suc (m % 2 + 2 * r) % 2 ≡ 0 = omega arith in
    let d : suc (m % 2 + 2 * r) / 2 ≡ suc r = omega arith in
    rw (a, b, y, c, d, next_is n (set / 2) (m / 2) small) (omega arith))
    (λ u. let f = differs (m % 2) 1 u in
    let g : m % 2 ≡ 0 = omega arith in
    let a : (w * 2 + max (m % 2) (1 - set % 2) + 1) / 2 ≡ w = rw (e, g) (omega arith) in
    let b : (w * 2 + max (m % 2) (1 - set % 2) + 1) % 2 ≡ 1 = rw (e, g) (omega arith) in
    let c : suc (m % 2 + 2 * r) % 2 ≡ 1 = omega arith in
    let d : suc (m % 2 + 2 * r) / 2 ≡ r = omega arith in
    rw (a, b, y, c, d, cut_is n (set / 2) (m / 2) small, e) (omega arith)))
    (λ z. let e = differs (set % 2) 1 z in
    let g : set % 2 ≡ 0 = omega arith in
    let a : (w * 2 + max (m % 2) (1 - set % 2) + 1) / 2 ≡ w + 1 = rw g (omega arith) in
    let b : (w * 2 + max (m % 2) (1 - set % 2) + 1) % 2 ≡ 0 = rw g (omega arith) in
    rw (a, b, z, next_is n (set / 2) (m / 2) small) (omega arith)))

-- the byte: behind the last mask the carry leaves it
pub none_behind : (set m : ℕ) → set < 256 → bit_or m (255 - set) ≡ 255 → 0 ≡ submask 8 (bit set) (suc (rank 8 (bit set) m))
none_behind set m h e =
    sym (and_shifted 1 8 set h) ∙ ap (λ (x : ℕ). bit_and (x + 1) set) (sym e) ∙ next_is 8 set m h

-- ---- the next mask in the order of numbers

-- a mask inside a set
abbrev pub Within : ℕ → ℕ → Type 0
Within set m = (i : ℕ) → bit m i ≡ true → bit set i ≡ true

-- m is the last mask inside the set, and the next is 0; or the next is the least mask inside the set that is greater than m
pub record Last (set m : ℕ) : Type 0 where
  pub zero_next : next_inside set m ≡ 0
  pub none_greater : (k : ℕ) → Within set k → ¬ (m < k)

pub record Next (set m : ℕ) : Type 0 where
  pub within : Within set (next_inside set m)
  pub greater : m < next_inside set m
  pub least : (k : ℕ) → Within set k → m < k → next_inside set m ≤ k

module _ (set : ℕ) (byte : (i : ℕ) → bit set i ≡ true → i < 8) where
  abbrev number : ℕ → ℕ
  number m = rank 8 (bit set) m

  number_lt : (m : ℕ) → number m < 2 ^ count 8 (bit set)
  number_lt m = rank_lt 8 (bit set) m

  numbered_is : (m : ℕ) → Within set m → submask 8 (bit set) (number m) ≡ m
  numbered_is m h = submask_rank 8 (bit set) m (λ i y. (byte i (h i y), h i y))

  number_rises : (m k : ℕ) → Within set m → Within set k → m < k → number m < number k
  number_rises m k hm hk lt =
      submask_order 8 (bit set) (number m) (number k) (number_lt m) (rw (numbered_is m hm, numbered_is k hk) lt) (number_lt k)

  last : (m : ℕ) → Within set m → suc (number m) ≡ 2 ^ count 8 (bit set) → Last set m
  last m h e =
      record {
        zero_next = rw e (submask_end 8 (bit set));
        none_greater = λ k hk lt. let r = number_rises m k h hk lt in let s = number_lt k in omega arith;
      }

  next : (m : ℕ) → Within set m → suc (number m) < 2 ^ count 8 (bit set) → Next set m
  next m h small =
      let rise = submask_rises 8 (bit set) (number m) (suc (number m)) (omega arith) small in
      record {
        within = λ i y. (in_submask 8 (bit set) (suc (number m)) i y).1;
        greater = rw (numbered_is m h) at rise;
        least = λ k hk lt. let r = number_rises m k h hk lt in
            by_cases (dec_lt (suc (number m)) (number k))
            (λ l. let rises = submask_rises 8 (bit set) (suc (number m)) (number k) l (number_lt k) in
            let e = numbered_is k hk in
            omega arith)
            (λ g. let same : suc (number m) ≡ number k = omega arith in
            let e = numbered_is k hk in
            let f : next_inside set m ≡ k = ap (submask 8 (bit set)) same ∙ e in
            omega arith);
      }

  pub next_inside_cases : (m : ℕ) → Within set m → Last set m ⊎ Next set m
  next_inside_cases m h =
      by_cases (dec_lt (suc (number m)) (2 ^ count 8 (bit set)))
      (λ l. inr (next m h l))
      (λ g. let r = number_lt m in inl (last m h (omega arith)))
