-- Laws of integers: their order, differences of numbers, and 16 bits in two's complement. Only the checker need believe this file.
use mathlib.Core.Path.{◌≡◌, refl, sym, ap}
use mathlib.Core.Logic.{by_cases}
use mathlib.Core.Bool.{Bool, true, false}
use Prim.Native.Nat.{ℕ, suc, ◌+◌, ◌-◌, ◌%◌, ◌≤◌, ◌<◌, zero-le}
use native.Mathlib.Omega.{arith}
use native.Mathlib.Nat.{le_antisymm}
use native.Mathlib.Decide.{dec_lt}
use lib.Dec.{le→leb, leb→le}
use lib.IntN.{ℤ, pos, negsuc, sub_ℕ}
use lib.Signed.{◌≤ℤ◌}
use Rattle.network.specs.Limits.{bias}
use Rattle.network.proofs.Booleans.{clash, ltb_yes, ltb_no}
use Rattle.plan.specs.Plan.{signed}

pub antisymm : (a b : ℤ) → a ≤ℤ b → b ≤ℤ a → a ≡ b
antisymm (pos a) (pos b) h k = ap pos (le_antisymm (leb→le a b h.le) (leb→le b a k.le))
antisymm (pos a) (negsuc b) h k = absurd h.le
antisymm (negsuc a) (pos b) h k = absurd k.le
antisymm (negsuc a) (negsuc b) h k = ap negsuc (le_antisymm (leb→le a b k.le) (leb→le b a h.le))

-- ---- differences of numbers

pub sub_le : (y x e k : ℕ) → y + k ≤ x + e → sub_ℕ y x ≤ℤ sub_ℕ e k
sub_le y x e k h =
    by_cases (dec_lt y x)
    (λ a. by_cases (dec_lt e k)
    (λ b. rw (ltb_yes y x a, ltb_yes e k b) (record { le = le→leb (k - suc e) (x - suc y) (omega arith) }))
    (λ b. rw (ltb_yes y x a, ltb_no e k b) (record { le = tt })))
    (λ a. let b : ¬ (e < k) = λ l. omega arith in
    rw (ltb_no y x a, ltb_no e k b) (record { le = le→leb (y - x) (e - k) (omega arith) }))

pub sub_eq : (y x e k : ℕ) → y + k ≡ x + e → sub_ℕ y x ≡ sub_ℕ e k
sub_eq y x e k h =
    by_cases (dec_lt y x)
    (λ a. let q : x - suc y ≡ k - suc e = omega arith in rw (ltb_yes y x a, ltb_yes e k (omega arith), q) refl)
    (λ a. let b : ¬ (e < k) = λ l. omega arith in let q : y - x ≡ e - k = omega arith in rw (ltb_no y x a, ltb_no e k b, q) refl)

-- a - b is at most -1 exactly when a is less than b
pub sub_neg : (a b : ℕ) → a < b → sub_ℕ a b ≤ℤ negsuc 0
sub_neg a b h = rw (ltb_yes a b h) (record { le = le→leb 0 (b - suc a) zero-le })

pub neg_sub : (a b : ℕ) (z : ℤ) → sub_ℕ a b ≤ℤ z → z ≤ℤ negsuc 0 → a < b
neg_sub a b (pos n) h k = absurd k.le
neg_sub a b (negsuc n) h k =
    by_cases (dec_lt a b)
    (λ l. l)
    (λ l. let q : pos (a - b) ≤ℤ negsuc n = rw (ltb_no a b l) at h in absurd q.le)

-- ---- 16 bits

-- 16 bits in two's complement: one number, one way to write it
pos_one : (a b : ℕ) → pos a ≡ pos b → a ≡ b
pos_one a b e = ap (λ (z : ℤ). value z) e
  where
    value : ℤ → ℕ
    value (pos n) = n
    value (negsuc n) = n

negsuc_one : (a b : ℕ) → negsuc a ≡ negsuc b → a ≡ b
negsuc_one a b e = ap (λ (z : ℤ). value z) e
  where
    value : ℤ → ℕ
    value (pos n) = n
    value (negsuc n) = n

apart : (a b : ℕ) → pos a ≡ negsuc b → ⊥
apart a b e = clash refl (ap (λ (z : ℤ). positive z) e)
  where
    positive : ℤ → Bool
    positive (pos n) = true
    positive (negsuc n) = false

pub one_way : (a b : ℕ) → a < 65536 → b < 65536 → signed a ≡ signed b → a ≡ b
unfolding signed
one_way a b la lb e =
    by_cases (dec_lt a 32768)
    (λ x. by_cases (dec_lt b 32768)
    (λ y. pos_one a b (rw (ltb_yes a 32768 x, ltb_yes b 32768 y) at e))
    (λ y. absurd (apart a (65535 - b) (rw (ltb_yes a 32768 x, ltb_no b 32768 y) at e))))
    (λ x. by_cases (dec_lt b 32768)
    (λ y. absurd (apart b (65535 - a) (sym (rw (ltb_no a 32768 x, ltb_yes b 32768 y) at e))))
    (λ y. let q = negsuc_one (65535 - a) (65535 - b) (rw (ltb_no a 32768 x, ltb_no b 32768 y) at e) in omega arith))

-- without the bias, in 16 bits
pub shown_as : (e : ℕ) → bias ≤ e + 32768 → e < bias + 32768 → signed (e % 65536) ≡ sub_ℕ e bias
unfolding signed
shown_as e low high =
    by_cases (dec_lt e bias)
    (λ a. let b : ¬ (e % 65536 < 32768) = λ l. omega arith in
    let q : 65535 - e % 65536 ≡ bias - suc e = omega arith in
    rw (ltb_no (e % 65536) 32768 b, ltb_yes e bias a, q) refl)
    (λ a. let b : e % 65536 < 32768 = omega arith in
    let q : e % 65536 ≡ e - bias = omega arith in
    rw (ltb_yes (e % 65536) 32768 b, ltb_no e bias a, q) refl)
