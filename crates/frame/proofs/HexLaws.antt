-- Laws of hexadecimal digits: a byte reads back from its digits, and has only these. Only the checker need believe this file.
use mathlib.Core.Path.{◌≡◌, ap, ◌∙◌}
use mathlib.Core.Logic.{by_cases}
use mathlib.Core.Bool.{◌&&◌}
use Prim.Native.Nat.{ℕ, ◌≤◌, ◌<◌, ◌+◌, ◌-◌, ◌*◌, ◌/◌, ◌%◌}
use native.Mathlib.Omega.{arith}
use native.Mathlib.Decide.{dec_lt}
use borrow.Author.Tests.{lt-leb}
use lib.Dec.{leb, ltb}
use Rattle.network.proofs.Booleans.{by_test, and_left, and_right, leb_yes, leb_is, ltb_yes, ltb_is, ltb_no}
use Rattle.frame.specs.Hex.{hex_digit}
use Rattle.frame.specs.ReadFrame.{digit_of, pair_of}

-- ---- digits

decimal : (c : ℕ) → 48 ≤ c → c ≤ 57 → digit_of c ≡ c - 48
unfolding digit_of
decimal c h k = simp (leb_yes 48 c h, leb_yes c 57 k)

letter : (c : ℕ) → 65 ≤ c → c ≤ 70 → digit_of c ≡ c - 55
unfolding digit_of
letter c h k = simp (leb_yes 48 c (omega arith), lt-leb c 57 (omega arith), leb_yes 65 c h, leb_yes c 70 k)

low : (v : ℕ) → v < 10 → hex_digit v ≡ 48 + v
unfolding hex_digit
low v h = simp (ltb_yes v 10 h)

high : (v : ℕ) → 10 ≤ v → hex_digit v ≡ 55 + v
unfolding hex_digit
high v h = simp (ltb_no v 10 (λ k. omega arith))

pub digit_of_hex : (v : ℕ) → v < 16 → digit_of (hex_digit v) ≡ v
digit_of_hex v h =
    by_cases (dec_lt v 10)
    (λ k. ap digit_of (low v k) ∙ decimal (48 + v) (omega arith) (omega arith) ∙ omega arith)
    (λ k. ap digit_of (high v (omega arith)) ∙ letter (55 + v) (omega arith) (omega arith) ∙ omega arith)

-- a character that is a digit is the digit of its value
pub hex_of_digit : (c : ℕ) → digit_of c < 16 → hex_digit (digit_of c) ≡ c
unfolding digit_of
hex_of_digit c h =
    by_test (leb 48 c && leb c 57)
    (λ t.
    let a = leb_is 48 c (and_left (leb 48 c) (leb c 57) t) in
    let b = leb_is c 57 (and_right (leb 48 c) (leb c 57) t) in
    ap hex_digit (decimal c a b) ∙ low (c - 48) (omega arith) ∙ omega arith)
    (λ f.
    by_test (leb 65 c && leb c 70)
    (λ t.
    let a = leb_is 65 c (and_left (leb 65 c) (leb c 70) t) in
    let b = leb_is c 70 (and_right (leb 65 c) (leb c 70) t) in
    ap hex_digit (letter c a b) ∙ high (c - 55) (omega arith) ∙ omega arith)
    (λ g. absurd (let e : digit_of c ≡ 16 = rw (f, g) in omega arith)))

-- ---- bytes

pair_is : (h l : ℕ) → h < 16 → l < 16 → pair_of h l ≡ 16 * h + l
unfolding pair_of
pair_is h l a b = simp (ltb_yes h 16 a, ltb_yes l 16 b)

pub byte_back : (b : ℕ) → b < 256 → pair_of (digit_of (hex_digit (b / 16))) (digit_of (hex_digit (b % 16))) ≡ b
byte_back b h =
    rw (digit_of_hex (b / 16) (omega arith), digit_of_hex (b % 16) (omega arith))
    (pair_is (b / 16) (b % 16) (omega arith) (omega arith) ∙ omega arith)

pair_digits : (h l : ℕ) → pair_of h l < 256 → (h < 16) × (l < 16)
unfolding pair_of
pair_digits h l e =
    by_test (ltb h 16 && ltb l 16)
    (λ t. (ltb_is h 16 (and_left (ltb h 16) (ltb l 16) t), ltb_is l 16 (and_right (ltb h 16) (ltb l 16) t)))
    (λ f. absurd (let g : pair_of h l ≡ 256 = rw f in omega arith))

-- two characters that are read as a byte are its digits
pub byte_digits :
    (c d : ℕ) → pair_of (digit_of c) (digit_of d) < 256 →
    (hex_digit (pair_of (digit_of c) (digit_of d) / 16) ≡ c) × (hex_digit (pair_of (digit_of c) (digit_of d) % 16) ≡ d)
byte_digits c d h =
    let g = pair_digits (digit_of c) (digit_of d) h in
    let e = pair_is (digit_of c) (digit_of d) g.0 g.1 in
    let x : pair_of (digit_of c) (digit_of d) / 16 ≡ digit_of c = omega (arith, e, g.0, g.1) in
    let y : pair_of (digit_of c) (digit_of d) % 16 ≡ digit_of d = omega (arith, e, g.0, g.1) in
    (ap hex_digit x ∙ hex_of_digit c g.0, ap hex_digit y ∙ hex_of_digit d g.1)
