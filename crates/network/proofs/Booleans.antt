-- Laws of Booleans and of tests of numbers. Only the checker need believe this file.
use mathlib.Core.Path.{◌≡◌, refl, sym, ◌∙◌, subst}
use mathlib.Core.Logic.{◌≢◌, ◌↔◌, ◌⊎◌, inl, inr, ⊎_elim}
use mathlib.Core.Bool.{Bool, true, false, not, ◌&&◌, ◌||◌, beq, true≢false}
use Prim.Native.Nat.{ℕ, ◌≤◌, ◌<◌}
use lib.Dec.{T, leb, ltb, eqb, leb→le, le→leb, ltb→lt, lt→ltb, eqb→eq, eqb_refl}

-- a case split on a test, with what it said
pub by_test {ℓ} : {C : Type ℓ} (b : Bool) → (b ≡ true → C) → (b ≡ false → C) → C
by_test true f g = f refl
by_test false f g = g refl

pub clash {ℓ} : {C : Type ℓ} {b : Bool} → b ≡ true → b ≡ false → C
clash t f = absurd (true≢false (sym t ∙ f))

pub test : {b : Bool} → b ≡ true → T b
test e = subst T (sym e) tt

pub untest : (b : Bool) → T b → b ≡ true
untest true t = refl
untest false t = absurd t

pub not_true : (b : Bool) → not b ≡ true → b ≡ false
not_true true e = sym e
not_true false e = refl

pub not_false : (b : Bool) → not b ≡ false → b ≡ true
not_false true e = refl
not_false false e = sym e

-- what is promised of a result, where `if !f(..)` was taken, and where it was left
pub denied : {a b : Bool} → a ≡ b → not a ≡ true → b ≡ false
denied {a} e t = sym e ∙ not_true a t

pub granted : {a b : Bool} → a ≡ b → not a ≡ false → b ≡ true
granted {a} e t = sym e ∙ not_false a t

pub and_left : (a b : Bool) → (a && b) ≡ true → a ≡ true
and_left true b t = refl
and_left false b t = t

pub and_right : (a b : Bool) → (a && b) ≡ true → b ≡ true
and_right true b t = t
and_right false b t = clash t refl

pub and_make : {a b : Bool} → a ≡ true → b ≡ true → (a && b) ≡ true
and_make {a} {b} s t = rw (s, t)

pub or_right : (a : Bool) {b : Bool} → b ≡ true → (a || b) ≡ true
or_right true t = refl
or_right false t = t

-- two Booleans that are true together are equal
pub both_ways : (a b : Bool) → (a ≡ true → b ≡ true) → (b ≡ true → a ≡ true) → a ≡ b
both_ways true b f g = sym (f refl)
both_ways false true f g = g refl
both_ways false false f g = refl

-- ---- the test whether two Booleans are the same

pub beq_is : (a b : Bool) → beq a b ≡ true → a ≡ b
beq_is true true e = refl
beq_is true false e = sym e
beq_is false true e = e
beq_is false false e = refl

pub beq_yes : (a b : Bool) → a ≡ b → beq a b ≡ true
beq_yes true true e = refl
beq_yes true false e = sym e
beq_yes false true e = e
beq_yes false false e = refl

-- ---- tests of numbers

pub leb_yes : (a b : ℕ) → a ≤ b → leb a b ≡ true
leb_yes a b h = untest (leb a b) (le→leb a b h)

pub leb_is : (a b : ℕ) → leb a b ≡ true → a ≤ b
leb_is a b e = leb→le a b (test e)

pub leb_no : (a b : ℕ) → ¬ (a ≤ b) → leb a b ≡ false
leb_no a b n = by_test (leb a b) (λ y. absurd (n (leb_is a b y))) (λ z. z)

pub ltb_yes : (a b : ℕ) → a < b → ltb a b ≡ true
ltb_yes a b h = untest (ltb a b) (lt→ltb a b h)

pub ltb_is : (a b : ℕ) → ltb a b ≡ true → a < b
ltb_is a b e = ltb→lt a b (test e)

pub ltb_no : (a b : ℕ) → ¬ (a < b) → ltb a b ≡ false
ltb_no a b n = by_test (ltb a b) (λ y. absurd (n (ltb_is a b y))) (λ z. z)

pub eqb_yes : (a b : ℕ) → a ≡ b → eqb a b ≡ true
eqb_yes a b e = rw e (untest (eqb b b) (eqb_refl b))

pub eqb_is : (a b : ℕ) → eqb a b ≡ true → a ≡ b
eqb_is a b e = eqb→eq a b (test e)

pub eqb_no : (a b : ℕ) → ¬ (a ≡ b) → eqb a b ≡ false
eqb_no a b n = by_test (eqb a b) (λ y. absurd (n (eqb_is a b y))) (λ z. z)

pub differs : (a b : ℕ) → eqb a b ≡ false → a ≢ b
differs a b z e = clash (eqb_yes a b e) z

-- ---- what a test says

pub says_le : (a b : ℕ) → (leb a b ≡ true) ↔ (a ≤ b)
says_le a b = (leb_is a b, leb_yes a b)

pub says_lt : (a b : ℕ) → (ltb a b ≡ true) ↔ (a < b)
says_lt a b = (ltb_is a b, ltb_yes a b)

pub says_eq : (a b : ℕ) → (eqb a b ≡ true) ↔ (a ≡ b)
says_eq a b = (eqb_is a b, eqb_yes a b)

pub says_not : (b : Bool) → (not b ≡ true) ↔ (b ≡ false)
says_not b = (not_true b, λ e. rw e)

-- `and`, of two tests that say A and B
infixl 35 ◌also◌
pub ◌also◌ : {a b : Bool} {A B : Type 0} → ((a ≡ true) ↔ A) → ((b ≡ true) ↔ B) → ((a && b) ≡ true) ↔ (A × B)
◌also◌ {a} {b} f g = (λ t. (f.0 (and_left a b t), g.0 (and_right a b t)), λ h. and_make (f.1 h.0) (g.1 h.1))

pub says_or : {a b : Bool} {A B : Type 0} → ((a ≡ true) ↔ A) → ((b ≡ true) ↔ B) → ((a || b) ≡ true) ↔ (A ⊎ B)
says_or {a} {b} f g = (
  λ t. by_test a (λ y. inl (f.0 y)) (λ z. inr (g.0 (rw z at t))),
  λ h. ⊎_elim (λ x. rw (f.1 x)) (λ y. or_right a (g.1 y)) h,
)

-- a test that says A where it is true says that A fails where it is false
pub false_exactly : {b : Bool} {A : Type 0} → ((b ≡ true) ↔ A) → (b ≡ false) ↔ (A → ⊥)
false_exactly {b} f = (λ z a. clash (f.1 a) z, λ n. by_test b (λ t. absurd (n (f.0 t))) (λ z. z))
