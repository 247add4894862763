-- Laws for demand 1: numbers that are among some, faults that come first, buffers that are filled, and what a crew is told. Only the
-- checker need believe this file.
use mathlib.Core.Path.{◌≡◌, refl, sym, ◌∙◌}
use mathlib.Core.Logic.{◌↔◌, inl, inr, by_cases}
use mathlib.Core.Bool.{Bool, true, false, ◌&&◌, ◌||◌}
use mathlib.Core.List.{List, [], ◌∷◌}
use Prim.Native.Nat.{ℕ, zero, suc, ◌+◌, ◌≤◌, ◌<◌}
use native.Mathlib.Omega.{arith}
use native.Mathlib.Decide.{dec_lt}
use lib.Dec.{leb, eqb}
use lib.ListN.{length}
use Rattle.network.specs.Game.{State, Move, after}
use Rattle.network.proofs.Booleans.{by_test, clash, and_left, and_right, leb_yes, leb_is, leb_no, eqb_is, eqb_no, differs}
use Rattle.plan.specs.declared.Plan.{Plan}
use Rattle.plan.specs.declared.Refusal.{Refusal}
use Rattle.plan.specs.declared.Refusal.TheVariants as refusal
use Rattle.plan.specs.Refusal.{refusal_number}
use Rattle.plan.specs.Faults.{unless, first, answered, filled}
use Rattle.plan.specs.Plan.{network_of}
use Rattle.plan.specs.WellFormed.{WellFormed}
use Rattle.plan.proofs.AnswerLaws.{unless_is, unless_of, first_none}
use Rattle.plan.proofs.RefusalLaws.{no_refusal}
use Rattle.judge.specs.Judge.{plan_fault}
use Rattle.judge.proofs.JudgeTheorems.{fine_exactly}
use Rattle.judge.proofs.WellFormedLaws.{two_to_four}
use Rattle.frame.specs.Texts.{room_fault}
use Rattle.frame.proofs.WritingLaws.{writes}
use Rattle.tree.specs.Parts.{node_at}
use Rattle.tree.specs.Parts.{from_node, move_of}
use Rattle.run.specs.Run.{nodes_before, told_here, told_from, unless_fault, report_fault}
use Rattle.run.specs.Told.{Told, instruct, complete, refuse, may_report}
use Rattle.demands.specs.EachCall.{OneOf, Fills}

-- ---- one of some numbers

-- the tests: whether a number is among some, and whether all of ms are
abbrev pub among : List ℕ → ℕ → Bool
among [] n = false
among (m ∷ ms) n = eqb n m || among ms n

abbrev pub all_among : List ℕ → List ℕ → Bool
all_among ks [] = true
all_among ks (m ∷ ms) = among ks m && all_among ks ms

pub one_of : (ms : List ℕ) (k : ℕ) → among ms k ≡ true → {n : ℕ} → n ≡ k → OneOf ms n
unfolding OneOf
one_of [] k t e = clash t refl
one_of (m ∷ ms) k t e = by_test (eqb k m) (λ y. inl (e ∙ eqb_is k m y)) (λ z. inr (one_of ms k (rw z at t) e))

-- one of ms is one of ks, where all of ms are among ks; of written-out numbers `refl` says that
pub one_of_more : (ks ms : List ℕ) (n : ℕ) → all_among ks ms ≡ true → OneOf ms n → OneOf ks n
unfolding OneOf
one_of_more ks (m ∷ ms) n t (inl e) = one_of ks m (and_left (among ks m) (all_among ks ms) t) e
one_of_more ks [] n t x'' = elim x'' [ ]
one_of_more ks (m ∷ ms) n t (inr h) = one_of_more ks ms n (and_right (among ks m) (all_among ks ms) t) h

-- k numbers from m on
abbrev pub from : ℕ → ℕ → List ℕ
from m zero = []
from m (suc k) = m ∷ from (suc m) k

pub one_between : (m k n : ℕ) → m ≤ n → n < m + k → OneOf (from m k) n
unfolding OneOf
one_between m zero n low high = absurd (omega arith)
one_between m (suc k) n low high =
    by_cases (dec_lt m n) (λ lt. inr (one_between (suc m) k n (omega arith) (omega arith))) (λ ge. inl (omega arith))

-- ---- faults

-- the first of two faults is one of them: the second only where the first is none
first_of : (P : ℕ → Type 0) (a b : ℕ) → (¬ (a ≡ 0) → P a) → (a ≡ 0 → P b) → P (first a b)
unfolding first
first_of P a b one two = by_test (eqb a 0) (λ y. rw y (two (eqb_is a 0 y))) (λ z. rw z (one (differs a 0 z)))

pub first_one : (ms : List ℕ) (a b : ℕ) → OneOf ms a → OneOf ms b → OneOf ms (first a b)
first_one ms a b one two = first_of (OneOf ms) a b (λ ne. one) (λ e. two)

pub unless_one : (ms : List ℕ) (b : Bool) (r : Refusal) → all_among ms (0 ∷ refusal_number r ∷ []) ≡ true → OneOf ms (unless b r)
unfolding OneOf
unless_one ms b r t =
    let both : List ℕ = 0 ∷ refusal_number r ∷ [] in one_of_more ms both (unless b r) t (unless_of (OneOf both) b r (inl refl) (inr (inl refl)))

-- a test that fails is refused, and only then
pub unless_exactly : (b : Bool) (r : Refusal) → (unless b r ≡ refusal_number r) ↔ (b ≡ false)
unfolding unless
unless_exactly b r = (
  λ e. by_test b (λ y. absurd (no_refusal r (sym e ∙ rw y))) (λ z. z),
  λ z. rw z,
)

pub unless_yes : (b : Bool) (r : Refusal) → b ≡ true → unless b r ≡ 0
unfolding unless
unless_yes b r y = rw y

pub long_enough : (n k : ℕ) → n ≤ k → unless (leb n k) refusal.Buffer ≡ 0
long_enough n k le = unless_yes (leb n k) refusal.Buffer (leb_yes n k le)

-- 10 where a length is short of n, before any fault that is not 10
pub short_exactly : (n k : ℕ) → (unless (leb n k) refusal.Buffer ≡ 10) ↔ (k < n)
short_exactly n k = (
  λ e. let no = (unless_exactly (leb n k) refusal.Buffer).0 e in
      by_cases (dec_lt k n) (λ lt. lt) (λ ge. clash (leb_yes n k (omega arith)) no),
  λ lt. (unless_exactly (leb n k) refusal.Buffer).1 (leb_no n k (λ le. omega arith)),
)

-- the first of two faults is a: it is the first, or there is none and it is the second
pub first_exactly : (m a b : ℕ) → ¬ (m ≡ 0) → ¬ (b ≡ m) → (first a b ≡ m) ↔ (a ≡ m)
unfolding first
first_exactly m a b some other = (
  λ e. by_test (eqb a 0) (λ y. absurd (other (rw y at e))) (λ z. rw z at e),
  λ e. by_test (eqb a 0) (λ y. absurd (some (sym e ∙ eqb_is a 0 y))) (λ z. rw z e),
)

pub first_zero : (a b : ℕ) → a ≡ 0 → first a b ≡ b
unfolding first
first_zero a b e = rw e

pub first_some : (a b : ℕ) → ¬ (a ≡ 0) → first a b ≡ a
unfolding first
first_some a b n = rw (eqb_no a 0 n)

-- a plan record is well formed, or its fault is 2, 3 or 4
pub by_plan : {C : Type 0} (p : Plan) → (WellFormed p → C) → (¬ WellFormed p → OneOf (2 ∷ 3 ∷ 4 ∷ []) (plan_fault p) → C) → C
by_plan p fine faulty =
    by_test (eqb (plan_fault p) 0)
    (λ y. fine ((fine_exactly p).0 (eqb_is (plan_fault p) 0 y)))
    (λ z. let n : ¬ WellFormed p = λ wf. differs (plan_fault p) 0 z ((fine_exactly p).1 wf) in
    let (low, high) = two_to_four p n in
    faulty n (one_between 2 3 (plan_fault p) low (omega arith)))

pub plan_one : (ms : List ℕ) → all_among ms (0 ∷ 2 ∷ 3 ∷ 4 ∷ []) ≡ true → (p : Plan) → OneOf ms (plan_fault p)
unfolding OneOf
plan_one ms t p =
    one_of_more ms (0 ∷ 2 ∷ 3 ∷ 4 ∷ []) (plan_fault p) t (by_plan p (λ wf. inl ((fine_exactly p).1 wf)) (λ n h. inr h))

-- ---- buffers

pub fills : (n : ℕ) (bytes xs : List ℕ) → (n ≡ 0 → length bytes ≤ length xs) → Fills n bytes xs (filled n bytes xs)
unfolding filled
fills n bytes xs room =
    record { has_room = room; front = λ e. rw e; refused = λ ne. rw (eqb_no n 0 ne) }

pub stays : (n : ℕ) (bytes xs : List ℕ) → ¬ (n ≡ 0) → filled n bytes xs ≡ xs
unfolding filled
stays n bytes xs some = rw (eqb_no n 0 some)

-- a text that is written, where `fault` is judged before the room
module _ (fault : ℕ) (text xs : List ℕ) where
  abbrev room : Bool
  room = leb (length text) (length xs)

  pub write_one : (ms : List ℕ) → all_among ms (0 ∷ 10 ∷ []) ≡ true → OneOf ms fault → OneOf ms (writes fault text xs).fault
  unfolding answered
  write_one ms t one = first_one ms fault (room_fault text xs) one (unless_one ms room refusal.Buffer t)

  -- the fault that comes first, then the room
  pub write_first : ¬ (fault ≡ 0) → (writes fault text xs).fault ≡ fault
  unfolding answered
  write_first some = first_some fault (room_fault text xs) some

  pub write_room : fault ≡ 0 → ((writes fault text xs).fault ≡ 10) ↔ (length xs < length text)
  unfolding answered
  write_room none =
      let then = first_zero fault (room_fault text xs) none in
      let short = short_exactly (length text) (length xs) in
      (λ e. short.0 (sym then ∙ e), λ lt. then ∙ short.1 lt)

  pub write_length : (writes fault text xs).fault ≡ 0 → (writes fault text xs).value ≡ length text
  unfolding answered
  write_length e = rw e

  pub write_fills : Fills (writes fault text xs).fault text xs (filled (writes fault text xs).fault text xs)
  unfolding answered
  write_fills =
      fills (writes fault text xs).fault text xs
      (λ e. leb_is (length text) (length xs) (unless_is room refusal.Buffer (first_none fault (room_fault text xs) e).1))

-- ---- what a crew is told: the numbers of its refusals

abbrev pub crew_numbers : List ℕ
crew_numbers = 2 ∷ 3 ∷ 4 ∷ 6 ∷ 7 ∷ 8 ∷ 9 ∷ []

-- each of them is a refusal's
pub refusal_said : (n : ℕ) → OneOf crew_numbers n → (r : Refusal) × (refusal_number r ≡ n)
unfolding OneOf
refusal_said n (inl e) = (refusal.Head, sym e)
refusal_said n (inr (inl e)) = (refusal.Letters, sym e)
refusal_said n (inr (inr (inl e))) = (refusal.Constraints, sym e)
refusal_said n (inr (inr (inr (inl e)))) = (refusal.Shape, sym e)
refusal_said n (inr (inr (inr (inr (inl e))))) = (refusal.Broken, sym e)
refusal_said n (inr (inr (inr (inr (inr (inl e)))))) = (refusal.Mask, sym e)
refusal_said n (inr (inr (inr (inr (inr (inr (inl e))))))) = (refusal.AfterDone, sym e)
refusal_said n (inr (inr (inr (inr (inr (inr (inr none))))))) = absurd none

-- a number of theirs that is not 0 is a refusal's
pub some_refusal : (n : ℕ) → OneOf (0 ∷ crew_numbers) n → ¬ (n ≡ 0) → (r : Refusal) × (refusal_number r ≡ n)
unfolding OneOf
some_refusal n (inl e) some = absurd (some e)
some_refusal n (inr h) some = refusal_said n h

abbrev pub Numbered : Told → Type 0
Numbered (instruct m) = Unit {0}
Numbered complete = Unit {0}
Numbered (refuse n) = OneOf crew_numbers n

here_numbered : (left : ℕ) (bs : List ℕ) → Numbered (told_here left bs)
here_numbered left bs = by_test (eqb left 0) (λ y. rw y tt) (λ z. rw z tt)

pub told_numbered : (p : Plan) (s : State) (bs os : List ℕ) → Numbered (told_from p s bs os)
unfolding told_from
told_numbered p s bs [] = here_numbered s.left bs
told_numbered p s bs (o ∷ os) =
    let m = move_of (node_at bs 0) in
    by_test (eqb s.left 0)
    (λ y. rw y (one_of crew_numbers 9 refl refl))
    (λ z. rw z
    (by_test (may_report p m o)
    (λ y. rw y (told_numbered p (after (network_of p) s m o) (from_node bs (nodes_before p s bs o)) os))
    (λ z. rw z (one_of crew_numbers 8 refl refl))))

pub fault_numbered : (n : ℕ) (x : Told) → OneOf (0 ∷ crew_numbers) n → Numbered x → Numbered (unless_fault n x)
unfolding OneOf unless_fault
fault_numbered n x (inl e) told = rw e told
fault_numbered n x (inr h) told = by_test (eqb n 0) (λ y. rw y told) (λ z. rw z h)

pub report_one : (p : Plan) (x : Told) (o : ℕ) → Numbered x → OneOf (0 ∷ crew_numbers) (report_fault p x o)
unfolding OneOf
report_one p (instruct m) o told = unless_one (0 ∷ crew_numbers) (may_report p m o) refusal.Mask refl
report_one p complete o told = one_of (0 ∷ crew_numbers) 9 refl refl
report_one p (refuse n) o told = inr told

-- a report that is accepted was told an instruction
pub accepted_of : (p : Plan) (o : ℕ) (x : Told) → Numbered x → report_fault p x o ≡ 0 → (m : Move) × (x ≡ instruct m)
accepted_of p o (instruct m) told e = (m, refl)
accepted_of p o complete told e = let z : ◌≡◌ {A = ℕ} 9 0 = e in absurd (omega arith)
accepted_of p o (refuse n) told e = let (r, is) = refusal_said n told in absurd (no_refusal r (is ∙ e))
