-- Laws of runs of frames. Only the checker need believe this file.
use mathlib.Core.Path.{◌≡◌, refl, sym, ap, subst, ◌∙◌}
use mathlib.Core.Bool.{Bool, true, false}
use mathlib.Core.List.{List, [], ◌∷◌, ◌++◌, append_assoc}
use Prim.Native.Nat.{ℕ, zero, suc, ◌+◌, ◌-◌, ◌≤◌, ◌<◌}
use native.Mathlib.Omega.{arith}
use lib.Dec.{eqb}
use lib.ListN.{length, drop, take}
use lib.Seq.{drop_at, take_at}
use Rattle.network.specs.Mask.{join_below}
use Rattle.network.proofs.Booleans.{by_test, eqb_no, eqb_is, differs}
use Rattle.network.proofs.JoinLaws.{join_first}
use Rattle.plan.specs.declared.Refusal.{Refusal}
use Rattle.plan.specs.Refusal.{refusal_number}
use Rattle.plan.specs.Answer.{Answer, fine}
use Rattle.plan.specs.Faults.{unless, first, answered, and_then, filled}
use Rattle.plan.proofs.RefusalLaws.{no_refusal, some_number}
use Rattle.plan.proofs.AnswerLaws.{unless_is, unless_of, answered_fault, answered_fine}
use Rattle.frame.specs.ReadFrame.{frame_length}
use Rattle.frame.specs.Texts.{frame_fault, frames_from, at_end}

-- ---- faults

-- a frame has no fault exactly where it is whole and its values are good
pub frame_fine_is : (text values : Refusal) (w g : Bool) → frame_fault text w values g ≡ 0 → (w ≡ true) × (g ≡ true)
unfolding frame_fault first unless
frame_fine_is text values true g e = (refl, unless_is g values e)
frame_fine_is text values false g e =
    absurd (no_refusal text (by_test (eqb (refusal_number text) 0) (eqb_is (refusal_number text) 0) (λ z. rw z at e)))

pub frame_fine : (text values : Refusal) {w g : Bool} → w ≡ true → g ≡ true → frame_fault text w values g ≡ 0
unfolding frame_fault first unless
frame_fine text values e f = rw (e, f)

-- a frame that is not whole has the text's fault, whatever its values; a whole one whose values are not good has theirs
pub frame_broken : (text values : Refusal) {w : Bool} (g : Bool) → w ≡ false → frame_fault text w values g ≡ refusal_number text
unfolding frame_fault first unless
frame_broken text values g e = rw (e, some_number text)

pub frame_bad : (text values : Refusal) {w g : Bool} → w ≡ true → g ≡ false → frame_fault text w values g ≡ refusal_number values
unfolding frame_fault first unless
frame_bad text values e f = rw (e, f)

-- a frame's fault is none or one of its two refusals'
pub frame_fault_of :
    (P : ℕ → Type 0) (text values : Refusal) (w g : Bool) → P 0 → P (refusal_number text) → P (refusal_number values) →
    P (frame_fault text w values g)
unfolding frame_fault first
frame_fault_of P text values w g none t v =
    by_test (eqb (unless w text) 0)
    (λ z. rw z (unless_of P g values none v))
    (λ z. rw z (unless_of P w text none t))

-- ---- answers

module _ {A : Type 0} where
  -- what each of two answers has, one after the other has
  pub then_each : (P : Answer A → Type 0) (a : Answer A) (next : A → Answer A) → P a → ((b : A) → P (next b)) → P (and_then a next)
  unfolding and_then
  then_each P a next now later = by_test (eqb a.fault 0) (λ z. rw z (later a.value)) (λ z. rw z now)

  pub then_goes : (a : Answer A) (next : A → Answer A) → a.fault ≡ 0 → and_then a next ≡ next a.value
  unfolding and_then
  then_goes a next e = rw e

  pub then_stops : (a : Answer A) (next : A → Answer A) → ¬ (a.fault ≡ 0) → and_then a next ≡ a
  unfolding and_then
  then_stops a next n = rw (eqb_no a.fault 0 n)

  pub then_refused :
      (k : Refusal) (a : Answer A) (next : A → Answer A) → a.fault ≡ refusal_number k → (and_then a next).fault ≡ refusal_number k
  then_refused k a next e =
      ap (λ (x : Answer A). x.fault) (then_stops a next (λ z. no_refusal k (sym e ∙ z))) ∙ e

  -- no fault at the end is none on the way
  pub then_fine : (a : Answer A) (next : A → Answer A) → (and_then a next).fault ≡ 0 → a.fault ≡ 0
  then_fine a next e =
      by_test (eqb a.fault 0) (eqb_is a.fault 0) (λ z. rw (then_stops a next (differs a.fault 0 z)) at e)

  -- the answer that reads one frame
  pub frame_read :
      (zeros : A) (text values : Refusal) (a : A) {w g : Bool} → w ≡ true → g ≡ true →
      answered zeros (frame_fault text w values g) a ≡ fine a
  frame_read zeros text values a {w} {g} e f = answered_fine zeros (frame_fault text w values g) a (frame_fine text values e f)

  pub frame_read_is :
      (zeros : A) (text values : Refusal) (w g : Bool) (a : A) → (answered zeros (frame_fault text w values g) a).fault ≡ 0 →
      (w ≡ true) × (g ≡ true) × (answered zeros (frame_fault text w values g) a ≡ fine a)
  frame_read_is zeros text values w g a e =
      let n : frame_fault text w values g ≡ 0 = sym (answered_fault zeros (frame_fault text w values g) a) ∙ e in
      let both = frame_fine_is text values w g n in
      (both.0, both.1, answered_fine zeros (frame_fault text w values g) a n)

  pub at_end_lem : (zeros : A) (text : Refusal) (a : A) → at_end zeros text a [] ≡ fine a
  unfolding at_end unless
  at_end_lem zeros text a = answered_fine zeros 0 a refl

  pub at_end_is : (zeros : A) (text : Refusal) (a : A) (s : List ℕ) → (at_end zeros text a s).fault ≡ 0 → s ≡ []
  unfolding at_end answered
  at_end_is zeros text a [] e = refl
  at_end_is zeros text a (c ∷ s) e =
      let z : suc (length s) ≡ 0 = eqb_is (suc (length s)) 0 (unless_is (eqb (suc (length s)) 0) text e) in absurd (omega arith)

  pub at_end_extra : (zeros : A) (text : Refusal) (a : A) (c : ℕ) (s : List ℕ) → (at_end zeros text a (c ∷ s)).fault ≡ refusal_number text
  unfolding at_end answered unless
  at_end_extra zeros text a c s = let n : ¬ (suc (length s) ≡ 0) = λ e. omega arith in rw (eqb_no (suc (length s)) 0 n)

-- ---- lent buffers

pub filled_is : (bytes xs : List ℕ) → filled 0 bytes xs ≡ bytes ++ drop (length bytes) xs
unfolding filled
filled_is bytes xs = refl

pub filled_front : (bytes xs : List ℕ) → take (length bytes) (filled 0 bytes xs) ≡ bytes
unfolding filled
filled_front bytes xs = take_at bytes (drop (length bytes) xs) (length bytes) refl

-- ---- runs

module _ {A : Type 0} (read : A → ℕ → List ℕ → Answer A) (m : ℕ) (after : A → List ℕ → Answer A) where
  pub frames_step :
      (n i : ℕ) (a : A) (s : List ℕ) → i < n → frames_from read m after (n - i) i a s
      ≡ and_then (read a i s) (λ b. frames_from read m after (n - (i + 1)) (i + 1) b (drop (frame_length m) s))
  unfolding frames_from
  frames_step n i a s h = let e : n - i ≡ suc (n - (i + 1)) = omega arith in rw e

  -- the first faulty frame decides
  pub frames_refused :
      (k : Refusal) (n i : ℕ) (a : A) (s : List ℕ) → i < n → (read a i s).fault ≡ refusal_number k →
      (frames_from read m after (n - i) i a s).fault ≡ refusal_number k
  frames_refused k n i a s h e =
      ap (λ (x : Answer A). x.fault) (frames_step n i a s h) ∙ then_refused k (read a i s) _ e

  pub frames_end : (n i : ℕ) (a : A) (s : List ℕ) → n ≤ i → frames_from read m after (n - i) i a s ≡ after a s
  unfolding frames_from
  frames_end n i a s h = let e : n - i ≡ 0 = omega arith in rw e

  -- where each text says what the next state is, the texts one after the other say the last
  back_from :
      (n i : ℕ) (st : ℕ → A) (f : ℕ → List ℕ) (r : List ℕ) →
      ((k : ℕ) → k < n → (r : List ℕ) → read (st k) (i + k) (f k ++ r) ≡ fine (st (suc k))) →
      ((k : ℕ) → k < n → length (f k) ≡ frame_length m) → frames_from read m after n i (st 0) (join_below n f ++ r) ≡ after (st n) r
  unfolding frames_from join_below and_then
  back_from zero i st f r says long = refl
  back_from (suc n) i st f r says long =
      let t = join_below n (λ k. f (suc k)) ++ r in
      let e : join_below (suc n) f ++ r ≡ f 0 ++ t = rw (join_first n f) (append_assoc (f 0) (join_below n (λ k. f (suc k))) r) in
      let z : i + 0 ≡ i = omega arith in
      let now : read (st 0) i (f 0 ++ t) ≡ fine (st 1) = rw z at (says 0 (omega arith) t) in
      ap (frames_from read m after (suc n) i (st 0)) e ∙ rw (now, drop_at (f 0) t (frame_length m) (long 0 (omega arith)))
      (back_from n (i + 1) (λ k. st (suc k)) (λ k. f (suc k)) r
      (λ k lt u. let z : i + 1 + k ≡ i + suc k = omega arith in rw z (says (suc k) (omega arith) u))
      (λ k lt. long (suc k) (omega arith)))

  pub run_back :
      (n : ℕ) (st : ℕ → A) (f : ℕ → List ℕ) (r : List ℕ) →
      ((i : ℕ) → i < n → (r : List ℕ) → read (st i) i (f i ++ r) ≡ fine (st (suc i))) →
      ((i : ℕ) → i < n → length (f i) ≡ frame_length m) → frames_from read m after n 0 (st 0) (join_below n f ++ r) ≡ after (st n) r
  run_back n st f r says long =
      back_from n 0 st f r (λ k lt u. let z : 0 + k ≡ k = omega arith in rw z (says k lt u)) long

  -- n frames and k behind them are one run
  pub run_split :
      (n k i : ℕ) (a : A) (s : List ℕ) →
      frames_from read m after (n + k) i a s ≡ frames_from read m (frames_from read m after k (i + n)) n i a s
  unfolding frames_from
  run_split zero k i a s = let z : zero + k ≡ k = omega arith in let y : i + zero ≡ i = omega arith in rw (z, y)
  run_split (suc n) k i a s =
      let z : suc n + k ≡ suc (n + k) = omega arith in
      let y : i + suc n ≡ i + 1 + n = omega arith in
      let there : ℕ → Type 0 =
      λ x. frames_from read m after (suc (n + k)) i a s ≡ frames_from read m (frames_from read m after k x) (suc n) i a s in
      let here : there (i + 1 + n) = ap (and_then (read a i s)) (λ j b. run_split n k (i + 1) b (drop (frame_length m) s) j) in
      rw z (subst there (sym y) here)

  -- A run stops at its first faulty frame, or goes on to what follows its frames. What each good frame keeps holds there.
  module _
      (I : ℕ → A → List ℕ → Type 0) (bound : ℕ)
      (keeps : (i : ℕ) (a : A) (s : List ℕ) → I i a s → i < bound → (read a i s).fault ≡ 0 →
      I (i + 1) (read a i s).value (drop (frame_length m) s)) where
    pub run_stops :
        {C : Type 0} (n i : ℕ) (a : A) (s : List ℕ) → I i a s → i + n ≤ bound →
        ((k : ℕ) (b : A) (r : List ℕ) → k < i + n → I k b r → ¬ ((read b k r).fault ≡ 0) →
        frames_from read m after n i a s ≡ read b k r → C) →
        ((b : A) (r : List ℕ) → I (i + n) b r → frames_from read m after n i a s ≡ after b r → C) → C
    unfolding frames_from
    run_stops zero i a s h le stops ends = let z : i + 0 ≡ i = omega arith in ends a s (rw z h) refl
    run_stops (suc n) i a s h le stops ends =
        let next : A → Answer A = λ b. frames_from read m after n (i + 1) b (drop (frame_length m) s) in
        by_test (eqb (read a i s).fault 0)
        (λ y.
        let now = eqb_is (read a i s).fault 0 y in
        let goes : frames_from read m after (suc n) i a s ≡ next (read a i s).value = then_goes (read a i s) next now in
        let z : i + 1 + n ≡ i + suc n = omega arith in
        run_stops n (i + 1) (read a i s).value (drop (frame_length m) s) (keeps i a s h (omega arith) now) (omega arith)
        (λ k b r lt hk f e. stops k b r (omega arith) hk f (goes ∙ e))
        (λ b r hb e. ends b r (rw z at hb) (goes ∙ e)))
        (λ no.
        let f = differs (read a i s).fault 0 no in stops i a s (omega arith) h f (then_stops (read a i s) next f))

    -- a good run does not stop
    pub run_invariant :
        (n i : ℕ) (a : A) (s : List ℕ) → I i a s → i + n ≤ bound → (frames_from read m after n i a s).fault ≡ 0 →
        (b : A) × (r : List ℕ) × I (i + n) b r × (frames_from read m after n i a s ≡ after b r)
    run_invariant n i a s h le e =
        run_stops n i a s h le (λ k b r lt hk f g. absurd (f (rw g at e))) (λ b r hb g. (b, r, hb, g))

  -- what each frame's answer has and what follows them has, the run's answer has
  pub run_each :
      (P : Answer A → Type 0) → ((a : A) (i : ℕ) (s : List ℕ) → P (read a i s)) → ((a : A) (s : List ℕ) → P (after a s)) →
      (n i : ℕ) (a : A) (s : List ℕ) → P (frames_from read m after n i a s)
  unfolding frames_from
  run_each P one last zero i a s = last a s
  run_each P one last (suc n) i a s =
      then_each P (read a i s) _ (one a i s) (λ b. run_each P one last n (i + 1) b (drop (frame_length m) s))
