-- Laws of texts that are read frame by frame, as the code does. The texts of plans and of trees are read alike. Only the checker need
-- believe this file.
use mathlib.Core.Path.{◌≡◌, sym, ap, ◌∙◌}
use mathlib.Core.Bool.{Bool}
use mathlib.Core.List.{List}
use Prim.Native.Nat.{ℕ, ◌+◌, ◌-◌, ◌≤◌, ◌<◌}
use lib.ListN.{length}
use Rattle.std.specs.Prelude.{Result, Ok, Err}
use Rattle.plan.specs.declared.Refusal.{Refusal}
use Rattle.plan.specs.Refusal.{refusal_number}
use Rattle.plan.specs.Answer.{Answer, fine, answer_of}
use Rattle.plan.specs.Faults.{answered, and_then}
use Rattle.plan.proofs.RefusalLaws.{no_refusal, refusal_one_number}
use Rattle.plan.proofs.AnswerLaws.{answered_fine, answered_refused}
use Rattle.plan.proofs.SliceLaws.{rest, rest_is}
use Rattle.frame.specs.ReadFrame.{frame_length, whole}
use Rattle.frame.specs.Texts.{frame_fault, frames_from}
use Rattle.frame.proofs.FrameLaws.{whole_long}
use Rattle.frame.proofs.RunLaws.{then_goes, then_stops, frame_read_is, frames_step}

-- what a call hands back, and its number and value
module _ {A : Type 0} (zeros : A) where
  -- a frame judged, and what it says: the refusal where it has one
  pub judged_refused : (a : A) (k : Refusal) {n : ℕ} → refusal_number k ≡ n → answer_of zeros (Err k) ≡ answered zeros n a
  judged_refused a k e = rw (← e) (answered_refused zeros a k)

  pub judged_fine : (a : A) {n : ℕ} → 0 ≡ n → answer_of zeros (Ok a) ≡ answered zeros n a
  judged_fine a {n} e = sym (answered_fine zeros n a (sym e))

  pub answer_ok : (r : Result A Refusal) (a : A) → answer_of zeros r ≡ fine a → r ≡ Ok a
  answer_ok (Ok b) a e = ap (λ (x : Answer A). Ok x.value) e
  answer_ok (Err k) a e = absurd (no_refusal k (ap (λ (x : Answer A). x.fault) e))

  pub answer_err : (r : Result A Refusal) (k : Refusal) → (answer_of zeros r).fault ≡ refusal_number k → r ≡ Err k
  answer_err (Ok b) k e = absurd (no_refusal k (sym e))
  answer_err (Err j) k e = ap (λ (i : Refusal). Err i) (refusal_one_number j k e)

module _ {A : Type 0} where
  -- x is what a call answered. Reading goes on behind what is fine, and ends at what is not.
  pub then_on : {x : Answer A} (a : Answer A) (next : A → Answer A) → x ≡ a → x.fault ≡ 0 → and_then a next ≡ next x.value
  then_on {x} a next e h = rw (← e) (then_goes x next h)

  pub then_stop :
      {x : Answer A} (a : Answer A) (next : A → Answer A) (r : Refusal) → x ≡ a → x.fault ≡ refusal_number r → x ≡ and_then a next
  then_stop {x} a next r e h = rw (← e) (sym (then_stops x next (λ z. no_refusal r (sym h ∙ z))))

  -- what was read as a frame is as long as one
  pub read_long :
      (zeros : A) (text values : Refusal) (kind n : ℕ) (s : List ℕ) (good : Bool) (a : A) {x : Answer A} →
      x ≡ answered zeros (frame_fault text (whole kind n s) values good) a → x.fault ≡ 0 → frame_length n ≤ length s
  read_long zeros text values kind n s good a e h =
      whole_long kind n s (frame_read_is zeros text values (whole kind n s) good a (sym (ap (λ (x : Answer A). x.fault) e) ∙ h)).0

  module _ (read : A → ℕ → List ℕ → Answer A) (m : ℕ) (after : A → List ℕ → Answer A) (n i : ℕ) (a : A) (s : List ℕ) (lt : i < n) where
    pub frames_on :
        {x : Answer A} → x ≡ read a i s → x.fault ≡ 0 →
        frames_from read m after (n - i) i a s ≡ frames_from read m after (n - (i + 1)) (i + 1) x.value (rest (frame_length m) s)
    frames_on e h = rw (frames_step read m after n i a s lt, rest_is) (then_on (read a i s) _ e h)

    pub frames_stop : {x : Answer A} (r : Refusal) → x ≡ read a i s → x.fault ≡ refusal_number r → x ≡ frames_from read m after (n - i) i a s
    frames_stop r e h = rw (frames_step read m after n i a s lt) (then_stop (read a i s) _ r e h)
