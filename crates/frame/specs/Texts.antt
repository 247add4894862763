-- Definitions: how a text is judged, frame by frame from the top, and the fault of a writing. Computed: pinned by `demand2` of
-- demands/proofs/Demand2Theorem.antt.
use Rattle.std.specs.Prelude.{Bool, List, ℕ, zero, suc, ◌+◌, leb, eqb, length, drop}
use Rattle.plan.specs.declared.Refusal.{Refusal}
use Rattle.plan.specs.declared.Refusal.TheVariants as refusal
use Rattle.plan.specs.Answer.{Answer}
use Rattle.plan.specs.Faults.{unless, first, answered, and_then}
use Rattle.plan.specs.Refusal.{refusal_number}
use Rattle.frame.specs.Frame.{fault_text}
use Rattle.frame.specs.ReadFrame.{frame_length}

-- the fault of one frame: that of the text where the frame is not whole, before that of its values
unfoldable pub frame_fault : Refusal → Bool → Refusal → Bool → ℕ
frame_fault text is_whole values good = first (unless is_whole text) (unless good values)

-- n frames of m bytes each, from number i on, at the front of s, each read after what was read so far; then what follows them
unfoldable pub frames_from :
    {A : Type 0} → (A → ℕ → List ℕ → Answer A) → ℕ → (A → List ℕ → Answer A) → ℕ → ℕ → A → List ℕ → Answer A
frames_from read m after zero i a s = after a s
frames_from read m after (suc n) i a s =
    and_then (read a i s) (λ b. frames_from read m after n (i + 1) b (drop (frame_length m) s))

-- nothing stands behind the last frame
unfoldable pub at_end : {A : Type 0} → A → Refusal → A → List ℕ → Answer A
at_end zeros text a s = answered zeros (unless (eqb (length s) 0) text) a

-- ---- writing

-- the fault of a lent buffer that has no room for the text
abbrev pub room_fault : List ℕ → List ℕ → ℕ
room_fault text xs = unless (leb (length text) (length xs)) refusal.Buffer

-- the frame of a refusal
abbrev pub refusal_text : Refusal → List ℕ
refusal_text r = fault_text (refusal_number r)
