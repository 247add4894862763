-- Cases: digits, frames and the frames of refusals, computed. Only the checker need believe this file; a reader may like to.
use mathlib.Core.Path.{◌≡◌, refl}
use mathlib.Core.List.{[], ◌∷◌}
use mathlib.Core.Bool.{true, false}
use Rattle.network.specs.Mask.{all_below}
use Rattle.plan.specs.declared.Refusal.TheVariants as refusal
use Rattle.plan.specs.Faults.{first, unless}
use Rattle.frame.specs.Hex.{hex_digit}
use Rattle.frame.specs.ReadFrame.{digit_of, pair_of, byte_at, value_at, whole}
use Rattle.frame.specs.Frame.{frame_text}
use Rattle.frame.specs.Texts.{frame_fault, refusal_text}
use Rattle.frame.specs.Characters.{characters}

pub written : (frame_text (1 ∷ 35 ∷ 175 ∷ []) ≡ characters "0123AF\n") × (frame_text (254 ∷ []) ≡ characters "FE\n")
unfolding hex_digit
written = (refl, refl)

pub refusals :
    (refusal_text refusal.PlanText ≡ characters "7F01\n") × (refusal_text refusal.Hopeless ≡ characters "7F0B\n")
    × (refusal_text refusal.Buffer ≡ characters "7F0A\n")
unfolding hex_digit
refusals = (refl, refl, refl)

-- the bytes of a frame, whatever stands behind it
pub read :
    (whole 1 3 (characters "0123AF\nxyz") ≡ true) × (value_at (characters "0123AF\nxyz") 1 ≡ 35)
    × (value_at (characters "0123AF\nxyz") 2 ≡ 175)
unfolding whole byte_at pair_of digit_of all_below
read = (refl, refl, refl)

-- no whole frame of kind 01 with three bytes: nothing, another kind, too short, too long, no line feed, a carriage return, a blank, a
-- lower-case digit, the characters beside 0, 9, A and F
pub not_whole :
    (whole 1 3 (characters "") ≡ false) × (whole 1 3 (characters "0223AF\n") ≡ false) × (whole 1 3 (characters "0123\n") ≡ false)
    × (whole 1 3 (characters "0123AF00\n") ≡ false) × (whole 1 3 (characters "0123AF") ≡ false)
    × (whole 1 3 (characters "0123AF\r\n") ≡ false) × (whole 1 3 (characters " 0123AF\n") ≡ false)
    × (whole 1 3 (characters "01 23AF\n") ≡ false) × (whole 1 3 (characters "0123aF\n") ≡ false)
    × (whole 1 3 (characters "0123Af\n") ≡ false) × (whole 1 3 (characters "01/3AF\n") ≡ false)
    × (whole 1 3 (characters "012:AF\n") ≡ false) × (whole 1 3 (characters "0123@F\n") ≡ false)
    × (whole 1 3 (characters "0123AG\n") ≡ false)
unfolding whole byte_at pair_of digit_of all_below
not_whole = (refl, refl, refl, refl, refl, refl, refl, refl, refl, refl, refl, refl, refl, refl)

-- a frame that is not whole gets the text's number, whatever its values are; a whole one that of its values, or none
pub faults :
    (frame_fault refusal.PlanText false refusal.Head false ≡ 1) × (frame_fault refusal.PlanText false refusal.Head true ≡ 1)
    × (frame_fault refusal.PlanText true refusal.Head false ≡ 2) × (frame_fault refusal.PlanText true refusal.Head true ≡ 0)
unfolding frame_fault first unless
faults = (refl, refl, refl, refl)
