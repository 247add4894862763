-- Cases: plan texts, computed: document 01's listing, its edges, and a text for each way to be refused. Only the checker need believe this
-- file; a reader may like to.
use mathlib.Core.Path.{◌≡◌, refl}
use mathlib.Core.List.{List, [], ◌∷◌}
use Prim.Native.Nat.{ℕ}
use Prim.Native.String.{String}
use lib.ListN.{replicate}
use Rattle.network.specs.Mask.{all_below, join_below}
use Rattle.network.specs.Below.{any_below}
use Rattle.plan.specs.declared.Plan.{Plan}
use Rattle.plan.specs.Answer.{fine}
use Rattle.plan.specs.Faults.{unless, first, answered, and_then}
use Rattle.plan.specs.Plan.{zero_letter, zero_constraint, zero_plan}
use Rattle.judge.specs.Judge.{head_fine, taken_before, letter_fine, letter_unused, letter_entry, letters_fine, bound_fine, constraint_fine, constraint_unused, constraint_entry, constraints_fine, plan_fault}
use Rattle.frame.specs.Hex.{hex_digit}
use Rattle.frame.specs.ReadFrame.{digit_of, pair_of, byte_at, whole}
use Rattle.frame.specs.Texts.{frame_fault, frames_from, at_end}
use Rattle.frame.specs.Characters.{characters}
use Rattle.plan_text.specs.PlanText.{plan_text}
use Rattle.plan_text.specs.WritePlan.{write_plan}
use Rattle.plan_text.specs.ReadPlan.{read_head, read_letter, read_constraint, read_plan}

-- ---- the listing of document 01, K4

abbrev k4 : Plan
k4 =
    record {
      horizon = 2;
      points = 2;
      letters = 1;
      constraints = 2;
      letter = record { point = 0; kind = 0 } ∷ replicate 5 zero_letter;
      constraint =
          record { from = 0; to = 1; bound = 1; need = 1; truth = 1 } ∷ record { from = 1; to = 0; bound = 65534; need = 1; truth = 0 }
          ∷ replicate 62 zero_constraint;
    }

abbrev listing : List ℕ
listing = characters "0102020102\n02000000\n03000100010101\n030100FFFE0100\n"

pub k4_reads : read_plan listing ≡ fine k4
unfolding read_plan read_head read_letter read_constraint frames_from frame_fault at_end and_then answered first unless whole byte_at pair_of digit_of all_below any_below head_fine letter_fine taken_before constraint_fine bound_fine
k4_reads = refl

pub k4_written : plan_text k4 ≡ listing
unfolding plan_text join_below hex_digit
k4_written = refl

-- ---- faults

abbrev fault_of : String → ℕ
fault_of t = (read_plan (characters t)).fault

-- 1: no text; no line feed at the end; a carriage return; a blank; a blank line behind; a lower-case digit; another kind; too short; too
-- long; frames missing; a frame too many
pub texts :
    (fault_of "" ≡ 1) × (fault_of "0103010000" ≡ 1) × (fault_of "0103010000\r\n" ≡ 1) × (fault_of " 0103010000\n" ≡ 1)
    × (fault_of "0103010000\n\n" ≡ 1) × (fault_of "010A010000\n" ≡ 0) × (fault_of "010a010000\n" ≡ 1) × (fault_of "0403010000\n" ≡ 1)
    × (fault_of "01030100\n" ≡ 1) × (fault_of "010301000000\n" ≡ 1) × (fault_of "0102020102\n02000000\n" ≡ 1)
    × (fault_of "0102020102\n03000100010101\n030100FFFE0100\n" ≡ 1) × (fault_of "0103010000\n02000000\n" ≡ 1)
    × (fault_of "0103010000\n0103010000\n" ≡ 1)
unfolding read_plan read_head read_letter read_constraint frames_from frame_fault at_end and_then answered first unless whole byte_at pair_of digit_of all_below any_below head_fine letter_fine taken_before constraint_fine bound_fine
texts = (refl, refl, refl, refl, refl, refl, refl, refl, refl, refl, refl, refl, refl, refl)

-- 2: horizon 64, no point, nine points, seven letters, more letters than points, 65 constraints; whatever follows
pub heads :
    (fault_of "013F080000\n" ≡ 0) × (fault_of "0140010000\n" ≡ 2) × (fault_of "0103000000\n" ≡ 2) × (fault_of "0103090000\n" ≡ 2)
    × (fault_of "0103080700\n" ≡ 2) × (fault_of "0103010200\n" ≡ 2) × (fault_of "0103010041\n" ≡ 2)
    × (fault_of "0140010000\nno frame" ≡ 2)
unfolding read_plan read_head read_letter read_constraint frames_from frame_fault at_end and_then answered first unless whole byte_at pair_of digit_of all_below any_below head_fine letter_fine taken_before constraint_fine bound_fine
heads = (refl, refl, refl, refl, refl, refl, refl, refl)

-- 3: out of order, a bad point, a point already taken, a bad kind; before whatever is wrong further down, and after what is wrong above
pub letters :
    (fault_of "0103020200\n02000101\n02010000\n" ≡ 0) × (fault_of "0103020200\n02010000\n02000101\n" ≡ 3)
    × (fault_of "0103020100\n02000200\n" ≡ 3) × (fault_of "0103020200\n02000100\n02010100\n" ≡ 3)
    × (fault_of "0103020100\n02000002\n" ≡ 3) × (fault_of "0103020101\n02000002\nno frame" ≡ 3)
    × (fault_of "0103020101\n02000002" ≡ 1) × (fault_of "0103020200\n0200000\n02010002\n" ≡ 1)
unfolding read_plan read_head read_letter read_constraint frames_from frame_fault at_end and_then answered first unless whole byte_at pair_of digit_of all_below any_below head_fine letter_fine taken_before constraint_fine bound_fine
letters = (refl, refl, refl, refl, refl, refl, refl, refl)

-- 4: a bad point X or Y, bounds 1000 and -1000 beside 999 and -999, "need" outside the letters, "true" outside "need"
pub constraints :
    (fault_of "0103010001\n03000003E70000\n" ≡ 0) × (fault_of "0103010001\n030000FC190000\n" ≡ 0)
    × (fault_of "0103010001\n03000003E80000\n" ≡ 4) × (fault_of "0103010001\n030000FC180000\n" ≡ 4)
    × (fault_of "0103010001\n03010000000000\n" ≡ 4) × (fault_of "0103010001\n03000100000000\n" ≡ 4)
    × (fault_of "0103010101\n02000000\n03000000000101\n" ≡ 0) × (fault_of "0103010101\n02000000\n03000000000200\n" ≡ 4)
    × (fault_of "0103010101\n02000000\n03000000000001\n" ≡ 4) × (fault_of "0103010002\n03000003E80000\nno frame" ≡ 4)
unfolding read_plan read_head read_letter read_constraint frames_from frame_fault at_end and_then answered first unless whole byte_at pair_of digit_of all_below any_below head_fine letter_fine taken_before constraint_fine bound_fine
constraints = (refl, refl, refl, refl, refl, refl, refl, refl, refl, refl)

-- ---- writing: 2, 3, 4 before 10, and a buffer of just the text's length

pub writing :
    (write_plan k4 listing ≡ fine 50) × ((write_plan k4 (replicate 49 0)).fault ≡ 10) × ((write_plan k4 []).fault ≡ 10)
    × ((write_plan zero_plan []).fault ≡ 2)
unfolding write_plan plan_text join_below plan_fault head_fine letters_fine letter_entry letter_fine letter_unused taken_before constraints_fine constraint_entry constraint_fine constraint_unused bound_fine all_below any_below first unless answered
writing = (refl, refl, refl, refl)
