-- Definitions: what a crew is told, and a step that it followed, as bytes. Computed: pinned by `library_demands` of
-- tureenlark/proofs/LibraryTheorem.antt.
use Rattle.std.specs.Prelude.{List, [], ◌∷◌, ℕ}
use Rattle.run.specs.Told.{Told, instruct, complete, refuse}
use Rattle.following.specs.declared.Step.{Step}

-- the bytes of an instruction: slot, points, choices
abbrev pub told_bytes : Told → List ℕ
told_bytes (instruct m) = m.slot ∷ m.points ∷ m.choices ∷ []
told_bytes complete = []
told_bytes (refuse n) = []

-- four bytes to a step: slot, points and choices told, the mask reported
abbrev pub step_bytes : Step → List ℕ
step_bytes s = s.instruction.slot ∷ s.instruction.points ∷ s.instruction.choices ∷ s.report ∷ []
