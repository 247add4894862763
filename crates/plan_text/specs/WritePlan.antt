-- Definitions: what writing a plan answers, and what it leaves in the lent buffer. Computed: pinned by `written_reads_back` of
-- plan_text/proofs/PlanTextTheorems.antt.
use Rattle.std.specs.Prelude.{List, ℕ, length}
use Rattle.network.specs.Mask.{join_below}
use Rattle.plan.specs.declared.Plan.{Plan}
use Rattle.plan.specs.Answer.{Answer}
use Rattle.plan.specs.Faults.{first, answered, filled}
use Rattle.plan.specs.Plan.{letter_at, constraint_at}
use Rattle.judge.specs.Judge.{plan_fault}
use Rattle.frame.specs.Texts.{room_fault}
use Rattle.plan_text.specs.PlanText.{letter_text, constraint_text, plan_text}

-- the letters' frames, the constraints' frames
abbrev pub letters_text : Plan → List ℕ
letters_text p = join_below p.letters (λ i. letter_text i (letter_at p i))

abbrev pub constraints_text : Plan → List ℕ
constraints_text p = join_below p.constraints (λ j. constraint_text (constraint_at p j))

-- 2, 3, 4, 10; else the text's length
unfoldable pub write_plan : Plan → List ℕ → Answer ℕ
write_plan p xs = answered 0 (first (plan_fault p) (room_fault (plan_text p) xs)) (length (plan_text p))

-- what that leaves in the buffer
abbrev pub write_plan_leaves : Plan → List ℕ → List ℕ
write_plan_leaves p xs = filled (write_plan p xs).fault (plan_text p) xs
