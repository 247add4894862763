-- Definitions: what a crew is told, the instruction at a history by the tree, and what a showing and a reporting hand back. To be believed,
-- for demand 1, 2, 3.
use Rattle.std.specs.Prelude.{Bool, cond, List, [], ◌∷◌, ℕ, eqb}
use Rattle.std.specs.Int.Bits.{bit_and}
use Rattle.network.specs.Mask.{mask}
use Rattle.network.specs.Game.{Move, hears}
use Rattle.network.specs.Tree.{Tree, done, node}
use Rattle.plan.specs.declared.Plan.{Plan}
use Rattle.plan.specs.declared.Refusal.TheVariants as refusal
use Rattle.plan.specs.Refusal.{refusal_number, judged_number}
use Rattle.plan.specs.Answer.{Answer}
use Rattle.plan.specs.Plan.{network_of}
use Rattle.run.specs.declared.Instruction.{Instruction}
use Rattle.run.specs.declared.History.{History}
use Rattle.run.specs.declared.Shown.{Shown}
use Rattle.run.specs.declared.Shown.TheVariants as shown
use Rattle.run.specs.declared.Reported.{Reported}

-- What a crew is told (document 01's term): an instruction, which is a move of the game; that it is done; or the number of a refusal.
pub data Told : Type 0 where
  instruct : Move → Told
  complete : Told
  refuse : ℕ → Told

-- a report at the instruction m: a mask whose bits are all among the conditions that its points disclose
abbrev pub may_report : Plan → Move → ℕ → Bool
may_report p m o = eqb (bit_and o (mask 6 (hears (network_of p) m))) o

-- The instruction at a history is the node reached from the root by its masks, or done when the last node of a path has been reported. At
-- each mask in turn, 9 where the run was done before it, then 8 where it names what it may not.
unfoldable pub instruction_at : Plan → Tree → List ℕ → Told
instruction_at p done [] = complete
instruction_at p done (o ∷ os) = refuse (refusal_number refusal.AfterDone)
instruction_at p (node m next) [] = instruct m
instruction_at p (node m next) (o ∷ os) = cond (may_report p m o) (instruction_at p (next o) os) (refuse (refusal_number refusal.Mask))

-- number and values of each case of what `show` hands back
abbrev pub instructed : Instruction → Move
instructed v = record { slot = v.slot; points = v.points; choices = v.choices }

abbrev pub shown_told : Shown → Told
shown_told (shown.Instruct v) = instruct (instructed v)
shown_told shown.Done = complete
shown_told (shown.Refused r) = refuse (refusal_number r)

-- .. and of what `report` hands back
abbrev pub reported_answer : Reported → Answer History
reported_answer r = record { fault = judged_number r.answer; value = r.history }
