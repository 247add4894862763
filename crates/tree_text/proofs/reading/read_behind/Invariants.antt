-- The invariant: what is left to read from here says what the whole says. Only the checker need believe this file.
use mathlib.Core.Path.{◌≡◌}
use mathlib.Core.List.{List}
use Prim.Native.Nat.{ℕ, ◌-◌}
use Rattle.plan.specs.declared.Refusal.TheVariants as refusal
use Rattle.plan.specs.Answer.{Answer}
use Rattle.frame.specs.Texts.{frames_from, at_end}
use Rattle.tree_text.proofs.TreeTextLaws.{node_reader}
use Rattle.tree_text.proofs.reading.read_behind.Given as goal

-- behind the nodes
abbrev pub end : ℕ → List ℕ → Answer ℕ
end = at_end 0 refusal.TreeText

abbrev pub invariant-loop : goal.invariant-loop
invariant-loop l = frames_from node_reader 4 end l.n 0 l.n l.s ≡ frames_from node_reader 4 end (l.n - l.counter) l.counter l.n l.rest
