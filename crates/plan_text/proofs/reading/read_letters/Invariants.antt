-- The invariant: what is left to read from here says what the whole says. Only the checker need believe this file.
use mathlib.Core.Path.{◌≡◌}
use Prim.Native.Nat.{◌-◌}
use Rattle.frame.specs.Texts.{frames_from}
use Rattle.plan_text.specs.ReadPlan.{read_letter, read_constraints}
use Rattle.plan_text.proofs.reading.read_letters.Given as goal

abbrev pub invariant-loop-i : goal.invariant-loop-i
invariant-loop-i l =
    frames_from read_letter 4 read_constraints l.n 0 l.initial.so_far l.s ≡ frames_from read_letter 4 read_constraints (l.n - l.i) l.i l.so_far l.rest
