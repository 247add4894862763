-- `flip_slot`: while partners are looked for, the least slot found is sound or some partner is still to come. Only the checker need believe this file.
use mathlib.Core.Path.{sym, ap, ◌∙◌, subst}
use Prim.Native.Nat.{ℕ, ◌+◌, ◌≤◌}
use native.Mathlib.Omega.{arith}
use native.Mathlib.Nat.{min-le_left, min-le_right}
use lib.Bits.{bit_xor}
use Rattle.masks.proofs.NextLaws.{Next}
use Rattle.table.specs.Table.{Within, entry, flipped, set_to}
use Rattle.table.specs.Table as t
use Rattle.table.proofs.TableLaws.{within_none, next_mask, Seeking, seek_start, seek_next, seek_done, free_byte}
use borrow.Author.Rules.{rules}
use Rattle.table.proofs.rules.flip_slot.Goals as goal
use Rattle.table.proofs.rules.flip_slot.Goals.{Else-d-eq0, Else-least-here}

-- the least slot is no later than it was, nor than the partner's
no-later : (c : Else-least-here) →
    (c.min-least.result ≤ c.loop-least.least) × (c.min-least.result ≤ c.slot_at.result)
no-later c = rw c.min-least.ensures (min-le_left _ _, min-le_right _ _)

-- the partner's slot is taken in
entered : (c : Else-least-here) →
    let a = c.args in
    c.min-least.result ≤ entry a.table.now (flipped a.v.now a.s.letters a.q a.x c.loop-least.d) a.x
entered c =
    let a = c.args in
    let other = c.set_to-other.ensures
    ∙ ap (λ (mask : ℕ). set_to (bit_xor a.s.letters mask) (t.free a.v.now a.x) c.loop-least.d) c.letter_mask.ensures in
    let there = c.slot_at.ensures ∙ ap (λ (o : ℕ). entry a.table.now o a.x) other in
    subst (λ (m : ℕ). c.min-least.result ≤ m) there (no-later c).1

-- d was not the last
behind : (c : Else-d-eq0) → Next (t.free c.args.v.now c.args.x) c.loop-least.d
behind c =
    let l = c.loop-least in
    next_mask _ l.invariant.0 l.d l.invariant.1 (λ e. c.if-d-eq0.false (c.next_inside-d.ensures ∙ e))

pub loop-least-init : goal.loop-least-init
loop-least-init c =
    let a = c.args in
    (free_byte a.v.now a.x (search rules), within_none _, seek_start a.v.now a.table.now a.s.letters a.q a.x _ (ap (λ (n : ℕ). n + 1) c.slot_at-first.ensures))

pub returns-then-d-eq0 : goal.returns-then-d-eq0
returns-then-d-eq0 c =
    let a = c.args in
    let l = c.loop-least in
    let at = (goal.at.returns-then-d-eq0 c).Else-least-here in
    seek_done a.v.now a.table.now a.s.letters a.q a.x l.least l.d c.min-least.result
    l.invariant.2 l.invariant.1 l.invariant.0 (no-later at).0 (entered at)
    (sym c.next_inside-d.ensures ∙ c.if-d-eq0.true)

pub loop-least-smaller : goal.loop-least-smaller
loop-least-smaller c = let next = behind c in let g = next.greater in let e = c.next_inside-d.ensures in omega arith

pub loop-least-preserved : goal.loop-least-preserved
loop-least-preserved c =
    let a = c.args in
    let l = c.loop-least in
    let at = (goal.at.loop-least-preserved c).Else-least-here in
    let next = c.next_inside-d.ensures in (
      l.invariant.0,
      subst (Within _) (sym next) (behind c).within,
      subst (Seeking a.v.now a.table.now a.s.letters a.q a.x c.min-least.result) (sym next)
          (seek_next a.v.now a.table.now a.s.letters a.q a.x l.least l.d c.min-least.result
          l.invariant.2 l.invariant.1 l.invariant.0 (no-later at).0 (entered at)
          (λ z. c.if-d-eq0.false (next ∙ z))),
    )
