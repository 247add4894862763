-- `near`: the conditions passed lead to none that moved. Only the checker need believe this file.
use mathlib.Core.Path.{◌≡◌, refl, sym, ap, ◌∙◌}
use mathlib.Core.Bool.{false, and-false}
use Prim.Native.Nat.{ℕ, ◌%◌, ◌^◌}
use native.Mathlib.Omega.{arith}
use lib.Bits.{bit_xor}
use Rattle.network.specs.Mask.{bit}
use Rattle.network.specs.Below.{any_below}
use Rattle.network.proofs.Booleans.{and_make}
use Rattle.network.proofs.BelowLaws.{any_make, any_next}
use Rattle.table.specs.Table.{nearby}
use Rattle.table.proofs.rounds.near.Invariants.{leads}
use Rattle.table.proofs.rounds.near.Goals as goal
use Rattle.table.proofs.rounds.near.Goals.{Joined-has, then-has+else-among, else-has}

passed : (c : Joined-has) → leads c.args.v.now
    c.args.moved c.args.c.letters
    c.loop-q.q ≡ false
passed c =
    let a = c.args in
    let q = c.loop-q.q in
    elim c.if-has.branch [
      | then-has+else-among w ↦
          let there : bit a.moved (bit_xor a.c.letters (2 ^ q) % 64) ≡ false
          = sym (ap (λ (m : ℕ). bit a.moved (bit_xor a.c.letters m % 64)) w.letter_mask.ensures) ∙ sym w.among.ensures ∙ w.if-among.false in
          rw (there, and-false) refl
      | else-has w ↦ let heard : bit a.v.now.unheard q ≡ false = sym c.has.ensures ∙ w.if-has.false in rw heard refl
    ]

pub loop-q-init : goal.loop-q-init
unfolding any_below
loop-q-init c = (omega arith, refl)

pub returns-then-among : goal.returns-then-among
unfolding nearby
returns-then-among c =
    let a = c.args in
    let there = ap (λ (m : ℕ). bit a.moved (bit_xor a.c.letters m % 64)) c.letter_mask.ensures in
    let found = any_make 6 (leads a.v.now a.moved a.c.letters) c.loop-q.q (omega arith)
    (and_make (sym c.has.ensures ∙ c.if-has.true)
    (sym there ∙ sym c.among.ensures ∙ c.if-among.true)) in
    sym (rw found)

pub loop-q-preserved : goal.loop-q-preserved
loop-q-preserved c = (
  omega arith,
  any_next (leads c.args.v.now c.args.moved
      c.args.c.letters) c.loop-q.q c.loop-q.invariant.1 (passed c),
)

pub returns : goal.returns
unfolding nearby
returns c =
    let a = c.args in
    let e : c.loop-q.q ≡ 6 = omega arith in
    let none : any_below 6 (leads a.v.now a.moved a.c.letters) ≡ false = rw e at c.loop-q.invariant.1 in
    c.among-2.ensures ∙ sym (rw none)
