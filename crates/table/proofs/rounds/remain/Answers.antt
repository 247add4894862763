-- `remain`: while none is found, those passed are struck. Only the checker need believe this file.
use mathlib.Core.Path.{◌≡◌, sym, ◌∙◌, subst}
use mathlib.Core.Bool.{true}
use mathlib.Core.List.{List}
use Prim.Native.Nat.{ℕ}
use native.Mathlib.Omega.{arith}
use Rattle.network.proofs.Booleans.{eqb_is}
use Rattle.masks.proofs.NextLaws.{Next}
use Rattle.table.specs.declared.View.{View}
use Rattle.table.specs.Table.{Within, set_to, entry}
use Rattle.table.proofs.TableLaws.{within_none, next_mask, Before, before_next, before_all}
use borrow.Author.Rules.{rules}
use Rattle.table.proofs.rounds.remain.Goals as goal
use Rattle.table.proofs.rounds.remain.Goals.{After-struck, Else-d-eq0, Joined-not-struck, then-not-struck+else-count-eq1, else-not-struck}

-- the setting of d is struck
abbrev Gone : View → List ℕ → ℕ → ℕ → Type 0
Gone v table c d = entry table (set_to c v.undecided d) 0 ≡ 255

-- a struck setting starts with 255
first_none : (c : After-struck) → c.struck.result ≡ true →
    entry c.args.table.now c.set_to.result.letters 0 ≡ 255
first_none c e = eqb_is _ 255 (sym c.struck.ensures ∙ e)

-- where none is found up to here, all up to here are struck
passed : (c : Joined-not-struck) (first_none_here : c.struck.result ≡ true →
    entry c.args.table.now c.set_to.result.letters 0 ≡ 255) → c.if-not-struck.count ≡ 0 →
    Before (Gone c.args.v.now c.args.table.now c.args.c.letters) c.args.v.now.undecided
    c.loop-c.d × Gone c.args.v.now c.args.table.now c.args.c.letters c.loop-c.d
passed c first_none_here e =
    elim c.if-not-struck.branch [
      | then-not-struck+else-count-eq1 w ↦ absurd (omega (arith, w.count-is))
      | else-not-struck w ↦ (
        c.loop-c.invariant.1 (omega (arith, w.count-is)),
        rw (← c.set_to.ensures) (first_none_here w.if-not-struck.false),
      )
    ]

-- d was not the last
behind : (c : Else-d-eq0) → Next c.args.v.now.undecided
    c.loop-c.d
behind c =
    next_mask c.args.v.now.undecided
    (search rules) c.loop-c.d
    c.loop-c.invariant.0
    (λ e. c.if-d-eq0.false (c.next_inside-d.ensures ∙ e))

pub loop-c-init : goal.loop-c-init
loop-c-init c = (within_none _, λ e m h lt. absurd (omega arith))

pub returns-then-d-eq0 : goal.returns-then-d-eq0
returns-then-d-eq0 c =
    λ e. let p = passed (goal.at.returns-then-d-eq0 c).Joined-not-struck (first_none (goal.at.returns-then-d-eq0 c).After-struck) e in
    record {
      each = before_all (Gone c.args.v.now c.args.table.now c.args.c.letters)
          c.args.v.now.undecided (search rules)
          c.loop-c.d c.loop-c.invariant.0 p.0 p.1
          (sym c.next_inside-d.ensures ∙ c.if-d-eq0.true);
    }

pub loop-c-smaller : goal.loop-c-smaller
loop-c-smaller c = let next = behind c in let g = next.greater in omega arith

pub loop-c-preserved : goal.loop-c-preserved
loop-c-preserved c =
    let next = c.next_inside-d.ensures in (
      subst (Within c.args.v.now.undecided) (sym next) (behind c).within,
      λ e. let p = passed (goal.at.loop-c-preserved c).Joined-not-struck (first_none (goal.at.loop-c-preserved c).After-struck) e in
          subst (Before (Gone c.args.v.now c.args.table.now c.args.c.letters)
          c.args.v.now.undecided) (sym next)
          (before_next (Gone c.args.v.now c.args.table.now c.args.c.letters)
          c.args.v.now.undecided
          (search rules) c.loop-c.d
          c.loop-c.invariant.0 p.0 p.1
          (λ z. c.if-d-eq0.false (next ∙ z))),
    )
