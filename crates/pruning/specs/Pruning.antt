-- Definitions: what the table of least slots needs to know of a position. The contracts of `lost`, `move_lost` and `soonest` speak of the
-- game alone. Not to be believed: only theorems and inner contracts use it.
use Rattle.std.specs.Prelude.{◌&&◌, List, ℕ, ◌%◌, ltb, eqb, get_or}
use Rattle.std.specs.Borrow.{Bor}
use Rattle.network.specs.Mask.{mask}
use Rattle.plan.specs.declared.Constraint.{Constraint}
use Rattle.plan.specs.declared.Letter.{Letter}
use Rattle.plan.specs.declared.Plan.{Plan}
use Rattle.plan.specs.Plan.{zero_letter, letter_at, listed}
use Rattle.plan.specs.Letters.{heard_by}
use Rattle.plan.specs.Settled.{settled_by}
use Rattle.table.specs.declared.View.{View}
use Rattle.game.specs.declared.Position.{Position}
use Rattle.game.specs.Carried.{slots_after}

-- the letters that a point discloses, of the first so many
abbrev pub letters_at : List Letter → ℕ → ℕ → ℕ
letters_at entries count x = mask 6 (λ l. ltb l count && eqb (get_or entries l zero_letter).point x)

-- The view of a position, to which these constraints are lent. (The remainder makes the first open slot a byte: it is no later than that
-- slot.)
abbrev pub view_of : Plan → Position → Bor (List Constraint) → View
view_of p at constraints =
    record {
      constraints = constraints;
      points = p.points;
      left = at.left;
      values = at.values;
      unheard = heard_by p at.left;
      undecided = settled_by p at.left;
      low = slots_after at.slots at.left (at.earliest % 256);
      cap = slots_after at.slots at.left p.horizon;
      disclosing = listed 6 (λ l. (letter_at p l).point);
      own = listed 8 (letters_at p.letter p.letters);
    }
