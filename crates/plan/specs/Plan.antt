-- Definitions: what a plan record says: its entries, and the network (Definition 2) that it describes. To be believed, for demand 1, 2, 3.
use Rattle.std.specs.Prelude.{cond, List, [], ◌∷◌, ℕ, zero, suc, ◌-◌, ltb, eqb, ℤ, pos, negsuc, get_or, replicate}
use Rattle.network.specs.Network.{Label, Network}
use Rattle.network.specs.Network as net
use Rattle.plan.specs.declared.Letter.{Letter}
use Rattle.plan.specs.declared.Constraint.{Constraint}
use Rattle.plan.specs.declared.Plan.{Plan}

abbrev pub zero_letter : Letter
zero_letter = record { point = 0; kind = 0 }

abbrev pub zero_constraint : Constraint
zero_constraint = record { from = 0; to = 0; bound = 0; need = 0; truth = 0 }

-- the record that is all zero
abbrev pub zero_plan : Plan
zero_plan =
    record {
      horizon = 0;
      points = 0;
      letters = 0;
      constraints = 0;
      letter = replicate 6 zero_letter;
      constraint = replicate 64 zero_constraint;
    }

-- entry i of the letters, entry j of the constraints; zero past the array
abbrev pub letter_at : Plan → ℕ → Letter
letter_at p i = get_or p.letter i zero_letter

abbrev pub constraint_at : Plan → ℕ → Constraint
constraint_at p j = get_or p.constraint j zero_constraint

-- the number that 16 bits are in two's complement
unfoldable pub signed : ℕ → ℤ
signed b = cond (ltb b 32768) (pos b) (negsuc (65535 - b))

abbrev pub label_of : Constraint → Label
label_of c = record { need = c.need; truth = c.truth }

abbrev pub constraint_of : Constraint → net.Constraint
constraint_of c = record { from = c.from; to = c.to; bound = signed c.bound; label = label_of c }

-- f 0, f 1, .. f (n - 1)
unfoldable pub listed : {A : Type 0} → ℕ → (ℕ → A) → List A
listed zero f = []
listed (suc n) f = f zero ∷ listed n (λ i. f (suc i))

-- kind 1 is a decision, 0 a condition
abbrev pub network_of : Plan → Network
network_of p =
    record {
      horizon = p.horizon;
      points = p.points;
      letters = p.letters;
      disclosing = λ l. (letter_at p l).point;
      is_decision = λ l. eqb (letter_at p l).kind 1;
      constraints = listed p.constraints (λ j. constraint_of (constraint_at p j));
    }
