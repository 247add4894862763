-- Cases: plan records of document 01 and the networks that they describe, computed; answers and lent buffers. Only the checker need
-- believe this file; a reader may like to.
use mathlib.Core.Path.{◌≡◌, refl}
use mathlib.Core.List.{List, [], ◌∷◌, ◌++◌}
use mathlib.Core.Bool.{true, false}
use Prim.Native.Nat.{ℕ, ◌-◌}
use lib.ListN.{length, replicate}
use Rattle.network.specs.Mask.{bit, mask, count, all_below, first_below, join_below, submask}
use Rattle.network.specs.Below.{any_below}
use Rattle.network.specs.Network.{holds, projected, at_most, feasible, keeps}
use Rattle.network.specs.Game.{start, Move, after}
use Rattle.network.specs.Tree.{preorder}
use Rattle.network.specs.Search.{over, wins_by, wins_with, wins_in, winnable, first_move, first_tree_from, first_tree, hopeless}
use Rattle.plan.specs.declared.Letter.{Letter}
use Rattle.plan.specs.declared.Constraint.{Constraint}
use Rattle.plan.specs.declared.Plan.{Plan}
use Rattle.plan.specs.Answer.{Answer}
use Rattle.plan.specs.Faults.{first, answered, and_then, filled}
use Rattle.plan.specs.Plan.{zero_letter, zero_constraint, signed, listed, network_of}

-- disclosing point, kind
abbrev pub letter : ℕ → ℕ → Letter
letter x k = record { point = x; kind = k }

-- X, Y, bound in two's complement, need, true
abbrev pub constraint : ℕ → ℕ → ℕ → ℕ → ℕ → Constraint
constraint x y d n t = record { from = x; to = y; bound = d; need = n; truth = t }

-- a head, and the entries that are not zero
abbrev pub record_of : ℕ → ℕ → ℕ → ℕ → List Letter → List Constraint → Plan
record_of h n l c ls cs =
    record {
      horizon = h;
      points = n;
      letters = l;
      constraints = c;
      letter = ls ++ replicate (6 - length ls) zero_letter;
      constraint = cs ++ replicate (64 - length cs) zero_constraint;
    }

-- as many entries as the head says
abbrev pub plan : ℕ → ℕ → List Letter → List Constraint → Plan
plan h n ls cs = record_of h n (length ls) (length cs) ls cs

abbrev move : ℕ → ℕ → ℕ → Move
move t ps ch = record { slot = t; points = ps; choices = ch }

-- ---- document 01's K1 to K8

-- one point: K1 with no constraint, K2 and K3 with one each
abbrev pub one_point : List Constraint → Plan
one_point cs = plan 3 1 [] cs

abbrev pub apart : ℕ → List Constraint
apart d = constraint 0 1 d 1 1 ∷ (constraint 1 0 65534 1 0 ∷ [])

abbrev pub k4 : Plan
k4 = plan 2 2 (letter 0 0 ∷ []) (apart 1)

abbrev pub k5 : Plan
k5 = plan 1 2 (letter 0 0 ∷ []) (apart 1)

abbrev pub k6 : Plan
k6 = plan 63 2 (letter 0 0 ∷ []) (apart 0)

abbrev pub k7 : Plan
k7 = plan 2 2 (letter 0 1 ∷ []) (apart 0)

abbrev pub k8 : Plan
k8 = plan 1 2 (letter 0 1 ∷ []) (apart 0)

-- ---- the network of a plan: K4, K5, K7, K8, and K4 with its two points exchanged

abbrev exchanged : Plan
exchanged = plan 2 2 (letter 1 0 ∷ []) (constraint 1 0 1 1 1 ∷ (constraint 0 1 65534 1 0 ∷ []))

pub verdicts :
    (hopeless (network_of k4) ≡ false) × (hopeless (network_of k5) ≡ true) × (hopeless (network_of k7) ≡ false)
    × (hopeless (network_of k8) ≡ false) × (hopeless (network_of exchanged) ≡ false)
unfolding bit mask count all_below any_below submask holds projected at_most feasible keeps start after over wins_by wins_with wins_in winnable signed listed
verdicts = (refl, refl, refl, refl, refl)

pub trees :
    (preorder (network_of k4) (first_tree (network_of k4)) ≡ move 0 1 0 ∷ (move 2 2 0 ∷ (move 1 2 0 ∷ [])))
    × (preorder (network_of k7) (first_tree (network_of k7)) ≡ move 0 1 0 ∷ (move 2 2 0 ∷ []))
    × (preorder (network_of k8) (first_tree (network_of k8)) ≡ move 0 2 0 ∷ (move 1 1 1 ∷ []))
    × (preorder (network_of exchanged) (first_tree (network_of exchanged)) ≡ move 0 2 0 ∷ (move 2 1 0 ∷ (move 1 1 0 ∷ [])))
unfolding bit mask count all_below any_below first_below join_below submask holds projected at_most feasible keeps start after over wins_by wins_with wins_in winnable first_move first_tree_from preorder signed listed
trees = (refl, refl, refl, refl)

-- ---- answers and lent buffers

abbrev answer : ℕ → ℕ → Answer ℕ
answer n v = record { fault = n; value = v }

-- the first fault, whatever the second; the value, and zeros beside a fault; what comes next, and a refusal handed on as it is
pub answers :
    (first 2 10 ≡ 2) × (first 0 10 ≡ 10) × (first 2 0 ≡ 2) × (answered 0 0 5 ≡ answer 0 5) × (answered 0 2 5 ≡ answer 2 0)
    × (and_then (answer 0 5) (λ n. answer 3 n) ≡ answer 3 5) × (and_then (answer 2 5) (λ n. answer 0 n) ≡ answer 2 5)
unfolding first answered and_then
answers = (refl, refl, refl, refl, refl, refl, refl)

-- only the bytes filled change, and none under a fault
pub buffers : (filled 0 (1 ∷ (2 ∷ [])) (7 ∷ (8 ∷ (9 ∷ []))) ≡ 1 ∷ (2 ∷ (9 ∷ []))) × (filled 10 (1 ∷ (2 ∷ [])) (7 ∷ (8 ∷ [])) ≡ 7 ∷ (8 ∷ []))
unfolding filled
buffers = (refl, refl)
