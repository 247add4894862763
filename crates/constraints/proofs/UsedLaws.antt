-- Laws of the constraints that a plan uses: they are those of its network, and what is asked of them in their turn. Only the checker need
-- believe this file.
use mathlib.Core.Path.{◌≡◌, refl, sym, ap, ◌∙◌}
use mathlib.Core.Logic.{by_cases}
use mathlib.Core.Bool.{Bool, true, false, not, ◌&&◌, or-true}
use Rattle.std.proofs.Math.Bool.{and-false}
use mathlib.Core.List.{List, [], ◌∷◌, ◌++◌}
use Prim.Native.Nat.{ℕ, zero, suc, ◌+◌, ◌≤◌, ◌<◌, min}
use native.Mathlib.Omega.{arith}
use native.Mathlib.Decide.{dec_lt}
use lib.ListN.{length, get_or, take}
use Rattle.std.specs.Bool.{MatchBool}
use Rattle.std.specs.List.{AllWithin, HoldsAt}
use Rattle.std.proofs.lemmas.List.{map_more, take_all}
use Rattle.network.specs.Mask.{bit}
use Rattle.network.specs.Network.{Scenario, Schedule, at_most}
use Rattle.network.specs.Network as net
use Rattle.network.specs.SoFar.{kept_so_far, all_kept_so_far, keeps_so_far}
use Rattle.network.specs.TestLabel.{is_holds, label_test}
use Rattle.network.specs.Raise.{turn, turns}
use Rattle.network.specs.Limits.{limited, all_limited}
use Rattle.network.proofs.Booleans.{leb_yes}
use Rattle.plan.specs.declared.Constraint.{Constraint}
use Rattle.plan.specs.declared.Plan.{Plan}
use Rattle.plan.specs.Plan.{zero_constraint, constraint_of, label_of, signed, listed, network_of}
use Rattle.constraints.specs.Used.{constraints_of}

-- ---- the constraints used

-- entries listed one by one are the front of the list
listed_front :
    (n : ℕ) (cs : List Constraint) → n ≤ length cs → constraints_of (take n cs) ≡ listed n (λ j. constraint_of (get_or cs j zero_constraint))
unfolding listed
listed_front zero cs h = refl
listed_front (suc n) [] h = absurd (omega arith)
listed_front (suc n) (c ∷ cs) h = ap (λ (xs : List net.Constraint). constraint_of c ∷ xs) (listed_front n cs (omega arith))

pub used_say : (p : Plan) → p.constraints ≤ length p.constraint → constraints_of (take p.constraints p.constraint) ≡ (network_of p).constraints
used_say p h = listed_front p.constraints p.constraint h

-- no more than the whole array is used
pub used_room : {A : Type 0} (n m : ℕ) (xs : List A) → length xs ≡ m → take (min m n) xs ≡ take n xs
used_room n m xs long = by_cases (dec_lt n m)
    (λ lt. let e : min m n ≡ n = omega arith in rw e)
    (λ ge. let e : min m n ≡ m = omega arith in rw (e, take_all m xs (omega arith), take_all n xs (omega arith)))

-- ---- one constraint more

abbrev c_at : List Constraint → ℕ → net.Constraint
c_at cs i = constraint_of (get_or cs i zero_constraint)

turns_last :
    (cap : ℕ) (s : Scenario) (slots : List ℕ) (cs : List net.Constraint) (c : net.Constraint) →
    turns cap s slots (cs ++ (c ∷ [])) ≡ turn cap s (turns cap s slots cs) c
unfolding turns
turns_last cap s slots [] c = refl
turns_last cap s slots (x ∷ cs) c = turns_last cap s (turn cap s slots x) cs c

pub turns_next :
    (cap : ℕ) (s : Scenario) (slots : List ℕ) (cs : List Constraint) (i : ℕ) → i < length cs →
    turns cap s slots (constraints_of (take (i + 1) cs)) ≡ turn cap s (turns cap s slots (constraints_of (take i cs))) (c_at cs i)
turns_next cap s slots cs i h = rw (map_more constraint_of cs i zero_constraint h) (turns_last cap s slots (constraints_of (take i cs)) (c_at cs i))

limits_last :
    (s : Scenario) (t : List (List ℕ)) (cs : List net.Constraint) (c : net.Constraint) →
    all_limited s t (cs ++ (c ∷ [])) ≡ limited s (all_limited s t cs) c
unfolding all_limited
limits_last s t [] c = refl
limits_last s t (x ∷ cs) c = limits_last s (limited s t x) cs c

pub limits_next :
    (s : Scenario) (t : List (List ℕ)) (cs : List Constraint) (i : ℕ) → i < length cs →
    all_limited s t (constraints_of (take (i + 1) cs)) ≡ limited s (all_limited s t (constraints_of (take i cs))) (c_at cs i)
limits_next s t cs i h = rw (map_more constraint_of cs i zero_constraint h) (limits_last s t (constraints_of (take i cs)) (c_at cs i))

-- ---- all of them kept

module _ (known performed : ℕ) (ψ : Schedule) (s : Scenario) where
  abbrev pub kept : Constraint → Bool
  kept c = kept_so_far known performed ψ s (constraint_of c)

  abbrev all_kept : List Constraint → Bool
  all_kept cs = all_kept_so_far known performed ψ s (constraints_of cs)

  kept_all : (cs : List Constraint) → ((i : ℕ) → i < length cs → kept (get_or cs i zero_constraint) ≡ true) → all_kept cs ≡ true
  unfolding all_kept_so_far
  kept_all [] h = refl
  kept_all (c ∷ cs) h = rw (h 0 (omega arith), kept_all cs (λ i lt. h (suc i) (omega arith)))

  broken_one : (cs : List Constraint) (i : ℕ) → i < length cs → kept (get_or cs i zero_constraint) ≡ false → all_kept cs ≡ false
  unfolding all_kept_so_far
  broken_one [] i lt z = absurd (omega arith)
  broken_one (c ∷ cs) zero lt z = rw z
  broken_one (c ∷ cs) (suc i) lt z = ap (λ (b : Bool). kept c && b) (broken_one cs i (omega arith) z) ∙ and-false (kept c)

  -- as the code looks for one that is broken
  pub each_kept :
      (cs : List Constraint) (r : Bool) →
      MatchBool r (AllWithin (λ c. kept c ≡ true) cs 0 (length cs)) ((i : ℕ) × (i < length cs) × HoldsAt (λ c. kept c ≡ false) cs i) →
      r ≡ all_kept cs
  each_kept cs true all = sym (kept_all cs (λ i lt. all i zero_constraint (omega arith) lt))
  each_kept cs false one = sym (broken_one cs one.0 one.1 (one.2 zero_constraint))

  -- past the array stand zero constraints, which ask nothing
  zero_kept : kept zero_constraint ≡ true
  unfolding at_most signed
  zero_kept = rw (leb_yes (ψ 0) (ψ 0 + 0) (omega arith)) (or-true (not (is_holds (label_test known s (label_of zero_constraint)) && (bit performed 0 && bit performed 0))))

  kept_listed : (n : ℕ) (cs : List Constraint) →
      all_kept (take n cs) ≡ all_kept_so_far known performed ψ s (listed n (λ j. constraint_of (get_or cs j zero_constraint)))
  unfolding all_kept_so_far listed
  kept_listed zero cs = refl
  kept_listed (suc n) [] = rw zero_kept (ap all_kept (sym (take_all n [] (omega arith))) ∙ kept_listed n [])
  kept_listed (suc n) (c ∷ cs) = ap (λ (b : Bool). kept c && b) (kept_listed n cs)

  pub used_kept : (p : Plan) → all_kept (take p.constraints p.constraint) ≡ keeps_so_far (network_of p) known performed ψ s
  unfolding keeps_so_far
  used_kept p = kept_listed p.constraints p.constraint
