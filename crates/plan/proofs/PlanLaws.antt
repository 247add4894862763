-- Laws of lists by their entries, and of well-formed plans: the network of one is a network of the paper. Only the checker need believe this file.
use mathlib.Core.Path.{◌≡◌, refl}
use Prim.Native.Nat.{ℕ, zero, suc, ◌<◌}
use native.Mathlib.Omega.{arith}
use Rattle.network.specs.IsNetwork.{Each, IsNetwork, InNetwork}
use Rattle.plan.specs.declared.Plan.{Plan}
use Rattle.plan.specs.Plan.{listed, network_of}
use Rattle.plan.specs.WellFormed.{WellFormed}

-- the same entries below n make the same list
pub listed_same : {A : Type 0} (n : ℕ) (f g : ℕ → A) → ((i : ℕ) → i < n → f i ≡ g i) → listed n f ≡ listed n g
unfolding listed
listed_same zero f g h = refl
listed_same (suc n) f g h =
    rw (h zero (omega arith), listed_same n (λ i. f (suc i)) (λ i. g (suc i)) (λ i lt. h (suc i) (omega arith))) refl

pub each_listed : {A : Type 0} (P : A → Type 0) (n : ℕ) (f : ℕ → A) → ((j : ℕ) → j < n → P (f j)) → Each P (listed n f)
unfolding Each listed
each_listed P zero f h = tt
each_listed P (suc n) f h = (h zero (omega arith), each_listed P n (λ i. f (suc i)) (λ j lt. h (suc j) (omega arith)))

pub network_of_well_formed : (p : Plan) → WellFormed p → IsNetwork (network_of p)
network_of_well_formed p wf =
    record {
      letters_in_a_byte = let h = wf.head.letters in omega arith;
      disclosed = wf.letters.disclosing;
      own = wf.letters.own_point;
      in_network = each_listed (InNetwork (network_of p)) p.constraints _ (λ j lt. let f = wf.constraints.constraint j lt in
          record { from_point = f.from_point; to_point = f.to_point; over_letters = f.need_letters });
    }
