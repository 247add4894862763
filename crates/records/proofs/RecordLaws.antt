-- Laws of the layouts: what stands where in a record's bytes. Only the checker need believe this file.
use mathlib.Core.Path.{◌≡◌, refl, sym, ap, ◌∙◌}
use mathlib.Core.List.{List, ◌∷◌, ◌++◌, append_assoc}
use Prim.Native.Nat.{ℕ, zero, suc, ◌+◌, ◌*◌, ◌/◌, ◌%◌, ◌≤◌, ◌<◌}
use native.Mathlib.Omega.{arith}
use lib.ListN.{length, get_or, take, drop}
use lib.Seq.{drop-cons, drop-drop, drop-append-le, drop-append-add, get_or-drop, take-add}
use Rattle.network.specs.Mask.{join_below}
use Rattle.network.proofs.JoinLaws.{drop_to_piece}
use Rattle.plan.specs.declared.Letter.{Letter}
use Rattle.plan.specs.declared.Constraint.{Constraint}
use Rattle.plan.specs.declared.Plan.{Plan}
use Rattle.plan.specs.Plan.{letter_at, constraint_at}
use Rattle.frame.specs.Frame.{Bytes}
use Rattle.records.specs.Records.{letter_bytes, constraint_bytes, head_bytes, letters_bytes, constraints_bytes, plan_bytes, letter_from, constraint_from}
use Rattle.records.proofs.StoreLaws.{letters_length}

-- ---- what stands at a place

-- a byte of what is left behind a place
at_place : (bs : List ℕ) (at k : ℕ) {tail : List ℕ} → drop at bs ≡ tail → get_or bs (at + k) 0 ≡ get_or tail k 0
at_place bs at k e = sym (get_or-drop at bs k 0) ∙ ap (λ (l : List ℕ). get_or l k 0) e

at_front : (bs : List ℕ) (at : ℕ) {tail : List ℕ} → drop at bs ≡ tail → get_or bs at 0 ≡ get_or tail 0 0
at_front bs at e = let z : at + 0 ≡ at = omega arith in ap (λ (n : ℕ). get_or bs n 0) (sym z) ∙ at_place bs at 0 e

letter_there : (bs : List ℕ) (at : ℕ) (l : Letter) (r : List ℕ) → drop at bs ≡ letter_bytes l ++ r → letter_from bs at ≡ l
letter_there bs at l r e = λ i. record { point = at_front bs at e i; kind = at_place bs at 1 e i }

constraint_there :
    (bs : List ℕ) (at : ℕ) (c : Constraint) (r : List ℕ) → drop at bs ≡ constraint_bytes c ++ r → constraint_from bs at ≡ c
constraint_there bs at c r e =
    let high = at_place bs at 2 e in
    let low = at_place bs at 3 e in
    let whole : 256 * get_or bs (at + 2) 0 + get_or bs (at + 3) 0 ≡ c.bound = rw (high, low) (omega arith) in
    λ i. record { from = at_front bs at e i; to = at_place bs at 1 e i; bound = whole i; need = at_place bs at 4 e i; truth = at_place bs at 5 e i }

module _ (p : Plan) where
  pub letter_back : (i : ℕ) → i < 6 → letter_from (plan_bytes p) (4 + 2 * i) ≡ letter_at p i
  unfolding plan_bytes
  letter_back i lt =
      let f : ℕ → List ℕ = λ k. letter_bytes (letter_at p k) in
      let piece = drop_to_piece 6 2 f (λ k h. refl) i lt in
      let few = letters_length p in
      let behind : List ℕ = piece.0 ++ constraints_bytes p in
      letter_there (plan_bytes p) (4 + 2 * i) (letter_at p i) behind
      (drop-append-add (head_bytes p) (letters_bytes p ++ constraints_bytes p) (2 * i)
      ∙ drop-append-le (2 * i) (letters_bytes p) (constraints_bytes p) (omega arith)
      ∙ ap (λ (l : List ℕ). l ++ constraints_bytes p) piece.1
      ∙ append_assoc (f i) piece.0 (constraints_bytes p))

  pub constraint_back : (j : ℕ) → j < 64 → constraint_from (plan_bytes p) (16 + 6 * j) ≡ constraint_at p j
  unfolding plan_bytes
  constraint_back j lt =
      let piece = drop_to_piece 64 6 (λ (k : ℕ). constraint_bytes (constraint_at p k)) (λ k h. refl) j lt in
      let few = letters_length p in
      let head : 16 + 6 * j ≡ 4 + (length (letters_bytes p) + 6 * j) = omega arith in
      constraint_there (plan_bytes p) (16 + 6 * j) (constraint_at p j) piece.0
      (ap (λ (n : ℕ). drop n (plan_bytes p)) head
      ∙ drop-append-add (head_bytes p) (letters_bytes p ++ constraints_bytes p) (length (letters_bytes p) + 6 * j)
      ∙ drop-append-add (letters_bytes p) (constraints_bytes p) (6 * j)
      ∙ piece.1)

-- ---- bytes that are read as entries and stored again

-- the first bytes behind a place, one by one
one_more : (bs : List ℕ) (at : ℕ) → at < length bs → drop at bs ≡ get_or bs at 0 ∷ drop (at + 1) bs
one_more bs at lt = let s : suc at ≡ at + 1 = omega arith in drop-cons bs at 0 lt ∙ ap (λ (n : ℕ). get_or bs at 0 ∷ drop n bs) s

two_more : (bs : List ℕ) (at : ℕ) → at + 2 ≤ length bs → drop at bs ≡ get_or bs at 0 ∷ get_or bs (at + 1) 0 ∷ drop (at + 2) bs
two_more bs at h =
    let s : at + 1 + 1 ≡ at + 2 = omega arith in
    one_more bs at (omega arith)
    ∙ ap (λ (l : List ℕ). get_or bs at 0 ∷ l) (one_more bs (at + 1) (omega arith) ∙ ap (λ (n : ℕ). get_or bs (at + 1) 0 ∷ drop n bs) s)

-- pieces of one length, each what stands at its place, are what stands there
pub join_there :
    (bs : List ℕ) (at m : ℕ) (f : ℕ → List ℕ) (n : ℕ) → ((i : ℕ) → i < n → f i ≡ take m (drop (at + m * i) bs)) →
    join_below n f ≡ take (m * n) (drop at bs)
unfolding join_below
join_there bs at m f zero h = let z : m * 0 ≡ 0 = omega arith in ap (λ (k : ℕ). take k (drop at bs)) (sym z)
join_there bs at m f (suc n) h =
    let next : m * suc n ≡ m * n + m = omega arith in
    ap (λ (l : List ℕ). l ++ f n) (join_there bs at m f n (λ i lt. h i (omega arith)))
    ∙ ap (λ (l : List ℕ). take (m * n) (drop at bs) ++ l) (h n (omega arith) ∙ ap (take m) (sym (drop-drop (m * n) at bs)))
    ∙ sym (ap (λ (k : ℕ). take k (drop at bs)) next ∙ take-add (m * n) m (drop at bs))

pub letter_stored : (bs : List ℕ) (at : ℕ) → at + 2 ≤ length bs → letter_bytes (letter_from bs at) ≡ take 2 (drop at bs)
letter_stored bs at h = sym (ap (take 2) (two_more bs at h))

pub constraint_stored :
    (bs : List ℕ) (at : ℕ) → Bytes bs → at + 6 ≤ length bs → constraint_bytes (constraint_from bs at) ≡ take 6 (drop at bs)
constraint_stored bs at bytes h =
    let low = bytes (at + 3) in
    let high_is : (256 * get_or bs (at + 2) 0 + get_or bs (at + 3) 0) / 256 ≡ get_or bs (at + 2) 0 = omega arith in
    let low-is : (256 * get_or bs (at + 2) 0 + get_or bs (at + 3) 0) % 256 ≡ get_or bs (at + 3) 0 = omega arith in
    let s2 : at + 2 + 1 ≡ at + 3 = omega arith in
    let s4 : at + 2 + 2 ≡ at + 4 = omega arith in
    let s5 : at + 4 + 1 ≡ at + 5 = omega arith in
    rw (high_is, low-is)
    (sym (ap (take 6) (two_more bs at (omega arith)
    ∙ ap (λ (l : List ℕ). get_or bs at 0 ∷ get_or bs (at + 1) 0 ∷ l) (rw (s2, s4) at (two_more bs (at + 2) (omega arith))
    ∙ ap (λ (l : List ℕ). get_or bs (at + 2) 0 ∷ get_or bs (at + 3) 0 ∷ l) (rw s5 at (two_more bs (at + 4) (omega arith)))))))
