-- Theorems on the layouts: nothing is lost, either way. A reader may read the statements; only the checker need believe the proofs.
use mathlib.Core.Path.{◌≡◌, refl, sym, ap, ◌∙◌}
use mathlib.Core.List.{List, [], ◌∷◌, ◌++◌}
use Prim.Native.Nat.{ℕ, zero, suc, ◌+◌, ◌*◌, ◌≤◌, ◌<◌}
use native.Mathlib.Omega.{arith}
use lib.ListN.{length, get_or, take, drop, get_or-append}
use lib.Seq.{ext_get_or, take-add, drop-drop}
use Rattle.network.proofs.JoinLaws.{join_cong}
use Rattle.plan.specs.declared.Letter.{Letter}
use Rattle.plan.specs.declared.Constraint.{Constraint}
use Rattle.plan.specs.declared.Plan.{Plan}
use Rattle.plan.specs.Plan.{zero_letter, zero_constraint, letter_at, constraint_at, listed}
use Rattle.plan.proofs.PlanLaws.{listed_same}
use Rattle.frame.specs.Frame.{Bytes}
use Rattle.plan.proofs.SliceLaws.{length_listed, get_listed}
use Rattle.run.specs.declared.History.{History}
use Rattle.records.specs.Records.{letter_bytes, constraint_bytes, head_bytes, plan_bytes, letter_from, constraint_from, plan_in, plan_length, history_bytes, history_in, history_length}
use Rattle.records.proofs.StoreLaws.{plan_length_lem}
use Rattle.records.proofs.RecordLaws.{letter_back, constraint_back, join_there, letter_stored, constraint_stored}

-- the first bytes of a list, one by one
front : (bs : List ℕ) (n : ℕ) → n ≤ length bs → listed n (λ i. get_or bs i 0) ≡ take n bs
unfolding listed
front bs zero h = refl
front [] (suc n) h = absurd (omega arith)
front (b ∷ bs) (suc n) h = ap (λ (l : List ℕ). b ∷ l) (front bs n (omega arith))

-- a plan's record is 400 bytes
pub plan_bytes_lem : (p : Plan) → length (plan_bytes p) ≡ plan_length
plan_bytes_lem p = plan_length_lem p

-- Every record, well formed or not, comes back as it was (its arrays have their six and 64 entries by their types).
pub plan_crosses : (p : Plan) → length p.letter ≡ 6 → length p.constraint ≡ 64 → plan_in (plan_bytes p) ≡ p
unfolding plan_in plan_bytes
plan_crosses p six many =
    let f : ℕ → Letter = λ i. letter_from (plan_bytes p) (4 + 2 * i) in
    let g : ℕ → Constraint = λ j. constraint_from (plan_bytes p) (16 + 6 * j) in
    let letters = ext_get_or zero_letter (listed 6 f) p.letter (length_listed 6 f ∙ sym six)
    (λ i lt. let h : i < 6 = rw (length_listed 6 f) at lt in get_listed zero_letter 6 f i h ∙ letter_back p i h) in
    let constraints = ext_get_or zero_constraint (listed 64 g) p.constraint (length_listed 64 g ∙ sym many)
    (λ j lt. let h : j < 64 = rw (length_listed 64 g) at lt in get_listed zero_constraint 64 g j h ∙ constraint_back p j h) in
    λ i. record { horizon = p.horizon; points = p.points; letters = p.letters; constraints = p.constraints; letter = letters i; constraint = constraints i }

-- Every list of 400 bytes is the record of the plan that it says.
pub bytes_cross : (bs : List ℕ) → Bytes bs → plan_length ≤ length bs → plan_bytes (plan_in bs) ≡ take plan_length bs
unfolding plan_in plan_bytes listed
bytes_cross bs bytes room =
    let f : ℕ → Letter = λ i. letter_from bs (4 + 2 * i) in
    let g : ℕ → Constraint = λ j. constraint_from bs (16 + 6 * j) in
    let letters = join_cong 6 (λ i. letter_bytes (letter_at (plan_in bs) i)) (λ i. letter_bytes (f i))
    (λ i lt. ap letter_bytes (get_listed zero_letter 6 f i lt))
    ∙ join_there bs 4 2 (λ i. letter_bytes (f i)) 6 (λ i lt. letter_stored bs (4 + 2 * i) (omega arith)) in
    let constraints = join_cong 64 (λ j. constraint_bytes (constraint_at (plan_in bs) j)) (λ j. constraint_bytes (g j))
    (λ j lt. ap constraint_bytes (get_listed zero_constraint 64 g j lt))
    ∙ join_there bs 16 6 (λ j. constraint_bytes (g j)) 64 (λ j lt. constraint_stored bs (16 + 6 * j) bytes (omega arith)) in
    let head : head_bytes (plan_in bs) ≡ take 4 bs = front bs 4 (omega arith) in
    ap (λ (l : List ℕ). head_bytes (plan_in bs) ++ l) (rw (letters, constraints) (sym (ap (λ (l : List ℕ). take 12 (drop 4 bs) ++ take 384 l) (drop-drop 12 4 bs)) ∙ sym (take-add 12 384 (drop 4 bs))))
    ∙ ap (λ (l : List ℕ). l ++ take 396 (drop 4 bs)) head
    ∙ sym (take-add 4 396 bs)

-- Bytes behind a record do not count.
pub behind_ignored : (bs r : List ℕ) → length bs ≡ plan_length → plan_in (bs ++ r) ≡ plan_in bs
unfolding plan_in
behind_ignored bs r long =
    let same : (k : ℕ) → k < 400 → get_or (bs ++ r) k 0 ≡ get_or bs k 0 = λ k lt. get_or-append bs r 0 k (omega arith) in
    let letters = listed_same 6 (λ i. letter_from (bs ++ r) (4 + 2 * i)) (λ i. letter_from bs (4 + 2 * i))
    (λ i lt n. record { point = same (4 + 2 * i) (omega arith) n; kind = same (4 + 2 * i + 1) (omega arith) n }) in
    let constraints = listed_same 64 (λ j. constraint_from (bs ++ r) (16 + 6 * j)) (λ j. constraint_from bs (16 + 6 * j))
    (λ j lt n. record {
      from = same (16 + 6 * j) (omega arith) n;
      to = same (16 + 6 * j + 1) (omega arith) n;
      bound = 256 * same (16 + 6 * j + 2) (omega arith) n + same (16 + 6 * j + 3) (omega arith) n;
      need = same (16 + 6 * j + 4) (omega arith) n;
      truth = same (16 + 6 * j + 5) (omega arith) n;
    }) in
    λ n. record {
      horizon = same 0 (omega arith) n;
      points = same 1 (omega arith) n;
      letters = same 2 (omega arith) n;
      constraints = same 3 (omega arith) n;
      letter = letters n;
      constraint = constraints n;
    }

-- The same of histories.
pub history_crosses : (h : History) → length h.masks ≡ 8 → history_in (history_bytes h) ≡ h
history_crosses h eight =
    let f : ℕ → ℕ = λ i. get_or (history_bytes h) (1 + i) 0 in
    let masks = ext_get_or 0 (listed 8 f) h.masks (length_listed 8 f ∙ sym eight)
    (λ i lt. let k : i < 8 = rw (length_listed 8 f) at lt in
    let s : 1 + i ≡ suc i = omega arith in
    get_listed 0 8 f i k ∙ ap (λ (n : ℕ). get_or (history_bytes h) n 0) s) in
    λ i. record { count = h.count; masks = masks i }

pub history_bytes_cross : (bs : List ℕ) → history_length ≤ length bs → history_bytes (history_in bs) ≡ take history_length bs
unfolding listed
history_bytes_cross bs room = front bs 9 room
