-- Laws of the bytes of a table of differences: how many there are, and that nothing is lost. Only the checker need believe this file.
use mathlib.Core.Path.{◌≡◌, refl, sym, ap, ◌∙◌}
use mathlib.Core.List.{List, [], ◌∷◌, ◌++◌, append_assoc}
use Prim.Native.Nat.{ℕ, zero, suc, ◌+◌, ◌*◌, ◌/◌, ◌%◌, ◌<◌}
use native.Mathlib.Omega.{arith}
use lib.ListN.{length, get_or, drop, replicate}
use lib.Seq.{drop-drop, drop-append-le, get_or-drop, ext_get_or}
use Rattle.network.specs.Mask.{join_below}
use Rattle.network.proofs.JoinLaws.{join_length, drop_to_piece}
use Rattle.plan.specs.Plan.{listed}
use Rattle.plan.proofs.PlanLaws.{listed_same}
use Rattle.plan.proofs.SliceLaws.{length_listed, get_listed}
use Rattle.differences.specs.declared.Row.{Row}
use Rattle.differences.specs.Answers.{zero_row}
use Rattle.differences.proofs.AnswerLaws.{Eight}
use Rattle.answers.specs.Tables.{entry_bytes, row_bytes, table_bytes, bits_in, rows_in}

pub row_length : (row : Row) → length (row_bytes row) ≡ 16
row_length row = join_length 8 2 (λ y. entry_bytes (get_or row.to y 0)) (λ y lt. refl)

pub table_length_lem : (rows : List Row) → length (table_bytes rows) ≡ 128
table_length_lem rows = join_length 8 16 (λ x. row_bytes (get_or rows x zero_row)) (λ x lt. row_length (get_or rows x zero_row))

-- 64 zeros are 128 bytes of zero
pub zero_bytes : table_bytes (replicate 8 zero_row) ≡ replicate 128 0
unfolding join_below
zero_bytes = refl

-- ---- read again

-- an entry at the front of what stands behind a place
entry_there : (bs : List ℕ) (at bits : ℕ) (r : List ℕ) → drop at bs ≡ entry_bytes bits ++ r → bits_in bs at ≡ bits
entry_there bs at bits r e =
    let z : at + 0 ≡ at = omega arith in
    let high : get_or bs at 0 ≡ bits / 256 =
    ap (λ (n : ℕ). get_or bs n 0) (sym z) ∙ sym (get_or-drop at bs 0 0) ∙ ap (λ (l : List ℕ). get_or l 0 0) e in
    let low : get_or bs (at + 1) 0 ≡ bits % 256 = sym (get_or-drop at bs 1 0) ∙ ap (λ (l : List ℕ). get_or l 1 0) e in
    rw (high, low) (omega arith)

-- inside a list the default does not matter
pub same_default : {A : Type 0} (l : List A) (d e : A) (x : ℕ) → x < length l → get_or l x d ≡ get_or l x e
same_default [] d e x lt = absurd (omega arith)
same_default (a ∷ l) d e zero lt = refl
same_default (a ∷ l) d e (suc x) lt = same_default l d e x (omega arith)

-- a list of n entries, listed
listed_all : {A : Type 0} (d : A) (n : ℕ) (l : List A) → length l ≡ n → listed n (λ i. get_or l i d) ≡ l
listed_all d n l long =
    ext_get_or d (listed n (λ i. get_or l i d)) l (length_listed n (λ i. get_or l i d) ∙ sym long)
    (λ i lt. let few = length_listed n (λ i. get_or l i d) in get_listed d n (λ i. get_or l i d) i (omega arith))

module _ (rows : List Row) (behind : List ℕ) where
  abbrev bs : List ℕ
  bs = table_bytes rows ++ behind

  abbrev row : ℕ → Row
  row x = get_or rows x zero_row

  bits_back : (x y : ℕ) → x < 8 → y < 8 → bits_in bs (16 * x + 2 * y) ≡ get_or (row x).to y 0
  bits_back x y lx ly =
      let f : ℕ → List ℕ = λ k. row_bytes (row k) in
      let g : ℕ → List ℕ = λ k. entry_bytes (get_or (row x).to k 0) in
      let outer = drop_to_piece 8 16 f (λ k lt. row_length (row k)) x lx in
      let inner = drop_to_piece 8 2 g (λ k lt. refl) y ly in
      let all = table_length_lem rows in
      let one = row_length (row x) in
      let rest = outer.0 ++ behind in
      entry_there bs (16 * x + 2 * y) (get_or (row x).to y 0) (inner.0 ++ rest)
      (sym (drop-drop (2 * y) (16 * x) bs)
      ∙ ap (drop (2 * y)) (drop-append-le (16 * x) (table_bytes rows) behind (omega arith)
      ∙ ap (λ (l : List ℕ). l ++ behind) outer.1 ∙ append_assoc (f x) outer.0 behind)
      ∙ drop-append-le (2 * y) (row_bytes (row x)) rest (omega arith)
      ∙ ap (λ (l : List ℕ). l ++ rest) inner.1
      ∙ append_assoc (g y) inner.0 rest)

  -- the rows that were stored are read again
  pub table_back : Eight rows → rows_in bs ≡ rows
  unfolding rows_in
  table_back eight =
      listed_same 8 _ row (λ x lx.
      ap {B = Row} (λ (to : List ℕ). record { to = to })
      (listed_same 8 _ (λ y. get_or (row x).to y 0) (λ y ly. bits_back x y lx ly) ∙ listed_all 0 8 (row x).to (eight.wide x lx)))
      ∙ listed_all zero_row 8 rows eight.long
