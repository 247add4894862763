-- Laws of slices and arrays: the part of a slice that starts somewhere, an array of one value, an array filled from the front; `listed`: how
-- long it is, and each entry. Only the checker need believe this file.
use mathlib.Core.Path.{◌≡◌, refl, sym, ap, ◌∙◌}
use mathlib.Core.Logic.{by_cases}
use mathlib.Core.List.{List, [], ◌∷◌, ◌++◌, append_assoc, append-nil}
use Prim.Native.Nat.{ℕ, zero, suc, ◌+◌, ◌-◌, ◌<◌}
use native.Mathlib.Omega.{arith}
use native.Mathlib.Decide.{dec_lt}
use native.Mathlib.Numerals.{add-one}
use lib.ListN.{length, get_or, take, drop, set, replicate, length-append, length-drop, length-replicate, get_or-replicate, get_or-eq_default}
use lib.Seq.{take_all, set-append_seam}
use Rattle.plan.specs.Plan.{listed}

-- the part `&s[n..]`
abbrev pub rest : ℕ → List ℕ → List ℕ
rest n s = take (length s - n) (drop n s)

pub rest_is : (n : ℕ) (s : List ℕ) → rest n s ≡ drop n s
rest_is n s = take_all (length s - n) (drop n s) (rw length-drop (omega arith))

-- an array of one value, which stands past its end too
pub all_same : {E : Type 0} (n : ℕ) (d : E) (k : ℕ) → get_or (replicate n d) k d ≡ d
all_same n d k =
    by_cases (dec_lt k n)
    (get_or-replicate n k d d)
    (λ ge. get_or-eq_default (replicate n d) d (rw (length-replicate n d) (omega arith)))

-- an array of n entries that begins with these and holds one value behind them; the next entry is put there
abbrev pub padded : {E : Type 0} → ℕ → E → List E → List E
padded n d xs = xs ++ replicate (n - length xs) d

pub put_next :
    {E : Type 0} (n : ℕ) (d : E) (xs : List E) (x : E) → length xs < n → set (padded n d xs) (length xs) x ≡ padded n d (xs ++ x ∷ [])
put_next n d xs x lt =
    let behind = replicate (n - (length xs + 1)) d in
    let one : n - length xs ≡ suc (n - (length xs + 1)) = omega arith in
    let long : length (xs ++ x ∷ []) ≡ length xs + 1 = length-append xs (x ∷ []) in
    ap (λ (k : ℕ). set (xs ++ replicate k d) (length xs) x) one
    ∙ set-append_seam xs d behind x
    ∙ sym (ap (λ (k : ℕ). (xs ++ x ∷ []) ++ replicate (n - k) d) long ∙ append_assoc xs (x ∷ []) behind)

-- `listed`: how many entries, and each
pub length_listed : {A : Type 0} (n : ℕ) (f : ℕ → A) → length (listed n f) ≡ n
unfolding listed
length_listed zero f = refl
length_listed (suc n) f = ap suc (length_listed n (λ i. f (suc i)))

pub get_listed : {A : Type 0} (d : A) (n : ℕ) (f : ℕ → A) (i : ℕ) → i < n → get_or (listed n f) i d ≡ f i
unfolding listed
get_listed d zero f i h = absurd (omega arith)
get_listed d (suc n) f zero h = refl
get_listed d (suc n) f (suc i) h = get_listed d n (λ i. f (suc i)) i (omega arith)

-- an array filled from its front with the entries of a function
module _ {E : Type 0} (d : E) where
  listed_next : (n : ℕ) (f : ℕ → E) → listed n f ++ f n ∷ [] ≡ listed (suc n) f
  unfolding listed
  listed_next zero f = refl
  listed_next (suc n) f = ap (λ (l : List E). f zero ∷ l) (listed_next n (λ i. f (suc i)))

  -- the first i entries, and d behind them
  abbrev pub filled_to : ℕ → (ℕ → E) → ℕ → List E
  filled_to n f i = padded n d (listed i f)

  pub fill_start : (n : ℕ) (f : ℕ → E) → replicate n d ≡ filled_to n f 0
  unfolding listed
  fill_start n f = let e : n - 0 ≡ n = omega arith in ap (λ (k : ℕ). replicate k d) (sym e)

  pub fill_next :
      (n : ℕ) (f : ℕ → E) (i : ℕ) (xs : List E) (x : E) → i < n → xs ≡ filled_to n f i → x ≡ f i → set xs i x ≡ filled_to n f (i + 1)
  fill_next n f i xs x lt is e =
      let long = length_listed i f in
      let s : i + 1 ≡ suc i = add-one i in
      ap (λ (k : ℕ). set xs k x) (sym long)
      ∙ ap (λ (l : List E). set l (length (listed i f)) x) is
      ∙ put_next n d (listed i f) x (rw long lt)
      ∙ ap (λ (y : E). padded n d (listed i f ++ y ∷ [])) e
      ∙ ap (padded n d) (listed_next i f)
      ∙ ap (filled_to n f) (sym s)

  pub fill_end : (n : ℕ) (f : ℕ → E) → filled_to n f n ≡ listed n f
  fill_end n f =
      let z : n - length (listed n f) ≡ 0 = rw (length_listed n f) (omega arith) in
      ap (λ (k : ℕ). listed n f ++ replicate k d) z ∙ append-nil (listed n f)
