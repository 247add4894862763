-- Laws of lists that are joined piece by piece. Only the checker need believe this file.
use mathlib.Core.Path.{◌≡◌, refl, sym, ap, ◌∙◌, subst}
use mathlib.Core.Logic.{by_cases}
use mathlib.Core.List.{List, [], ◌++◌, append_assoc, append-nil}
use Prim.Native.Nat.{ℕ, zero, suc, ◌*◌, ◌<◌}
use native.Mathlib.Omega.{arith}
use native.Mathlib.Nat.{not-suc-le-zero}
use native.Mathlib.Decide.{dec_lt}
use lib.ListN.{length, drop, length-append}
use lib.Seq.{drop_at}
use Rattle.network.specs.Mask.{join_below}
use Rattle.network.specs.Below.{sum_below}

module _ {A : Type 0} where
  pub join_cong : (n : ℕ) (f g : ℕ → List A) → ((i : ℕ) → i < n → f i ≡ g i) → join_below n f ≡ join_below n g
  unfolding join_below
  join_cong zero f g h = refl
  join_cong (suc n) f g h = rw (join_cong n f g (λ i lt. h i (omega arith)), h n (omega arith))

  -- the same, from the first piece on
  pub join_first : (n : ℕ) (f : ℕ → List A) → join_below (suc n) f ≡ f zero ++ join_below n (λ i. f (suc i))
  unfolding join_below
  join_first zero f = sym (append-nil (f zero))
  join_first (suc n) f =
      ap (λ (l : List A). l ++ f (suc n)) (join_first n f) ∙ append_assoc (f zero) (join_below n (λ i. f (suc i))) (f (suc n))

  -- pieces of as many parts as g says, each of the length m
  pub join_lengths :
      (n m : ℕ) (f : ℕ → List A) (g : ℕ → ℕ) → ((i : ℕ) → i < n → length (f i) ≡ m * g i) → length (join_below n f) ≡ m * sum_below n g
  unfolding join_below sum_below
  join_lengths zero m f g h = omega arith
  join_lengths (suc n) m f g h =
      rw (length-append (join_below n f) (f n), h n (omega arith), join_lengths n m f g (λ i lt. h i (omega arith))) (omega arith)

  -- pieces of one length
  pub join_length : (n m : ℕ) (f : ℕ → List A) → ((i : ℕ) → i < n → length (f i) ≡ m) → length (join_below n f) ≡ m * n
  unfolding join_below
  join_length zero m f h = omega arith
  join_length (suc n) m f h =
      rw (length-append (join_below n f) (f n), h n (omega arith), join_length n m f (λ i lt. h i (omega arith))) (omega arith)

  -- piece k stands behind the pieces before it
  pub join_at :
      (n : ℕ) (f : ℕ → List A) (k : ℕ) → k < n → (r : List A) × (join_below n f ≡ join_below k f ++ (f k ++ r))
  unfolding join_below
  join_at zero f k lt = absurd (not-suc-le-zero lt)
  join_at (suc n) f k lt =
      by_cases (dec_lt k n)
      (λ h.
      let e = join_at n f k h in (
        e.0 ++ f n,
        ap (λ (l : List A). l ++ f n) e.1
            ∙ append_assoc (join_below k f) (f k ++ e.0) (f n)
            ∙ ap (λ (l : List A). join_below k f ++ l) (append_assoc (f k) e.0 (f n)),
      ))
      (λ h.
      let e : n ≡ k = omega arith in
      ([], rw e (ap (λ (l : List A). join_below k f ++ l) (sym (append-nil (f k))))))

  -- pieces of one length: what stands at piece k's place
  pub drop_to_piece :
      (n m : ℕ) (f : ℕ → List A) → ((i : ℕ) → i < n → length (f i) ≡ m) → (k : ℕ) → k < n →
      (r : List A) × (drop (m * k) (join_below n f) ≡ f k ++ r)
  drop_to_piece n m f h k lt =
      let e = join_at n f k lt in (
        e.0,
        ap (drop (m * k)) e.1
            ∙ drop_at (join_below k f) (f k ++ e.0) (m * k) (join_length k m f (λ i l. h i (omega arith))),
      )

  -- Pieces that can be told apart whatever stands behind them: equal joins have equal pieces, in the sense of P, and the same behind them.
  pub join_parse :
      (P : ℕ → Type 0) (n : ℕ) (f g : ℕ → List A) →
      ((k : ℕ) → k < n → (u v : List A) → f k ++ u ≡ g k ++ v → P k × (u ≡ v)) → (u v : List A) →
      join_below n f ++ u ≡ join_below n g ++ v → ((k : ℕ) → k < n → P k) × (u ≡ v)
  unfolding join_below
  join_parse P zero f g h u v e = (λ k lt. absurd (not-suc-le-zero lt), e)
  join_parse P (suc n) f g h u v e =
      let before = join_parse P n f g (λ k lt. h k (omega arith)) (f n ++ u) (g n ++ v)
      (sym (append_assoc (join_below n f) (f n) u) ∙ e ∙ append_assoc (join_below n g) (g n) v) in
      let last = h n (omega arith) u v before.1 in (
        λ k lt. by_cases (dec_lt k n) (before.0 k) (λ ge. let q : n ≡ k = omega arith in subst P q last.0),
        last.1,
      )
