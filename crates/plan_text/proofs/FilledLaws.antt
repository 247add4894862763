-- Laws of an array that a run of frames fills from its front. Only the checker need believe this file.
use mathlib.Core.Path.{◌≡◌, refl, sym, ap, ◌∙◌}
use mathlib.Core.Logic.{by_cases}
use mathlib.Core.List.{List, ◌++◌, append_assoc}
use Prim.Native.Nat.{ℕ, zero, suc, ◌+◌, ◌-◌, ◌≤◌, ◌<◌}
use native.Mathlib.Omega.{arith}
use native.Mathlib.Nat.{not-suc-le-zero}
use native.Mathlib.Numerals.{add-one}
use native.Mathlib.Decide.{dec_lt, ℕ_discrete}
use lib.ListN.{length, get_or, set, drop, replicate, length-set, length-replicate}
use lib.Seq.{get_or-set_same, get_or-set_other, ext_get_or}
use Rattle.network.specs.Mask.{join_below}
use Rattle.network.proofs.JoinLaws.{join_cong}
use Rattle.plan.specs.Answer.{Answer, fine}
use Rattle.plan.proofs.SliceLaws.{all_same}
use Rattle.frame.specs.ReadFrame.{frame_length}
use Rattle.frame.specs.Texts.{frames_from}
use Rattle.frame.proofs.RunLaws.{run_back, run_split, run_stops}

-- ---- an array in which d stands for an entry that is not used

module _ {E : Type 0} (d : E) where
  -- the two have the same entries below i
  abbrev pub SameBelow : ℕ → List E → List E → Type 0
  SameBelow i xs ys = (k : ℕ) → k < i → get_or xs k d ≡ get_or ys k d

  -- nothing is used from i on
  abbrev pub UnusedFrom : ℕ → List E → Type 0
  UnusedFrom i xs = (k : ℕ) → i ≤ k → get_or xs k d ≡ d

  -- what is good as entry i depends on the earlier entries alone
  abbrev pub ByEarlier : (List E → ℕ → E → Type 0) → Type 0
  ByEarlier Good = (xs ys : List E) (i : ℕ) (x : E) → SameBelow i xs ys → Good xs i x → Good ys i x

  unused_next : (i : ℕ) (xs : List E) (x : E) → UnusedFrom i xs → UnusedFrom (suc i) (set xs i x)
  unused_next i xs x h k le = get_or-set_other xs i k x d (omega arith) ∙ h k (omega arith)

  same_set : (i : ℕ) (xs : List E) (x : E) → SameBelow i xs (set xs i x)
  same_set i xs x k lt = sym (get_or-set_other xs i k x d (omega arith))

  -- an array of n places with the first i entries of ys, and nothing behind them
  pub front : ℕ → List E → ℕ → List E
  front n ys zero = replicate n d
  front n ys (suc i) = set (front n ys i) i (get_or ys i d)

  front_length : (n : ℕ) (ys : List E) (i : ℕ) → length (front n ys i) ≡ n
  unfolding front
  front_length n ys zero = length-replicate n d
  front_length n ys (suc i) = length-set (front n ys i) i (get_or ys i d) ∙ front_length n ys i

  pub front_same : (n : ℕ) (ys : List E) (i : ℕ) → i ≤ n → SameBelow i (front n ys i) ys
  unfolding front
  front_same n ys zero le k lt = absurd (not-suc-le-zero lt)
  front_same n ys (suc i) le k lt =
      by_cases (ℕ_discrete k i)
      (λ e. rw e (get_or-set_same (front n ys i) i (get_or ys i d) d (rw (front_length n ys i) le)))
      (λ ne. get_or-set_other (front n ys i) i k (get_or ys i d) d ne ∙ front_same n ys i (omega arith) k (omega arith))

  front_unused : (n : ℕ) (ys : List E) (i : ℕ) → UnusedFrom i (front n ys i)
  unfolding front
  front_unused n ys zero = λ k _. all_same n d k
  front_unused n ys (suc i) = unused_next i (front n ys i) (get_or ys i d) (front_unused n ys i)

  pub front_all : (n : ℕ) (ys : List E) (i : ℕ) → length ys ≡ n → i ≤ n → UnusedFrom i ys → front n ys i ≡ ys
  front_all n ys i long le unused =
      ext_get_or d (front n ys i) ys (front_length n ys i ∙ sym long) (λ k _. by_cases (dec_lt k i)
      (front_same n ys i le k)
      (λ ge. front_unused n ys i k (omega arith) ∙ sym (unused k (omega arith))))

module _ {E : Type 0} (d : E) (n : ℕ) (Good : List E → ℕ → E → Type 0) (text : ℕ → E → List ℕ) where
  -- t says the first i entries of xs and then s; they are good, and nothing behind them is used
  pub record Filled (t : List ℕ) (i : ℕ) (xs : List E) (s : List ℕ) : Type 0 where
    pub said : t ≡ join_below i (λ k. text k (get_or xs k d)) ++ s
    pub long : length xs ≡ n
    pub good : (k : ℕ) → k < i → Good xs k (get_or xs k d)
    pub unused : UnusedFrom d i xs

  filled_start : (t : List ℕ) → Filled t 0 (replicate n d) t
  unfolding join_below
  filled_start t =
      record { said = refl; long = length-replicate n d; good = λ k lt. absurd (not-suc-le-zero lt); unused = λ k _. all_same n d k }

  filled_next :
      ByEarlier d Good → (t : List ℕ) (i : ℕ) (xs : List E) (x : E) (r : List ℕ) → i < n → Filled t i xs (text i x ++ r) → Good xs i x →
      Filled t (suc i) (set xs i x) r
  unfolding join_below
  filled_next earlier t i xs x r lt f g =
      let ys = set xs i x in
      let same = same_set d i xs x in
      let here : get_or ys i d ≡ x = get_or-set_same xs i x d (rw f.long lt) in
      let texts = join_cong i (λ k. text k (get_or xs k d)) (λ k. text k (get_or ys k d)) (λ k lt. ap (text k) (same k lt)) in
      record {
        said = f.said ∙ rw (here, texts) (sym (append_assoc (join_below i (λ k. text k (get_or ys k d))) (text i x) r));
        long = length-set xs i x ∙ f.long;
        good = λ k le. by_cases (ℕ_discrete k i)
            (λ e. rw (e, here) (earlier xs ys i x same g))
            (λ ne. let low : k < i = omega arith in
            rw (← same k low) (earlier xs ys k (get_or xs k d) (λ j l. same j (omega arith)) (f.good k low)));
        unused = unused_next d i xs x f.unused;
      }

-- ---- runs that fill an array: what was read so far is the array's entries put into P

module _
    {P E : Type 0} (read : P → ℕ → List ℕ → Answer P) (m : ℕ) (after : P → List ℕ → Answer P) (put : List E → P) (d : E) (n : ℕ)
    (text : ℕ → E → List ℕ) where
  -- the texts of the first k of N entries fill the array with them, where each is read behind the earlier ones; then the others are read
  pub fill_front :
      (ys : List E) (N k : ℕ) (r : List ℕ) → k ≤ N → k ≤ n →
      ((i : ℕ) → i < k → (xs : List E) → SameBelow d i xs ys → (r : List ℕ) →
      read (put xs) i (text i (get_or ys i d) ++ r) ≡ fine (put (set xs i (get_or ys i d)))) →
      ((i : ℕ) → length (text i (get_or ys i d)) ≡ frame_length m) →
      frames_from read m after N 0 (put (replicate n d)) (join_below k (λ i. text i (get_or ys i d)) ++ r)
      ≡ frames_from read m after (N - k) k (put (front d n ys k)) r
  unfolding front
  fill_front ys N k r few le reads frame =
      let s = join_below k (λ i. text i (get_or ys i d)) ++ r in
      let all : N ≡ k + (N - k) = omega arith in
      let z : 0 + k ≡ k = omega arith in
      ap (λ (j : ℕ). frames_from read m after j 0 (put (replicate n d)) s) all
      ∙ run_split read m after k (N - k) 0 (put (replicate n d)) s
      ∙ rw z (run_back read m (frames_from read m after (N - k) k) k (λ i. put (front d n ys i)) (λ i. text i (get_or ys i d)) r
      (λ i lt. reads i lt (front d n ys i) (front_same d n ys i (omega arith)))
      (λ i lt. frame i))

  module _ (Good : List E → ℕ → E → Type 0) where
    -- s begins with the text of a good entry, which is read into place i behind the entries xs
    abbrev pub Entry : List E → ℕ → List ℕ → Type 0
    Entry xs i s =
        (x : E) × Good xs i x × (s ≡ text i x ++ drop (frame_length m) s) × ((read (put xs) i s).value ≡ put (set xs i x))

    -- what the run keeps
    abbrev SoFar : List ℕ → ℕ → P → List ℕ → Type 0
    SoFar t i p s = (xs : List E) × (p ≡ put xs) × Filled d n Good text t i xs s

    so_far_next :
        ByEarlier d Good → (t : List ℕ) (i : ℕ) (p : P) (s : List ℕ) (f : SoFar t i p s) → i < n → Entry f.0 i s →
        SoFar t (i + 1) (read p i s).value (drop (frame_length m) s)
    so_far_next earlier t i p s (xs, is, f) lt (x, good, says, gives) =
        let z : i + 1 ≡ suc i = add-one i in (
          set xs i x,
          rw is gives,
          rw z (filled_next d n Good text earlier t i xs x (drop (frame_length m) s) lt (rw says at f) good),
        )

    -- A run of k entries stops at its first faulty frame, or goes on to what follows them. The frames before say entries, which fill the array.
    pub fill_stops :
        {C : Type 0} → ByEarlier d Good → ((xs : List E) (i : ℕ) (s : List ℕ) → (read (put xs) i s).fault ≡ 0 → Entry xs i s) →
        (k : ℕ) → k ≤ n → (s : List ℕ) →
        ((i : ℕ) (xs : List E) (r : List ℕ) → i < k → Filled d n Good text s i xs r → ¬ ((read (put xs) i r).fault ≡ 0) →
        frames_from read m after k 0 (put (replicate n d)) s ≡ read (put xs) i r → C) →
        ((xs : List E) (r : List ℕ) → Filled d n Good text s k xs r →
        frames_from read m after k 0 (put (replicate n d)) s ≡ after (put xs) r → C) →
        C
    fill_stops earlier reads k le s stops ends =
        let z : 0 + k ≡ k = omega arith in
        run_stops read m after (SoFar s) n
        (λ i p u f lt y. so_far_next earlier s i p u f lt (reads f.0 i u (rw f.1 at y)))
        k 0 (put (replicate n d)) s (replicate n d, refl, filled_start d n Good text s) (omega arith)
        (λ i p r lt f no e. stops i f.0 r (omega arith) f.2 (rw f.1 at no) (rw f.1 at e))
        (λ p r f e. ends f.0 r (rw z at f.2) (rw f.1 at e))
