-- Theorem 6: crews on one tree that heard alike before a slot, both at the end, were told alike in it. Only the checker need believe this
-- file.
use mathlib.Core.Path.{◌≡◌, refl, sym, ap, ◌∙◌, subst}
use mathlib.Core.Logic.{inl, inr, ⊎_elim, by_cases}
use mathlib.Core.List.{List, [], ◌∷◌}
use mathlib.Core.Bool.{Bool, true}
use Prim.Native.Nat.{ℕ, ◌≤◌, ◌<◌}
use native.Mathlib.Omega.{arith}
use native.Mathlib.Decide.{dec_lt}
use Rattle.network.specs.Mask.{bit}
use Rattle.network.specs.Network.{Network, condition}
use Rattle.network.specs.IsNetwork.{IsNetwork}
use Rattle.network.specs.Game.{State, Move, hears, after, Over}
use Rattle.network.specs.Tree.{Tree, done, node, Sound}
use Rattle.network.specs.Crew.{Step, Some, Hears, HeardAlike, ToldAlike}
use Rattle.network.specs.Walks.{Follows, AtEnd, state_after}
use Rattle.network.proofs.Booleans.{by_test, clash}
use Rattle.network.proofs.MaskLaws.{bits_ext}
use Rattle.network.proofs.NetworkLaws.{condition_point}
use Rattle.network.proofs.GameLaws.{heard_condition, heard_point, outcome_outside, open_is, performed, was_left}

module _ (net : Network) (wf : IsNetwork net) (E : State → Type 0) where
  -- a run comes to its end only where no point is left and E holds
  pub run_ends :
      (t : Tree) (s : State) (log : List Step) → Sound net E t s → Follows net t log → AtEnd t log →
      Over net (state_after net s log) × E (state_after net s log)
  unfolding Sound Follows AtEnd state_after
  run_ends done s [] sd fo en = sd
  run_ends done s (st ∷ log) sd fo en = absurd en
  run_ends (node m next) s [] sd fo en = absurd en
  run_ends (node m next) s (st ∷ log) sd fo en =
      let o = st.report in
      subst (λ (x : Move). Over net (state_after net (after net s x o) log) × E (state_after net (after net s x o) log)) (sym fo.0)
      (run_ends (next o) (after net s m o) log (sd.1 o fo.1) fo.2 en)

  -- an instruction that was followed stands in a slot that was open
  followed_open :
      (t : Tree) (s : State) (log : List Step) (u : ℕ) → Sound net E t s → Follows net t log →
      Some (λ st. st.instruction.slot ≡ u) log → s.open_from ≤ u
  unfolding Sound Follows Some
  followed_open t s [] u sd fo f = absurd f
  followed_open done s (st ∷ log) u sd fo f = absurd fo
  followed_open (node m next) s (st ∷ log) u sd fo f =
      let o = st.report in
      let a = sd.0.later in
      let e = ap (λ (x : Move). x.slot) fo.0 in
      ⊎_elim
      (λ (q : st.instruction.slot ≡ u). omega arith)
      (λ g. let r = followed_open (next o) (after net s m o) log u (sd.1 o fo.1) fo.2 g in
      let q = open_is net s m o in
      omega arith)
      f

  -- a condition that is heard belongs to a point that was left
  heard_left :
      (t : Tree) (s : State) (log : List Step) (u l : ℕ) (v : Bool) → Sound net E t s → Follows net t log →
      Some (Hears net u l v) log → (condition net l ≡ true) × (bit s.left (net.disclosing l) ≡ true)
  unfolding Sound Follows Some
  heard_left t s [] u l v sd fo f = absurd f
  heard_left done s (st ∷ log) u l v sd fo f = absurd fo
  heard_left (node m next) s (st ∷ log) u l v sd fo f =
      let o = st.report in
      ⊎_elim
      (λ (g : Hears net u l v st).
      let y : hears net m l ≡ true = subst (λ (x : Move). hears net x l ≡ true) fo.0 g.1 in
      (heard_condition net m l y, sd.0.not_yet (net.disclosing l) (heard_point net m l y)))
      (λ g. let r = heard_left (next o) (after net s m o) log u l v (sd.1 o fo.1) fo.2 g in
      (r.0, (was_left net s m o (net.disclosing l) (condition_point net wf l r.0) r.1).0))
      f

  -- what is heard at the root is not heard again below it
  heard_once :
      {C : Type 0} (m : Move) (next : ℕ → Tree) (s : State) (o : ℕ) (log : List Step) (u l : ℕ) (v : Bool) →
      Sound net E (next o) (after net s m o) → Follows net (next o) log → hears net m l ≡ true → Some (Hears net u l v) log → C
  heard_once m next s o log u l v sd fo y g =
      let r = heard_left (next o) (after net s m o) log u l v sd fo g in
      clash r.1 (performed net s m o (net.disclosing l) (condition_point net wf l r.0) (heard_point net m l y))

  -- two runs from one node
  module _
      (m : Move) (next : ℕ → Tree) (s : State) (st st' : Step) (log log' : List Step) (u : ℕ) (sd : Sound net E (node m next) s)
      (fo : Follows net (node m next) (st ∷ log)) (fo' : Follows net (node m next) (st' ∷ log'))
      (ha : HeardAlike net (st ∷ log) (st' ∷ log') u) where
    same_report : m.slot < u → st.report ≡ st'.report
    unfolding Sound Follows Some
    same_report lt =
        bits_ext st.report st'.report (λ l. by_test (hears net m l)
        (λ y. let e = ap (λ (x : Move). x.slot) fo.0 in
        let y' : hears net st.instruction l ≡ true = subst (λ (x : Move). hears net x l ≡ true) (sym fo.0) y in
        ⊎_elim
        (λ (g : Hears net u l (bit st.report l) st'). sym g.2)
        (λ g. heard_once m next s st'.report log' u l (bit st.report l) (sd.1 st'.report fo'.1) fo'.2 y g)
        ((ha l (bit st.report l)).0 (inl (omega arith, y', refl))))
        (λ z. outcome_outside net m st.report fo.1 l z ∙ sym (outcome_outside net m st'.report fo'.1 l z)))

    -- they heard alike below it
    below : HeardAlike net log log' u
    unfolding Sound Follows Some
    below l v = (
      λ g. ⊎_elim
          (λ (x : Hears net u l v st').
          heard_once m next s st.report log u l v (sd.1 st.report fo.1) fo.2
          (subst (λ (k : Move). hears net k l ≡ true) fo'.0 x.1) g)
          (λ x. x)
          ((ha l v).0 (inr g)),
      λ g. ⊎_elim
          (λ (x : Hears net u l v st).
          heard_once m next s st'.report log' u l v (sd.1 st'.report fo'.1) fo'.2
          (subst (λ (k : Move). hears net k l ≡ true) fo.0 x.1) g)
          (λ x. x)
          ((ha l v).1 (inr g)),
    )

  -- no instruction of slot u was followed from a node whose slot is past u
  none_past :
      (m : Move) (next : ℕ → Tree) (s : State) (st : Step) (log : List Step) (u : ℕ) → Sound net E (node m next) s →
      Follows net (node m next) (st ∷ log) → u < m.slot → ¬ Some (λ x. x.instruction.slot ≡ u) (st ∷ log)
  unfolding Sound Follows Some
  none_past m next s st log u sd fo lt f =
      let o = st.report in
      let e = ap (λ (x : Move). x.slot) fo.0 in
      ⊎_elim
      (λ (q : st.instruction.slot ≡ u). omega arith)
      (λ g. let r = followed_open (next o) (after net s m o) log u (sd.1 o fo.1) fo.2 g in
      let q = open_is net s m o in
      omega arith)
      f

  -- both runs go past the root's slot: what was told below it
  told_below :
      (st st' : Step) (log log' : List Step) (u : ℕ) → st.instruction.slot < u → st'.instruction.slot < u →
      ToldAlike log log' u → ToldAlike (st ∷ log) (st' ∷ log') u
  unfolding Some
  told_below st st' log log' u lt lt' (inl (k, e, a, b)) = inl (k, e, inr a, inr b)
  told_below st st' log log' u lt lt' (inr (n, n')) =
      inr (
        λ f. ⊎_elim (λ (q : st.instruction.slot ≡ u). omega arith) n f,
        λ f. ⊎_elim (λ (q : st'.instruction.slot ≡ u). omega arith) n' f,
      )

  pub alike :
      (t : Tree) (s : State) (log log' : List Step) (u : ℕ) → Sound net E t s → Follows net t log → Follows net t log' →
      AtEnd t log → AtEnd t log' → HeardAlike net log log' u → ToldAlike log log' u
  unfolding Sound Follows AtEnd Some
  alike done s [] [] u sd fo fo' en en' ha = inr (λ f. f, λ f. f)
  alike done s [] (st' ∷ log') u sd fo fo' en en' ha = absurd en'
  alike done s (st ∷ log) [] u sd fo fo' en en' ha = absurd en
  alike done s (st ∷ log) (st' ∷ log') u sd fo fo' en en' ha = absurd en
  alike (node m next) s [] [] u sd fo fo' en en' ha = absurd en
  alike (node m next) s [] (st' ∷ log') u sd fo fo' en en' ha = absurd en
  alike (node m next) s (st ∷ log) [] u sd fo fo' en en' ha = absurd en'
  alike (node m next) s (st ∷ log) (st' ∷ log') u sd fo fo' en en' ha =
      let o = st.report in
      let e = ap (λ (x : Move). x.slot) fo.0 in
      let e' = ap (λ (x : Move). x.slot) fo'.0 in
      by_cases (dec_lt m.slot u)
      (λ lt. told_below st st' log log' u (omega arith) (omega arith)
      (subst (λ (x : ℕ). Follows net (next x) log' → AtEnd (next x) log' → ToldAlike log log' u)
      (same_report m next s st st' log log' u sd fo fo' ha lt)
      (λ f n. alike (next o) (after net s m o) log log' u (sd.1 o fo.1) fo.2 f en n (below m next s st st' log log' u sd fo fo' ha))
      fo'.2 en'))
      (λ ge. by_cases (dec_lt u m.slot)
      (λ lt. inr (none_past m next s st log u sd fo lt, none_past m next s st' log' u sd fo' lt))
      (λ le. inl (m, omega arith, inl fo.0, inl fo'.0)))
