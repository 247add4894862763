-- Laws of legal paths: one step more, what is left behind them, and the running set of the points that they perform. Only the checker need
-- believe this file.
use mathlib.Core.Path.{◌≡◌, refl, sym, subst}
use mathlib.Core.Logic.{◌↔◌, inl, inr, ⊎_elim}
use mathlib.Core.Bool.{true}
use mathlib.Core.List.{List, [], ◌∷◌, ◌++◌}
use Prim.Native.Nat.{ℕ, ◌<◌}
use Rattle.network.specs.Mask.{bit}
use Rattle.network.specs.Network.{Network}
use Rattle.network.specs.Game.{State, start, Move, Legal, Outcome, after}
use Rattle.network.specs.Tree.{Tree, done, node, Sound}
use Rattle.network.specs.Crew.{Step, Some}
use Rattle.network.specs.Walks.{Follows, state_after}
use Rattle.network.specs.RunningSet.{LegalPath, PerformedOn, RunningSet}
use Rattle.network.proofs.Booleans.{by_test, clash, both_ways}
use Rattle.network.proofs.MaskLaws.{bits_ext}
use Rattle.network.proofs.GameLaws.{start_inside, after_inside, was_left, stays_left}
use Rattle.network.proofs.StepsLaws.{step_legal, step_sound}

module _ (net : Network) where
  abbrev stepped : State → Step → State
  stepped s st = after net s st.instruction st.report

  -- ---- a path with one step more

  pub legal_on :
      (path : List Step) (s : State) (st : Step) → LegalPath net s path → Legal net (state_after net s path) st.instruction →
      Outcome net st.instruction st.report → LegalPath net s (path ++ (st ∷ []))
  unfolding LegalPath state_after
  legal_on [] s st l lg out = (lg, out, tt)
  legal_on (first ∷ path) s st l lg out = (l.0, l.1, legal_on path (stepped s first) st l.2 lg out)

  pub state_on :
      (path : List Step) (s : State) (st : Step) →
      state_after net s (path ++ (st ∷ [])) ≡ after net (state_after net s path) st.instruction st.report
  unfolding state_after
  state_on [] s st = refl
  state_on (first ∷ path) s st = state_on path (stepped s first) st

  legal_before :
      (path : List Step) (s : State) (st : Step) → LegalPath net s (path ++ (st ∷ [])) →
      LegalPath net s path × Legal net (state_after net s path) st.instruction
  unfolding LegalPath state_after
  legal_before [] s st l = (tt, l.0)
  legal_before (first ∷ path) s st l =
      let rest = legal_before path (stepped s first) st l.2 in ((l.0, l.1, rest.0), rest.1)

  -- steps that lead down a sound tree are a legal path: so each node of the tree is reached by one
  pub follows_legal :
      (E : State → Type 0) (t : Tree) (s : State) (path : List Step) → Sound net E t s → Follows net t path → LegalPath net s path
  unfolding LegalPath Sound Follows
  follows_legal E t s [] sd f = tt
  follows_legal E done s (st ∷ path) sd f = absurd f
  follows_legal E (node m next) s (st ∷ path) sd f =
      let o = st.report in (
        step_legal net E m next s st path sd f,
        subst (λ (k : Move). Outcome net k o) (sym f.0) f.1,
        follows_legal E (next o) (after net s st.instruction o) path (step_sound net E m next s st path sd f) f.2,
      )

  -- ---- what is left behind a path

  -- only points left are performed
  pub performed_was_left :
      (path : List Step) (s : State) (x : ℕ) → LegalPath net s path → PerformedOn path x → bit s.left x ≡ true
  unfolding LegalPath Some
  performed_was_left [] s x l q = absurd q
  performed_was_left (st ∷ path) s x l q =
      ⊎_elim
      (λ y. l.0.not_yet x y)
      (λ r. let later = performed_was_left path (stepped s st) x l.2 r in
      let lt = after_inside net s st.instruction st.report x later in
      (was_left net s st.instruction st.report x lt later).0)
      q

  -- left before it, and not performed on it
  pub left_along :
      (path : List Step) (s : State) (x : ℕ) → x < net.points →
      (bit (state_after net s path).left x ≡ true) ↔ ((bit s.left x ≡ true) × (¬ PerformedOn path x))
  unfolding state_after Some
  left_along [] s x lt = (λ y. (y, λ q. q), λ h. h.0)
  left_along (st ∷ path) s x lt =
      let m = st.instruction in
      let o = st.report in
      let rest = left_along path (stepped s st) x lt in (
        λ y. let r = rest.0 y in
            let before = was_left net s m o x lt r.0 in
            (before.0, λ q. ⊎_elim (λ z. clash z before.1) r.1 q),
        λ h. rest.1 (
          stays_left net s m o x lt h.0 (by_test (bit m.points x) (λ z. absurd (h.1 (inl z))) (λ z. z)),
          λ q. h.1 (inr q),
        ),
      )

  -- ---- the running set

  -- the points performed above each node make one: those of the node itself are left there, so they are not among them
  pub running :
      (value : List Step → ℕ) → value [] ≡ 0 →
      ((path : List Step) → LegalPath net (start net) path → (x : ℕ) → (bit (value path) x ≡ true) ↔ PerformedOn path x) →
      RunningSet net value
  running value e exactly =
      record {
        root_empty = e;
        exactly = exactly;
        own_not_yet = λ path st l x y. let before = legal_before path (start net) st l in
            by_test (bit (value path) x)
            (λ z. let on = (exactly path before.0 x).0 z in
            let lt = start_inside net x (performed_was_left path (start net) x before.0 on) in
            absurd (((left_along path (start net) x lt).0 (before.1.not_yet x y)).1 on))
            (λ z. z);
      }

  -- any two running sets agree on every legal path
  pub one_running_set :
      (v w : List Step → ℕ) → RunningSet net v → RunningSet net w → (path : List Step) → LegalPath net (start net) path → v path ≡ w path
  one_running_set v w rv rw' path l =
      bits_ext (v path) (w path) (λ x. both_ways _ _
      (λ y. (rw'.exactly path l x).1 ((rv.exactly path l x).0 y))
      (λ y. (rv.exactly path l x).1 ((rw'.exactly path l x).0 y)))
