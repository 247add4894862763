-- A crew at the end of a tree, by its steps alone: each point performed once, within the horizon, the constraints kept, and no more steps
-- than points. Only the checker need believe this file.
use mathlib.Core.Path.{◌≡◌, refl, sym, ◌∙◌, subst}
use mathlib.Core.List.{List, [], ◌∷◌}
use mathlib.Core.Bool.{true, false}
use Prim.Native.Nat.{ℕ, ◌≤◌, ◌<◌}
use native.Mathlib.Omega.{arith}
use lib.ListN.{length}
use Rattle.network.specs.Mask.{bit}
use Rattle.network.specs.Network.{Network, combined, keeps}
use Rattle.network.specs.IsNetwork.{IsNetwork}
use Rattle.network.specs.Game.{State, start, Move, Legal, after, Kept}
use Rattle.network.specs.Tree.{Tree, done, node, Sound}
use Rattle.network.specs.Walks.{Wins, Follows, AtEnd, state_after}
use Rattle.network.specs.Sizes.{points_left}
use Rattle.network.specs.Crew.{Step, times_performed, slot_by_steps, value_by_steps}
use Rattle.network.proofs.Booleans.{by_test, clash}
use Rattle.network.proofs.NetworkLaws.{condition_of, decision_of, keeps_cong}
use Rattle.network.proofs.GameLaws.{not_again, all_left, performed, stays_performed, stays_left, fewer_left, slot_new, slot_old, heard_new, heard_old, decided_new, decided_old}
use Rattle.network.proofs.CrewLaws.{run_ends}

-- the value of a letter, after a move that discloses it and after one that does not
module _ (net : Network) (s : State) (m : Move) (o : ℕ) (l : ℕ) (lt : l < net.letters) where
  value_new :
      bit m.points (net.disclosing l) ≡ true →
      combined net (after net s m o).heard (after net s m o).decided l ≡ combined net o m.choices l
  value_new y =
      by_test (net.is_decision l)
      (λ d. rw (d, decided_new net s m o l (decision_of net l lt d) y))
      (λ c. rw (c, heard_new net s m o l (condition_of net l lt c) y))

  value_old :
      bit m.points (net.disclosing l) ≡ false →
      combined net (after net s m o).heard (after net s m o).decided l ≡ combined net s.heard s.decided l
  value_old n =
      by_test (net.is_decision l)
      (λ d. rw (d, decided_old net s m o l (decision_of net l lt d) n))
      (λ c. rw (c, heard_old net s m o l (condition_of net l lt c) n))

-- one step down a sound tree, said of the instruction that was followed
module _
    (net : Network) (E : State → Type 0) (m : Move) (next : ℕ → Tree) (s : State) (st : Step) (log : List Step)
    (sd : Sound net E (node m next) s) (fo : Follows net (node m next) (st ∷ log)) where
  pub step_legal : Legal net s st.instruction
  unfolding Sound Follows
  step_legal = subst (λ (x : Move). Legal net s x) (sym fo.0) sd.0

  pub step_sound : Sound net E (next st.report) (after net s st.instruction st.report)
  unfolding Sound Follows
  step_sound =
      subst (λ (x : Move). Sound net E (next st.report) (after net s x st.report)) (sym fo.0) (sd.1 st.report fo.1)

  pub step_follows : Follows net (next st.report) log
  unfolding Follows
  step_follows = fo.2

module _ (net : Network) (wf : IsNetwork net) (E : State → Type 0) where
  -- what only a move that performs x changes stays as it is once x is performed
  stays :
      {A : Type 0} (f : State → A) (x : ℕ) → x < net.points →
      ((s : State) (m : Move) (o : ℕ) → bit m.points x ≡ false → f (after net s m o) ≡ f s) →
      (t : Tree) (s : State) (log : List Step) → Sound net E t s → Follows net t log → bit s.left x ≡ false →
      f (state_after net s log) ≡ f s
  unfolding Follows state_after
  stays f x lt old t s [] sd fo e = refl
  stays f x lt old done s (st ∷ log) sd fo e = absurd fo
  stays f x lt old (node m next) s (st ∷ log) sd fo e =
      let k = st.instruction in
      let o = st.report in
      stays f x lt old (next o) (after net s k o) log (step_sound net E m next s st log sd fo) (step_follows net E m next s st log sd fo)
      (stays_performed net s k o x lt e)
      ∙ old s k o (not_again net s k (step_legal net E m next s st log sd fo) x e)

  -- a point that is not left is not performed again
  never :
      (t : Tree) (s : State) (log : List Step) (x : ℕ) → Sound net E t s → Follows net t log → x < net.points →
      bit s.left x ≡ false → times_performed log x ≡ 0
  unfolding Follows times_performed
  never t s [] x sd fo lt e = refl
  never done s (st ∷ log) x sd fo lt e = absurd fo
  never (node m next) s (st ∷ log) x sd fo lt e =
      let k = st.instruction in
      let o = st.report in
      rw (
        not_again net s k (step_legal net E m next s st log sd fo) x e,
        never (next o) (after net s k o) log x (step_sound net E m next s st log sd fo) (step_follows net E m next s st log sd fo) lt
            (stays_performed net s k o x lt e),
      )

  -- at the end each point that was left has been performed once
  pub once :
      (t : Tree) (s : State) (log : List Step) (x : ℕ) → Sound net E t s → Follows net t log → AtEnd t log → x < net.points →
      bit s.left x ≡ true → times_performed log x ≡ 1
  unfolding Sound AtEnd times_performed
  once done s [] x sd fo en lt e = clash e (sd.0 x lt)
  once done s (st ∷ log) x sd fo en lt e = absurd en
  once (node m next) s [] x sd fo en lt e = absurd en
  once (node m next) s (st ∷ log) x sd fo en lt e =
      let k = st.instruction in
      let o = st.report in
      let sd' = step_sound net E m next s st log sd fo in
      let fo' = step_follows net E m next s st log sd fo in
      by_test (bit k.points x)
      (λ y. rw (y, never (next o) (after net s k o) log x sd' fo' lt (performed net s k o x lt y)))
      (λ n. rw (n, once (next o) (after net s k o) log x sd' fo' en lt (stays_left net s k o x lt e n)))

  -- .. in the slot that the game has for it, within the horizon
  pub slot_is :
      (t : Tree) (s : State) (log : List Step) (x : ℕ) → Sound net E t s → Follows net t log → AtEnd t log → x < net.points →
      bit s.left x ≡ true → (slot_by_steps log x ≡ (state_after net s log).slots x) × (slot_by_steps log x ≤ net.horizon)
  unfolding Sound AtEnd state_after slot_by_steps
  slot_is done s [] x sd fo en lt e = clash e (sd.0 x lt)
  slot_is done s (st ∷ log) x sd fo en lt e = absurd en
  slot_is (node m next) s [] x sd fo en lt e = absurd en
  slot_is (node m next) s (st ∷ log) x sd fo en lt e =
      let k = st.instruction in
      let o = st.report in
      let sd' = step_sound net E m next s st log sd fo in
      let fo' = step_follows net E m next s st log sd fo in
      by_test (bit k.points x)
      (λ y. let same = stays (λ z. z.slots x) x lt (λ z k' o' n. slot_old net z k' o' x n) (next o) (after net s k o) log sd' fo'
      (performed net s k o x lt y) in
      rw y (sym (same ∙ slot_new net s k o x y), (step_legal net E m next s st log sd fo).within))
      (λ n. rw n (slot_is (next o) (after net s k o) log x sd' fo' en lt (stays_left net s k o x lt e n)))

  -- .. and each letter whose point was left has the value that the game has for it
  pub value_is :
      (t : Tree) (s : State) (log : List Step) (l : ℕ) → Sound net E t s → Follows net t log → AtEnd t log → l < net.letters →
      bit s.left (net.disclosing l) ≡ true →
      value_by_steps net log l ≡ combined net (state_after net s log).heard (state_after net s log).decided l
  unfolding Sound AtEnd state_after value_by_steps
  value_is done s [] l sd fo en lt e = clash e (sd.0 (net.disclosing l) (wf.disclosed l lt))
  value_is done s (st ∷ log) l sd fo en lt e = absurd en
  value_is (node m next) s [] l sd fo en lt e = absurd en
  value_is (node m next) s (st ∷ log) l sd fo en lt e =
      let k = st.instruction in
      let o = st.report in
      let x = net.disclosing l in
      let xlt = wf.disclosed l lt in
      let sd' = step_sound net E m next s st log sd fo in
      let fo' = step_follows net E m next s st log sd fo in
      by_test (bit k.points x)
      (λ y. let same = stays (λ z. combined net z.heard z.decided l) x xlt (λ z k' o' n. value_old net z k' o' l lt n) (next o)
      (after net s k o) log sd' fo' (performed net s k o x xlt y) in
      rw y (sym (same ∙ value_new net s k o l lt y)))
      (λ n. rw n (value_is (next o) (after net s k o) log l sd' fo' en lt (stays_left net s k o x xlt e n)))

  -- each step performs a point that was left
  pub steps_length_lem :
      (t : Tree) (s : State) (log : List Step) → Sound net E t s → Follows net t log → length log ≤ points_left net s
  unfolding Follows
  steps_length_lem t s [] sd fo = omega arith
  steps_length_lem done s (st ∷ log) sd fo = absurd fo
  steps_length_lem (node m next) s (st ∷ log) sd fo =
      let k = st.instruction in
      let o = st.report in
      let r : length log ≤ points_left net (after net s k o)
      = steps_length_lem (next o) (after net s k o) log (step_sound net E m next s st log sd fo) (step_follows net E m next s st log sd fo) in
      let q : points_left net (after net s k o) < points_left net s = fewer_left net s k o (step_legal net E m next s st log sd fo) in
      omega arith

-- the constraints are kept, by the steps alone
pub steps_kept :
    (net : Network) → IsNetwork net → (t : Tree) → Wins net t → (log : List Step) → Follows net t log → AtEnd t log →
    keeps net (slot_by_steps log) (value_by_steps net log) ≡ true
steps_kept net wf t w log fo en =
    keeps_cong net wf _ _ _ _
    (λ x lt. (slot_is net wf (Kept net) t (start net) log x w fo en lt (all_left net x lt)).0)
    (λ l lt. value_is net wf (Kept net) t (start net) log l w fo en lt (all_left net (net.disclosing l) (wf.disclosed l lt)))
    ∙ (run_ends net wf (Kept net) t (start net) log w fo en).1
