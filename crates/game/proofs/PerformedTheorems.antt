-- Theorems on the points performed, which a position carries: exactly those of the path above it. Read the statements; only the checker need
-- believe the proofs.
use mathlib.Core.Path.{◌≡◌, refl, sym, ap, ◌∙◌}
use mathlib.Core.Logic.{◌↔◌, inr, ⊎_elim}
use mathlib.Core.Bool.{true, not, ◌&&◌}
use mathlib.Core.List.{List, [], ◌∷◌, ◌++◌}
use Prim.Native.Nat.{ℕ, ◌<◌}
use native.Mathlib.Omega.{arith}
use lib.Dec.{ltb}
use Rattle.network.specs.Mask.{bit, submask}
use Rattle.network.specs.Game.{State, start, Legal, Outcome}
use Rattle.network.specs.Tree.{Tree, Shaped}
use Rattle.network.specs.Crew.{Step}
use Rattle.network.specs.Walks.{Follows}
use Rattle.network.specs.RunningSet.{PerformedOn, RunningSet}
use Rattle.network.proofs.Booleans.{by_test, clash, both_ways, and_left, and_right, and_make, not_true, ltb_is, ltb_yes}
use Rattle.network.proofs.MaskLaws.{bit_zero}
use Rattle.network.proofs.GameLaws.{start_inside, all_left}
use Rattle.network.proofs.RunningSetLaws.{follows_legal, performed_was_left, left_along, running}
use Rattle.plan.specs.declared.Plan.{Plan}
use Rattle.plan.specs.Plan.{network_of}
use Rattle.plan.specs.Letters.{heard_by}
use Rattle.plan.specs.WellFormed.{WellFormed}
use Rattle.tree.specs.declared.Node.{Node}
use Rattle.tree.specs.Parts.{move_of}
use Rattle.game.specs.declared.Position.{Position}
use Rattle.game.specs.Carried.{start_position, position_along, carried}
use Rattle.game.specs.Position.{state_of, Proper}
use Rattle.game.proofs.PathLaws.{performed_byte, performed_along}
use Rattle.game.proofs.PositionLaws.{start_proper, after_proper}
use Rattle.game.proofs.NextLaws.{next_proper}

module _ (p : Plan) (wf : WellFormed p) where
  -- Card 3. The value that positions carry is the running set of the points performed.
  pub running_set : RunningSet (network_of p) (carried p)
  unfolding position_along
  running_set =
      running (network_of p) (carried p) refl (λ path l x. (
        λ y. let lt = performed_byte x path (start_position p) (λ z. clash z (bit_zero x)) y in
            ⊎_elim (λ z. clash z (bit_zero x)) (λ q. q) ((performed_along x lt path (start_position p)).0 y),
        λ q. let few = wf.head.points in
            let inside = start_inside (network_of p) x (performed_was_left (network_of p) path (start (network_of p)) x l q) in
            (performed_along x (omega arith) path (start_position p)).1 (inr q),
      ))

  -- .. at each node of a tree that is sound in shape, by the steps that lead down to it (none to the root)
  pub at_each_node :
      (t : Tree) → Shaped (network_of p) t → (path : List Step) → Follows (network_of p) t path → (x : ℕ) →
      (bit (carried p path) x ≡ true) ↔ PerformedOn path x
  at_each_node t sh path f = running_set.exactly path (follows_legal (network_of p) _ t (start (network_of p)) path sh f)

  -- .. and at each proper position, which the contracts of `subtree`, `nodes_before`, `agent` and `world` ask for: so wherever these are called,
  -- also in bytes that are refused in the end
  pub performed_above : (at : Position) (ok : Proper p at) (x : ℕ) → (bit at.performed x ≡ true) ↔ PerformedOn ok.above x
  performed_above at ok x = rw ok.reached (running_set.exactly ok.above ok.legal x)

  -- The paths that the proofs hand on: at the first position an empty one; after a move and its outcome the path above the move and this step,
  -- so also after outcome number k, where the checker and the search go on.
  pub root_above : (start_proper p wf).above ≡ []
  unfolding start_proper
  root_above = refl

  module _ (at : Position) (ok : Proper p at) (v : Node) (lg : Legal (network_of p) (state_of p at) (move_of v)) where
    pub after_above :
        (o : ℕ) (out : Outcome (network_of p) (move_of v) o) →
        (after_proper p wf at v o ok lg out).above ≡ ok.above ++ (record { instruction = move_of v; report = o } ∷ [])
    unfolding after_proper
    after_above o out = refl

    pub next_above :
        (k : ℕ) →
        (next_proper p wf at ok v lg k).above
        ≡ ok.above ++ (record { instruction = move_of v; report = submask 8 (bit (heard_by p v.points)) k } ∷ [])
    unfolding after_proper next_proper
    next_above k = refl

  -- whichever paths lead to a position, they perform the same points
  pub same_above : (at : Position) (ok ok' : Proper p at) (x : ℕ) → PerformedOn ok.above x ↔ PerformedOn ok'.above x
  same_above at ok ok' x = (
    λ q. (performed_above at ok' x).0 ((performed_above at ok x).1 q),
    λ q. (performed_above at ok x).0 ((performed_above at ok' x).1 q),
  )

  -- among the plan's points the value is the complement of what is left
  module _ (at : Position) (ok : Proper p at) (x : ℕ) where
    still_left : x < p.points → (bit at.left x ≡ true) ↔ (¬ PerformedOn ok.above x)
    still_left lt =
        let along = left_along (network_of p) ok.above (start (network_of p)) x lt in
        let same = ap (λ (s : State). bit s.left x) ok.stands in
        (λ y. (along.0 (sym same ∙ y)).1, λ n. same ∙ along.1 (all_left (network_of p) x lt, n))

    pub performed_not_left : bit at.performed x ≡ (ltb x p.points && not (bit at.left x))
    performed_not_left =
        let net = network_of p in
        let above = performed_above at ok x in
        both_ways _ _
        (λ y. let on = above.0 y in
        let lt = start_inside net x (performed_was_left net ok.above (start net) x ok.legal on) in
        and_make {a = ltb x p.points} (ltb_yes x p.points lt)
        (by_test (bit at.left x) (λ z. absurd ((still_left lt).0 z on)) (λ z. rw z)))
        (λ y. let lt = ltb_is x p.points (and_left _ _ y) in
        let gone = not_true _ (and_right (ltb x p.points) _ y) in
        by_test (bit at.performed x) (λ z. z) (λ z. clash ((still_left lt).1 (λ q. clash (above.1 q) z)) gone))
