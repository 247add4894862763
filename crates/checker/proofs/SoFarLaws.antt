-- Laws: where every path below keeps its constraints they are kept so far, so that what is kept so far changes no answer. Only the checker
-- need believe this file.
use mathlib.Core.Path.{◌≡◌, sym, ap, ◌∙◌}
use mathlib.Core.Bool.{Bool, ◌&&◌, and-false}
use mathlib.Core.List.{List}
use Prim.Native.Nat.{ℕ}
use native.Mathlib.Omega.{arith}
use Rattle.network.specs.Network.{Network}
use Rattle.network.specs.Game.{State}
use Rattle.network.specs.Sizes.{nodes}
use Rattle.network.proofs.Booleans.{by_test}
use Rattle.network.proofs.SoFarLaws.{won_keeps}
use Rattle.plan.specs.declared.Plan.{Plan}
use Rattle.plan.specs.Plan.{network_of}
use Rattle.plan.specs.WellFormed.{WellFormed}
use Rattle.plan.proofs.PlanTheorems.{is_network}
use Rattle.game.specs.declared.Position.{Position}
use Rattle.game.specs.Position.{state_of, Proper, keeps_so_far_in}
use Rattle.game.proofs.PositionLaws.{inside_is}
use Rattle.game.proofs.SoFarLaws.{so_far_is}
use Rattle.checker.specs.Checker.{subtree_of, subtree_at}
use Rattle.checker.proofs.CompleteLaws.{all_kept, kept_exactly, complete}
use Rattle.checker.proofs.SubtreeLaws.{same_kept}
use Rattle.checker.proofs.FoundLaws.{found}

-- what is found of the paths below says as much as what is kept so far
pub kept_so_far_lem :
    (p : Plan) → WellFormed p → (at : Position) → Proper p at → (bs : List ℕ) (n : ℕ) (b : Bool) →
    subtree_at p (state_of p at) bs ≡ subtree_of n b → (keeps_so_far_in p at && b) ≡ b
kept_so_far_lem p wf at ok bs n b e =
    let net : Network = network_of p in
    let s : State = state_of p at in
    let in-s = inside_is p wf at ok in
    let f = found p wf _ s bs n b in-s e in
    let again : subtree_at p s bs ≡ subtree_of (nodes net f.tree) (all_kept net f.tree s)
    = ap (subtree_at p s) f.is ∙ complete p wf f.tree _ s f.behind in-s (omega arith) f.sound in
    let same : all_kept net f.tree s ≡ b
    = same_kept (nodes net f.tree) n _ b (sym again ∙ e) in
    by_test b
    (λ y. let won = (kept_exactly net f.tree s f.sound).0 (same ∙ y) in
    let kept = so_far_is p wf at ok ∙ won_keeps net (is_network p wf) s (record { tree = f.tree; sound = won }) in
    rw (y, kept))
    (λ z. rw z (and-false (keeps_so_far_in p at)))
