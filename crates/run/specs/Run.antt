-- Definitions: what a crew is told at a history, read from a tree's bytes, and what showing and reporting answer. Computed: pinned by
-- `told_is` of run/proofs/RunTheorems.antt.
use Rattle.std.specs.Prelude.{cond, List, [], ◌∷◌, ℕ, eqb, Option, Some, None}
use Rattle.network.specs.Below.{rank}
use Rattle.network.specs.Game.{State, start, hears, outcome_at, after}
use Rattle.plan.specs.declared.Plan.{Plan}
use Rattle.plan.specs.declared.Refusal.TheVariants as refusal
use Rattle.plan.specs.Refusal.{refusal_number}
use Rattle.plan.specs.Answer.{Answer}
use Rattle.plan.specs.Faults.{unless, first}
use Rattle.plan.specs.Plan.{network_of}
use Rattle.tree.specs.Parts.{node_at}
use Rattle.tree.specs.Parts.{from_node, move_of}
use Rattle.checker.specs.declared.SoundSubtree.{SoundSubtree}
use Rattle.checker.specs.Checker.{with_subtrees, subtree_at, check_fault}
use Rattle.run.specs.declared.History.{History}
use Rattle.run.specs.History.{history_fine, reports_in, longer}
use Rattle.run.specs.Told.{instruct, complete, refuse, may_report, Told}

-- 8 for a history's count and its unused masks
abbrev pub history_fault : History → ℕ
history_fault h = unless (history_fine h) refusal.Mask

-- ---- What is told, by a tree's bytes.

-- the nodes that were found
abbrev pub nodes_found : Option SoundSubtree → ℕ
nodes_found None = 0
nodes_found (Some t) = t.nodes

-- how many nodes stand before the child that an outcome leads to: the node at the front, and the subtrees of the outcomes before it
unfoldable pub nodes_before : Plan → State → List ℕ → ℕ → ℕ
nodes_before p s bs o =
    let net = network_of p in
    let m = move_of (node_at bs 0) in
    nodes_found (with_subtrees (λ k. subtree_at p (after net s m (outcome_at net m k))) bs (rank p.letters (hears net m) o))

-- what is told where the masks end and these points are left
abbrev pub told_here : ℕ → List ℕ → Told
told_here left bs = cond (eqb left 0) complete (instruct (move_of (node_at bs 0)))

-- what is told at the masks that are still to be followed, where the subtree for the state stands at the front of the bytes
unfoldable pub told_from : Plan → State → List ℕ → List ℕ → Told
told_from p s bs [] = told_here s.left bs
told_from p s bs (o ∷ os) =
    let m = move_of (node_at bs 0) in
    let on = told_from p (after (network_of p) s m o) (from_node bs (nodes_before p s bs o)) os in
    let next = cond (may_report p m o) on (refuse (refusal_number refusal.Mask)) in
    cond (eqb s.left 0) (refuse (refusal_number refusal.AfterDone)) next

-- ---- The answers.

-- a fault comes first
unfoldable pub unless_fault : ℕ → Told → Told
unless_fault n t = cond (eqb n 0) t (refuse n)

-- Showing: 2, 3, 4 for the plan, 6, 7 for the tree, 8 for the history's count and its unused masks, then its masks in turn
unfoldable pub show_answer : Plan → List ℕ → History → Told
show_answer p bs h =
    let told = told_from p (start (network_of p)) bs (reports_in h) in
    unless_fault (first (check_fault p bs) (history_fault h)) told

-- Reporting: the same refusals, and the new mask is judged like those inside the history: 9 where the run is done, then 8 where it names
-- what it may not
abbrev pub report_fault : Plan → Told → ℕ → ℕ
report_fault p (instruct m) o = unless (may_report p m o) refusal.Mask
report_fault p complete o = refusal_number refusal.AfterDone
report_fault p (refuse n) o = n

-- an accepted report hands back the longer history, a refused one the history that it was given
unfoldable pub report_answer : Plan → List ℕ → History → ℕ → Answer History
report_answer p bs h o =
    let n = report_fault p (show_answer p bs h) o in record { fault = n; value = cond (eqb n 0) (longer h o) h }
