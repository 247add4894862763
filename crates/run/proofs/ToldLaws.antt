-- Laws of what is told: the walk over a tree's bytes reaches the node that the tree has there, at any history, and an instruction is told
-- only where one mask more has room. Only the checker need believe this file.
use mathlib.Core.Path.{◌≡◌, sym, ap, ◌∙◌}
use mathlib.Core.List.{List, [], ◌∷◌, ◌++◌, append_assoc, append-nil}
use mathlib.Core.Bool.{true, false}
use Prim.Native.Nat.{ℕ, suc, ◌*◌, ◌<◌}
use native.Mathlib.Omega.{arith}
use lib.Dec.{eqb}
use lib.ListN.{length, drop}
use lib.Seq.{drop_at, length-take-le}
use Rattle.std.specs.Prelude.{Option}
use Rattle.network.specs.Mask.{bit, join_below}
use Rattle.network.specs.Below.{sum_below}
use Rattle.network.specs.Network.{Network}
use Rattle.network.specs.Game.{State, start, Move, Legal, Outcome, outcomes, outcome_at, after, Over}
use Rattle.network.specs.Tree.{Tree, done, node, Sound}
use Rattle.network.specs.Sizes.{nodes, points_left}
use Rattle.network.proofs.Booleans.{by_test, clash, eqb_yes, eqb_no, eqb_is}
use Rattle.network.proofs.BelowLaws.{count_le}
use Rattle.network.proofs.MaskLaws.{bit_zero, no_bits}
use Rattle.network.proofs.JoinLaws.{join_lengths, join_at}
use Rattle.network.proofs.GameLaws.{Inside, not_over, outcome_at_is, start_inside, after_inside, fewer_left}
use Rattle.plan.specs.declared.Plan.{Plan}
use Rattle.plan.specs.declared.Refusal.TheVariants as refusal
use Rattle.plan.specs.Faults.{first}
use Rattle.plan.specs.Plan.{network_of}
use Rattle.plan.specs.WellFormed.{WellFormed}
use Rattle.plan.proofs.AnswerLaws.{unless_is, first_none}
use Rattle.judge.specs.Judge.{plan_fault}
use Rattle.judge.proofs.WellFormedLaws.{fine_exactly}
use Rattle.tree.specs.Parts.{node_bytes}
use Rattle.tree.specs.Parts.{from_node}
use Rattle.tree.specs.Trees.{tree_bytes, Describes}
use Rattle.tree.specs.Parts.{node_of}
use Rattle.tree.proofs.TreeLaws.{subtrees_bytes, node_bytes_front, tree_length}
use Rattle.checker.specs.declared.SoundSubtree.{SoundSubtree}
use Rattle.checker.specs.Checker.{subtree_of, with_subtrees, subtree_at, tree_fault, check_fault}
use Rattle.checker.proofs.CompleteLaws.{ShapedFrom, all_kept, subtrees_found, complete}
use Rattle.checker.proofs.CheckerTheorems.{yes_exactly}
use Rattle.run.specs.declared.History.{History}
use Rattle.run.specs.Run.{nodes_found, nodes_before, told_from, history_fault}
use Rattle.run.specs.History.{history_fine, reports_in}
use Rattle.run.specs.Told.{Told, instruct, complete as told-done, refuse, may_report, instruction_at}
use Rattle.run.specs.Run.{unless_fault, show_answer}
use Rattle.run.proofs.ReportLaws.{may_is, outcome_number, number_lt, number_is}
use Rattle.run.proofs.HistoryLaws.{count_fine}

-- ---- an instruction is neither done nor a refusal

pub done_is_not : {C : Type 0} {m : Move} → told-done ≡ instruct m → C
done_is_not e = let z : ◌≡◌ {A = ℕ} 0 1 = cc in absurd (omega arith)

pub refused_is_not : {C : Type 0} {n : ℕ} {m : Move} → refuse n ≡ instruct m → C
refused_is_not e = let z : ◌≡◌ {A = ℕ} 0 1 = cc in absurd (omega arith)

-- an instruction is told only where there is no fault
unless_fault_is : (n : ℕ) (t : Told) (m : Move) → unless_fault n t ≡ instruct m → (n ≡ 0) × (t ≡ instruct m)
unfolding unless_fault
unless_fault_is n t m e =
    by_test (eqb n 0) (λ y. (eqb_is n 0 y, rw y at e)) (λ z. refused_is_not (rw z at e))

module _ (p : Plan) (wf : WellFormed p) where
  abbrev net : Network
  net = network_of p

  -- ---- no point is left exactly where the mask of those left is 0

  none_left : (s : State) → Inside net s → Over net s → eqb s.left 0 ≡ true
  none_left s in-s ov =
      eqb_yes s.left 0 (no_bits s.left (λ x. by_test (bit s.left x) (λ y. clash y (ov x (in-s x y))) (λ z. z)))

  some_left : (s : State) (m : Move) → Legal net s m → eqb s.left 0 ≡ false
  some_left s m lg = eqb_no s.left 0 (λ e. not_over net s m lg (λ x lt. ap (λ (n : ℕ). bit n x) e ∙ bit_zero x))

  -- ---- the bytes at the place of an outcome's subtree

  module _
      (m : Move) (next : ℕ → Tree) (s : State) (sd : ShapedFrom net (node m next) s) (rest : List ℕ) (o : ℕ)
      (ok : Outcome net m o) where
    abbrev front : List ℕ
    front = node_bytes (node_of m) ++ (subtrees_bytes net m next ++ rest)

    -- behind the nodes before it stands the subtree of o
    pub subtree_there : (r : List ℕ) × (from_node front (nodes_before p s front o) ≡ tree_bytes net (next o) ++ r)
    unfolding nodes_before Sound
    subtree_there =
        let piece : ℕ → List ℕ = λ i. tree_bytes net (next (outcome_at net m i)) in
        let size : ℕ → ℕ = λ i. nodes net (next (outcome_at net m i)) in
        let k = outcome_number p wf.head.letters m o in
        let split = join_at (outcomes net m) piece k (number_lt p wf.head.letters m o) in
        let behind = piece k ++ (split.0 ++ rest) in
        let parts : front ≡ node_bytes (node_of m) ++ (join_below k piece ++ behind)
        = ap (λ (x : List ℕ). node_bytes (node_of m) ++ x)
        (ap (λ (x : List ℕ). x ++ rest) split.1
        ∙ append_assoc (join_below k piece) (piece k ++ split.0) rest
        ∙ ap (λ (x : List ℕ). join_below k piece ++ x) (append_assoc (piece k) split.0 rest)) in
        let sub : ℕ → List ℕ → Option SoundSubtree = λ i. subtree_at p (after net s m (outcome_at net m i)) in
        let found : with_subtrees sub front k ≡ subtree_of (suc (sum_below k size)) _
        = ap (λ (x : List ℕ). with_subtrees sub x k) parts
        ∙ subtrees_found sub m piece size (λ i. all_kept net (next (outcome_at net m i)) (after net s m (outcome_at net m i)))
        (λ i. tree_length net (next (outcome_at net m i)))
        (λ i u. let x = outcome_at net m i in
        complete p wf (next x) _ (after net s m x) u (after_inside net s m x) (omega arith) (sd.1 x (outcome_at_is net m i)))
        k behind in
        let before : nodes_before p s front o ≡ suc (sum_below k size) = ap nodes_found found in
        let long : length (node_bytes (node_of m) ++ join_below k piece) ≡ 3 * suc (sum_below k size)
        = let l = join_lengths k 3 piece size (λ i lt. tree_length net (next (outcome_at net m i))) in omega arith in (
          split.0 ++ rest,
          ap (from_node front) before
              ∙ ap (drop (3 * suc (sum_below k size))) parts
              ∙ drop_at (node_bytes (node_of m) ++ join_below k piece) behind (3 * suc (sum_below k size)) long
              ∙ ap (λ (x : ℕ). tree_bytes net (next x) ++ (split.0 ++ rest)) (number_is p wf.head.letters m o ok),
        )

  -- ---- told at masks, by the bytes and by the tree

  -- the walk over the bytes of a tree that is sound in shape, whatever stands behind them, at any masks
  pub told_is :
      (t : Tree) (s : State) (rest os : List ℕ) → ShapedFrom net t s → Inside net s →
      told_from p s (tree_bytes net t ++ rest) os ≡ instruction_at p t os
  unfolding Sound told_from instruction_at
  told_is done s rest [] sd in-s = rw (none_left s in-s sd.0)
  told_is done s rest (o ∷ os) sd in-s = rw (none_left s in-s sd.0)
  told_is (node m next) s rest [] sd in-s = rw (node_bytes_front net m next rest, some_left s m sd.0)
  told_is (node m next) s rest (o ∷ os) sd in-s =
      rw (node_bytes_front net m next rest, some_left s m sd.0)
      (by_test (may_report p m o)
      (λ y. let ok = (may_is p wf.head.letters m o).0 y in
      let there = subtree_there m next s sd rest o ok in
      rw y
      (ap (λ (bs : List ℕ). told_from p (after net s m o) bs os) there.1
      ∙ told_is (next o) (after net s m o) there.0 os (sd.1 o ok) (after_inside net s m o)))
      (λ z. rw z))

  -- .. from the start, by bytes that describe the tree
  pub told_of_described :
      (bs : List ℕ) (t : Tree) → Describes net bs t → (os : List ℕ) → told_from p (start net) bs os ≡ instruction_at p t os
  told_of_described bs t d os =
      ap (λ (x : List ℕ). told_from p (start net) x os) (d.all_bytes ∙ sym (append-nil (tree_bytes net t)))
      ∙ told_is t (start net) [] os d.shaped (start_inside net)

  -- ---- what showing answers at any history, malformed ones included

  pub show_any :
      (bs : List ℕ) (t : Tree) → check_fault p bs ≡ 0 → Describes net bs t → (h : History) →
      show_answer p bs h ≡ unless_fault (history_fault h) (instruction_at p t (reports_in h))
  unfolding show_answer first
  show_any bs t fine d h = rw fine (ap (unless_fault (history_fault h)) (told_of_described bs t d (reports_in h)))

  -- ---- each mask that is followed has performed a point

  -- where an instruction is told, fewer masks were followed than points were left
  fewer_masks :
      (t : Tree) (s : State) (os : List ℕ) (m : Move) → ShapedFrom net t s → instruction_at p t os ≡ instruct m →
      length os < points_left net s
  unfolding Sound instruction_at
  fewer_masks done s [] m sd e = done_is_not e
  fewer_masks done s (o ∷ os) m sd e = refused_is_not e
  fewer_masks (node k next) s [] m sd e = let f = fewer_left net s k 0 sd.0 in omega arith
  fewer_masks (node k next) s (o ∷ os) m sd e =
      by_test (may_report p k o)
      (λ y. let ok = (may_is p wf.head.letters k o).0 y in
      let r = fewer_masks (next o) (after net s k o) os m (sd.1 o ok) (rw y at e) in
      let f = fewer_left net s k o sd.0 in
      omega arith)
      (λ z. refused_is_not (rw z at e))

-- ---- room for one mask more

-- Told an instruction, at any history: the plan is well formed, the bytes describe a tree, and the history is fine.
pub record Instructed (p : Plan) (bs : List ℕ) (h : History) (m : Move) : Type 0 where
  pub well_formed : WellFormed p
  pub checker_yes : check_fault p bs ≡ 0
  pub tree : Tree
  pub described : Describes (network_of p) bs tree
  pub history_fine_lem : history_fine h ≡ true
  pub at_reports : instruction_at p tree (reports_in h) ≡ instruct m

pub instructed_so : (p : Plan) (bs : List ℕ) (h : History) (m : Move) → show_answer p bs h ≡ instruct m → Instructed p bs h m
unfolding show_answer check_fault
instructed_so p bs h m e =
    let told = unless_fault_is (first (check_fault p bs) (history_fault h)) (told_from p (start (network_of p)) bs (reports_in h)) m e in
    let none = first_none (check_fault p bs) (history_fault h) told.0 in
    let wf = (fine_exactly p).0 (first_none (plan_fault p) (tree_fault p bs) none.0).0 in
    let so = (yes_exactly p wf bs).0 none.0 in
    record {
      well_formed = wf;
      checker_yes = none.0;
      tree = so.0;
      described = so.1;
      history_fine_lem = unless_is (history_fine h) refusal.Mask none.1;
      at_reports = sym (told_of_described p wf bs so.0 so.1 (reports_in h)) ∙ told.1;
    }

-- so the masks end before the last: the code that reports can store one more
pub room_for_one : (p : Plan) (bs : List ℕ) (h : History) (m : Move) → length h.masks ≡ 8 → show_answer p bs h ≡ instruct m → h.count < 8
room_for_one p bs h m eight e =
    let a = instructed_so p bs h m e in
    let wf = a.well_formed in
    let net = network_of p in
    let most = count_fine h a.history_fine_lem in
    let fewer = fewer_masks p wf a.tree (start net) (reports_in h) m a.described.shaped a.at_reports in
    let long : length (reports_in h) ≡ h.count = length-take-le h.count h.masks (omega arith) in
    let points = count_le p.points (bit (start net).left) in
    let few = wf.head.points in
    omega (arith, fewer, long, points, few)
