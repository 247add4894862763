-- Theorem: demand 2 holds of this planner. Read the statement in specs/Demand2.antt; only the checker need believe the proof.
use mathlib.Core.Path.{◌≡◌, refl, sym, ap, ◌∙◌}
use mathlib.Core.Logic.{◌↔◌}
use mathlib.Core.Bool.{true}
use mathlib.Core.List.{List, ◌++◌}
use Prim.Native.Nat.{ℕ, ◌*◌, ◌≤◌}
use native.Mathlib.Omega.{arith}
use lib.ListN.{length, take, drop, replicate}
use lib.Seq.{take_at}
use Rattle.network.specs.Tree.{strategy_of}
use Rattle.network.proofs.Booleans.{leb_yes}
use Rattle.plan.specs.declared.Plan.{Plan}
use Rattle.plan.specs.Answer.{Answer, fine}
use Rattle.plan.specs.Faults.{unless, first, answered, filled}
use Rattle.plan.specs.Plan.{network_of}
use Rattle.plan.specs.WellFormed.{WellFormed}
use Rattle.frame.specs.Frame.{Bytes}
use Rattle.tree.specs.Nodes.{most_bytes, legal_length, node_count, first_nodes}
use Rattle.tree.proofs.NodeLaws.{legal_is}
use Rattle.plan_text.specs.PlanText.{plan_text}
use Rattle.plan_text.proofs.PlanTextTheorems as plan-text
use Rattle.tree_text.specs.TreeText.{tree_text}
use Rattle.tree_text.specs.ReadTree.{read_nodes, bytes_in, read_tree, read_tree_leaves}
use Rattle.tree_text.proofs.TreeTextTheorems as tree_text_lem
use Rattle.checker.proofs.CheckerTheorems as checker
use Rattle.run.proofs.ToldFromLaws.{accepted_plan}
use Rattle.demands.specs.ThisPlanner.{planner}
use Rattle.demands.specs.EachCall.{Sized}
use Rattle.demands.specs.Demand2.{plan_text_in, tree_text_in, Demand2}
use Rattle.demands.proofs.Demand1Laws.{first_zero, long_enough}

-- ---- plan texts

plan_back_so :
    (p : Plan) → WellFormed p → Sized p → (xs : List ℕ) → length (plan_text p) ≤ length xs →
    (planner.writes_plan p xs ≡ fine (length (plan_text p))) × (planner.reads_plan (plan_text_in planner p xs) ≡ fine p)
plan_back_so p wf (six, sixty-four) = plan-text.written_reads_back p wf six sixty-four

-- ---- tree texts

-- a buffer with room
abbrev blank : List ℕ
blank = replicate most_bytes 0

blank_room : most_bytes ≤ length blank
blank_room = omega arith

-- with room, the call reads what the text says
module _ (t xs : List ℕ) (room : most_bytes ≤ length xs) where
  reads_so : (read_tree t xs).fault ≡ (read_nodes t).fault
  unfolding read_tree answered
  reads_so = first_zero _ (read_nodes t).fault (long_enough most_bytes (length xs) room)

  -- .. and puts it at the front of the buffer
  reads_fine : (n : ℕ) → read_nodes t ≡ fine n → (read_tree t xs ≡ fine n) × (read_tree_leaves t xs ≡ bytes_in n t ++ drop (length (bytes_in n t)) xs)
  unfolding read_tree answered filled unless first
  reads_fine n e = let y = leb_yes most_bytes (length xs) room in rw (y, e) (refl, refl)

  read_fine : (n : ℕ) → read_tree t xs ≡ fine n → read_nodes t ≡ fine n
  unfolding read_tree answered
  read_fine n e =
      let none : (read_nodes t).fault ≡ 0 = sym reads_so ∙ ap (λ (x : Answer ℕ). x.fault) e in
      let whole : read_nodes t ≡ fine (read_nodes t).value = λ i. record { fault = none i; value = (read_nodes t).value } in
      let same = ap (λ (x : Answer ℕ). x.value) (sym (reads_fine (read_nodes t).value whole).0 ∙ e) in
      whole ∙ ap fine same

  tree_exactly_so :
      (bs : List ℕ) → Bytes bs →
      ((read_tree t xs ≡ fine (node_count bs)) × (first_nodes (read_tree_leaves t xs) (node_count bs) ≡ bs))
      ↔ ((t ≡ tree_text bs) × (legal_length (length bs) ≡ true))
  tree_exactly_so bs h =
      let n = node_count bs in
      let front : read_nodes t ≡ fine n → first_nodes (read_tree_leaves t xs) n ≡ bytes_in n t = λ e.
      ap (λ (l : List ℕ). take (3 * n) l) (reads_fine n e).1
      ∙ take_at (bytes_in n t) (drop (length (bytes_in n t)) xs) (3 * n) (tree_text_lem.whatever_reads t n e).1 in (
        λ (read, is). let e = read_fine n read in (tree_text_lem.read_exactly t bs h).0 (e, sym (front e) ∙ is),
        λ says.
            let (e, is) = (tree_text_lem.read_exactly t bs h).1 says in
            ((reads_fine n e).0, front e ∙ is),
      )

tree_back_so :
    (bs : List ℕ) → Bytes bs → legal_length (length bs) ≡ true → (xs ys : List ℕ) → length (tree_text bs) ≤ length xs →
    most_bytes ≤ length ys →
    (planner.writes_tree bs xs ≡ fine (length (tree_text bs))) × (read_tree (tree_text_in planner bs xs) ys ≡ fine (node_count bs))
    × (read_tree_leaves (tree_text_in planner bs xs) ys ≡ bs ++ drop (length bs) ys)
tree_back_so bs h legal xs ys room long =
    let (written, read) = tree_text_lem.written_reads_back bs h legal xs room in (written, (read ys long).0, (read ys long).1)

-- what is written of bytes is their text
written_is :
    (bs : List ℕ) → Bytes bs → legal_length (length bs) ≡ true → (xs : List ℕ) → length (tree_text bs) ≤ length xs →
    tree_text_in planner bs xs ≡ tree_text bs
written_is bs h legal xs room =
    let (written, count, front) = tree_back_so bs h legal xs blank room blank_room in
    let legal-so = legal_is (length bs) legal in
    let three : length bs ≡ 3 * node_count bs = legal-so.threes in
    let front_is : first_nodes (read_tree_leaves (tree_text_in planner bs xs) blank) (node_count bs) ≡ bs =
    ap (λ (l : List ℕ). take (3 * node_count bs) l) front ∙ take_at bs (drop (length bs) blank) (3 * node_count bs) three in
    ((tree_exactly_so (tree_text_in planner bs xs) blank blank_room bs h).0 (count, front_is)).0

tree_one_so :
    (bs cs : List ℕ) → Bytes bs → Bytes cs → legal_length (length bs) ≡ true → legal_length (length cs) ≡ true → (xs ys : List ℕ) →
    length (tree_text bs) ≤ length xs → length (tree_text cs) ≤ length ys → tree_text_in planner bs xs ≡ tree_text_in planner cs ys → bs ≡ cs
tree_one_so bs cs h h' legal legal' xs ys room room' e =
    let same : tree_text bs ≡ tree_text cs = sym (written_is bs h legal xs room) ∙ e ∙ written_is cs h' legal' ys room' in
    let one = (tree_text_lem.read_exactly (tree_text bs) bs h).1 (refl, legal) in
    let two = (tree_text_lem.read_exactly (tree_text bs) cs h').1 (same, legal') in
    sym one.1 ∙ ap (λ (x : Answer ℕ). bytes_in x.value (tree_text bs)) (sym one.0 ∙ two.0) ∙ two.1

-- ---- the checker

-- ---- The theorem

pub demand2 : Demand2 planner
demand2 =
    record {
      plan_exactly = λ t p (six, sixty-four). (
        λ e. let h = (plan-text.read_exactly t p).0 e in (h.0, h.1),
        λ h. (plan-text.read_exactly t p).1 (h.0, h.1, six, sixty-four),
      );
      plan_back = plan_back_so;
      plan_one = λ p q wf wf' sized sized' xs ys room room' e.
          let one = (plan_back_so p wf sized xs room).1 in
          let two = (plan_back_so q wf' sized' ys room').1 in
          ap (λ (x : Answer Plan). x.value) (sym one ∙ ap planner.reads_plan e ∙ two);
      tree_exactly = λ t bs xs h room. tree_exactly_so t xs room bs h;
      tree_back = tree_back_so;
      tree_one = tree_one_so;
      yes_exactly = λ p bs. (
        λ e.
            let wf = accepted_plan p bs e in
            let (t, d, dynamic, viable) = (checker.yes_exactly p wf bs).0 e in
            (wf, (strategy_of (network_of p) t, (t, d, refl), dynamic, viable)),
        λ (wf, (σ, (t, d, is), dynamic, viable)). (checker.yes_exactly p wf bs).1 (t, d, rw is dynamic, rw is viable),
      );
      one_strategy = λ p bs wf σ τ (t, d, is) (t', d', is'). sym is ∙ checker.one_strategy p wf bs t t' d d' ∙ is';
    }
