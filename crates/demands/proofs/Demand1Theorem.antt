-- Theorem: demand 1. Read the statement in specs/Demand1.antt; only the checker need believe the proof.
use mathlib.Core.Path.{◌≡◌, refl, sym, ap, ◌∙◌, subst}
use mathlib.Core.Logic.{◌↔◌, inl, inr, ⊎_elim, by_cases}
use mathlib.Core.Bool.{true, false}
use mathlib.Core.List.{List, [], ◌∷◌, append-nil}
use Prim.Native.Nat.{ℕ, ◌*◌, ◌^◌, ◌≤◌, ◌<◌}
use native.Mathlib.Omega.{arith}
use lib.Dec.{leb, ltb, eqb}
use lib.ListN.{length, take, replicate, length-append, length-set}
use Rattle.network.specs.Mask.{bit}
use Rattle.network.specs.Game.{start, Move, Outcome}
use Rattle.network.specs.Tree.{Tree}
use Rattle.network.specs.Fixed.{Setting}
use Rattle.network.specs.Search.{first_tree}
use Rattle.network.proofs.Theorems.{consistent_decided}
use Rattle.network.proofs.Booleans.{by_test, clash, leb_is, eqb_is, eqb_no, differs, false_exactly}
use Rattle.plan.specs.declared.Plan.{Plan}
use Rattle.plan.specs.declared.Refusal.TheVariants as refusal
use Rattle.plan.specs.Answer.{Answer, fine}
use Rattle.plan.specs.Faults.{unless, answered, filled, first}
use Rattle.plan.specs.Plan.{network_of}
use Rattle.plan.specs.WellFormed.{WellFormed}
use Rattle.plan.proofs.PlanTheorems.{is_network}
use Rattle.plan.proofs.AnswerLaws.{unless_is, first_none, answered_zero}
use Rattle.judge.specs.Judge.{plan_fault}
use Rattle.judge.proofs.JudgeTheorems.{fine_exactly, head_refused_exactly, letters_refused_exactly, constraints_refused_exactly}
use Rattle.frame.specs.Texts.{room_fault}
use Rattle.tree.specs.Nodes.{most_bytes, legal_length, first_nodes, overwritten}
use Rattle.tree.specs.Trees.{Describes}
use Rattle.tree.proofs.NodeLaws.{legal_is}
use Rattle.plan_text.specs.PlanText.{plan_text}
use Rattle.plan_text.specs.WritePlan.{write_plan, write_plan_leaves}
use Rattle.plan_text.specs.ReadPlan.{read_plan}
use Rattle.plan_text.proofs.RefusedLaws.{refused}
use Rattle.plan_text.proofs.PlanTextTheorems.{refused_exactly, read_exactly as read_plan_exactly}
use Rattle.tree_text.specs.TreeText.{tree_text}
use Rattle.tree_text.specs.WriteTree.{write_tree, write_tree_leaves}
use Rattle.tree_text.specs.ReadTree.{read_nodes, bytes_in, read_tree, read_tree_leaves}
use Rattle.tree_text.proofs.TreeTextTheorems.{read_exactly, whatever_reads, refused_with_five}
use Rattle.checker.specs.Checker.{check_fault}
use Rattle.checker.proofs.FaultLaws.{described_legal}
use Rattle.checker.proofs.CheckerTheorems.{six_exactly, seven_exactly, yes_six_or_seven, plan_first}
use Rattle.search.specs.Search.{search_fault, search_answer, search_leaves}
use Rattle.search.proofs.AnswerLaws.{by_fault, answered_so}
use Rattle.search.proofs.SearchTheorems.{leaves_tree, front_is_tree, checker_yes, hopeless_leaves, refused_stays, past_stays}
use Rattle.search.proofs.SearchTheorems.{fault_is, ten_exactly, eleven_exactly, fine_exactly as search-fine-exactly, refused_zero as search-refused-zero, first_moves}
use Rattle.search.proofs.SearchTheorems.{plan_first as search-plan-first}
use Rattle.run.specs.declared.History.{History}
use Rattle.run.specs.Run.{show_answer, report_fault, report_answer}
use Rattle.run.specs.History.{history_fine, reports_in}
use Rattle.run.specs.Told.{Told, instruct, refuse, may_report}
use Rattle.run.proofs.ReportLaws.{may_is}
use Rattle.run.proofs.ToldLaws.{instructed_so, room_for_one}
use Rattle.run.proofs.RunTheorems.{check_first, history_next, shows_fine, refusal_handed_on, accepted_longer, refused_same}
use Rattle.following.specs.Calls.{Call, showing, reporting, Progress, begun, steps_of, after_call, after_calls}
use Rattle.following.specs.ThisRun.{the_run}
use Rattle.following.specs.Following.{calls_in}
use Rattle.following.proofs.FollowLaws.{no_step_refused}
use Rattle.verdict.specs.Verdict.{verdict_fault, verdict_of, least_schedule, screened, passes}
use Rattle.verdict.specs.Answers.{Fixed, none}
use Rattle.verdict.proofs.AnswerLaws.{eight_answer, screen_plan_fault, fine_answer, mask_fault}
use Rattle.differences.specs.Answers.{Differences, no_table}
use Rattle.differences.specs.Tabling.{table_fault, table_of, difference_table}
use Rattle.differences.proofs.AnswerLaws as table
use Rattle.answer_text.specs.AnswerText.{answer_text}
use Rattle.answer_text.proofs.AnswerTextTheorems.{by_input}
use Rattle.run.proofs.ToldFromLaws.{accepted_plan}
use Rattle.demands.specs.ThisPlanner.{planner}
use Rattle.demands.specs.EachCall.{OneOf, Fills, SaysTree, AnswersJudge, AnswersReadPlan, AnswersWritePlan, AnswersReadTree}
use Rattle.demands.specs.EachCall.{AnswersWriteTree, AnswersCheck, AnswersSearch, AnswersShow, AnswersReport, AnswersVerdict, AnswersScreen, AnswersTable, AnswersProgram}
use Rattle.demands.specs.Demand1.{Demand1}
use Rattle.demands.proofs.Demand1Laws.{one_of, one_of_more, one_between, first_one, unless_one, unless_exactly, unless_yes, long_enough}
use Rattle.demands.proofs.Demand1Laws.{short_exactly, first_exactly, first_zero, first_some, by_plan, plan_one, stays}
use Rattle.demands.proofs.Demand1Laws.{write_one, write_first, write_room, write_length, write_fills}
use Rattle.demands.proofs.Demand1Laws.{crew_numbers, Numbered, told_numbered, fault_numbered, report_one, accepted_of}

-- ---- plans and their texts

judge_so : (p : Plan) → AnswersJudge p (plan_fault p)
judge_so p =
    record {
      numbers = plan_one _ refl p;
      fine = fine_exactly p;
      head = head_refused_exactly p;
      letters = letters_refused_exactly p;
      constraints = constraints_refused_exactly p;
    }

-- a fault that is the judge's
judged_as : (p : Plan) (n : ℕ) → n ≡ plan_fault p → AnswersJudge p n
judged_as p n e = subst (AnswersJudge p) (sym e) (judge_so p)

read_plan_so : (t : List ℕ) → AnswersReadPlan t (read_plan t)
read_plan_so t =
    record {
      numbers = one_of_more _ _ _ refl (one_between 0 5 (read_plan t).fault (omega arith) (omega (arith, (refused t).0)));
      first = refused_exactly t;
      read = λ e.
          let (text, wf, six, sixty-four) = (read_plan_exactly t (read_plan t).value).0 (λ i. record { fault = e i; value = (read_plan t).value }) in
          ((six, sixty-four), wf, text);
      zero_place = (refused t).1;
    }

write_plan_so : (p : Plan) (xs : List ℕ) → AnswersWritePlan p xs (write_plan p xs) (write_plan_leaves p xs)
unfolding write_plan
write_plan_so p xs =
    let fault = plan_fault p in
    let text = plan_text p in
    record {
      judged = λ n. judged_as p _ (write_first fault text xs (λ e. n ((fine_exactly p).0 e)));
      numbers = λ wf. write_one fault text xs _ refl (one_of _ 0 refl ((fine_exactly p).1 wf));
      room = λ wf. write_room fault text xs ((fine_exactly p).1 wf);
      counted = write_length fault text xs;
      beside = answered_zero 0 (first fault (room_fault text xs)) (length text);
      bytes = write_fills fault text xs;
    }

-- ---- reading a tree text

nodes_one : (t : List ℕ) → OneOf (0 ∷ 5 ∷ 10 ∷ []) (read_nodes t).fault
nodes_one t =
    by_test (eqb (read_nodes t).fault 0)
    (λ y. one_of _ 0 refl (eqb_is (read_nodes t).fault 0 y))
    (λ z. one_of _ 5 refl (ap (λ (x : Answer ℕ). x.fault) (refused_with_five t (differs (read_nodes t).fault 0 z))))

tree_one : (t xs : List ℕ) → OneOf (0 ∷ 5 ∷ 10 ∷ []) (read_tree t xs).fault
unfolding read_tree answered
tree_one t xs = first_one _ _ _ (unless_one _ (leb most_bytes (length xs)) refusal.Buffer refl) (nodes_one t)

-- what is read: 191 nodes at most, which have room in 573 bytes, and their text
tree_read_lem :
    (t xs : List ℕ) → (read_tree t xs).fault ≡ 0 →
    let bs = bytes_in (read_tree t xs).value t in
    SaysTree t bs × (length bs ≡ 3 * (read_tree t xs).value) × Fills 0 bs xs (read_tree_leaves t xs)
unfolding read_tree answered filled
tree_read_lem t xs e =
    let (long, read) = first_none (unless (leb most_bytes (length xs)) refusal.Buffer) (read_nodes t).fault e in
    let room = leb_is most_bytes (length xs) (unless_is (leb most_bytes (length xs)) refusal.Buffer long) in
    let n = (read_nodes t).value in
    let text = whatever_reads t n (ap (λ (k : ℕ). record { fault = k; value = n }) read) in
    let legal = legal_is (length (bytes_in n t)) text.3 in
    rw e (
      record { text = text.0; bytes = text.2; legal = text.3 },
      text.1,
      record { has_room = λ z. omega arith; front = λ z. refl; refused = λ n. absurd (n refl) },
    )

-- 10 for the room, before the text
tree_room : (t xs : List ℕ) → ((read_tree t xs).fault ≡ 10) ↔ (length xs < most_bytes)
unfolding read_tree answered
tree_room t xs =
    let short = short_exactly most_bytes (length xs) in
    let other : ¬ ((read_nodes t).fault ≡ 10) = λ e.
    let five = ap (λ (x : Answer ℕ). x.fault) (refused_with_five t (λ z. omega arith)) in
    omega arith in
    let ten = first_exactly 10 (unless (leb most_bytes (length xs)) refusal.Buffer) (read_nodes t).fault (λ z. omega arith) other in
    (λ e. short.0 (ten.0 e), λ lt. ten.1 (short.1 lt))

-- with room, 5 exactly for a text that says no tree
tree_text_lem : (t xs : List ℕ) → most_bytes ≤ length xs → ((read_tree t xs).fault ≡ 5) ↔ (¬ ((bs : List ℕ) × SaysTree t bs))
unfolding read_tree answered
tree_text_lem t xs long =
    let room : unless (leb most_bytes (length xs)) refusal.Buffer ≡ 0 = long_enough most_bytes (length xs) long in
    let then = first_zero (unless (leb most_bytes (length xs)) refusal.Buffer) (read_nodes t).fault room in (
      λ e (bs, says).
          let read = ((read_exactly t bs says.bytes).1 (says.text, says.legal)).0 in
          let z : ◌≡◌ {A = ℕ} 5 0 = sym e ∙ then ∙ ap (λ (x : Answer ℕ). x.fault) read in
          omega arith,
      λ none. then
          ∙ ap (λ (x : Answer ℕ). x.fault) (refused_with_five t (λ e.
          let n = (read_nodes t).value in
          let text = whatever_reads t n (ap (λ (k : ℕ). record { fault = k; value = n }) e) in
          none (bytes_in n t, record { text = text.0; bytes = text.2; legal = text.3 }))),
    )

tree_read_zero : (t xs : List ℕ) → ¬ ((read_tree t xs).fault ≡ 0) → (read_tree t xs).value ≡ 0
unfolding read_tree
tree_read_zero t xs = answered_zero 0 _ (read_nodes t).value

read_tree_so : (t xs : List ℕ) → AnswersReadTree t xs (read_tree t xs) (read_tree_leaves t xs)
read_tree_so t xs =
    record {
      numbers = tree_one t xs;
      room = tree_room t xs;
      text = tree_text_lem t xs;
      read = λ e. let (says, long, fills) = tree_read_lem t xs e in (bytes_in (read_tree t xs).value t, says, long, fills);
      refused = λ some. (tree_read_zero t xs some, stays (read_tree t xs).fault (bytes_in (read_tree t xs).value t) xs some);
    }

-- ---- writing one

room_not_six : (bs xs : List ℕ) → ¬ (room_fault (tree_text bs) xs ≡ 6)
unfolding unless
room_not_six bs xs e =
    by_test (leb (length (tree_text bs)) (length xs))
    (λ y. let z : ◌≡◌ {A = ℕ} 0 6 = rw y at e in omega arith)
    (λ z. let t : ◌≡◌ {A = ℕ} 10 6 = rw z at e in omega arith)

write_tree_so : (bs xs : List ℕ) → AnswersWriteTree bs xs (write_tree bs xs) (write_tree_leaves bs xs)
unfolding write_tree answered
write_tree_so bs xs =
    let legal = legal_length (length bs) in
    let shape = unless legal refusal.Shape in
    let text = tree_text bs in
    let six = unless_exactly legal refusal.Shape in
    let first-six = first_exactly 6 shape (room_fault text xs) (λ z. omega arith) (room_not_six bs xs) in
    record {
      numbers = write_one shape text xs _ refl (unless_one _ legal refusal.Shape refl);
      shape = (λ e. six.0 (first-six.0 e), λ z. first-six.1 (six.1 z));
      room = λ y. write_room shape text xs (unless_yes legal refusal.Shape y);
      counted = write_length shape text xs;
      beside = answered_zero 0 (first shape (room_fault text xs)) (length text);
      bytes = write_fills shape text xs;
    }

-- ---- checking

check_one : (p : Plan) (bs : List ℕ) → OneOf (0 ∷ 2 ∷ 3 ∷ 4 ∷ 6 ∷ 7 ∷ []) (check_fault p bs)
check_one p bs =
    by_plan p
    (λ wf. ⊎_elim (one_of _ 0 refl) (⊎_elim (one_of _ 6 refl) (one_of _ 7 refl)) (yes_six_or_seven p wf bs))
    (λ n h. rw (plan_first p bs n) (one_of_more _ _ _ refl h))

check_shape_so : (p : Plan) (bs : List ℕ) → WellFormed p → (check_fault p bs ≡ 6) ↔ (¬ ((t : Tree) × Describes (network_of p) bs t))
check_shape_so p bs wf =
    let six = six_exactly p wf bs in (
      λ e (t, d). six.0 e (record { tree = t; described = d }),
      λ none. six.1 (λ w. none (w.tree, w.described)),
    )

check_so : (p : Plan) (bs : List ℕ) → AnswersCheck p bs (check_fault p bs)
check_so p bs =
    record {
      judged = λ n. judged_as p _ (plan_first p bs n);
      numbers = λ wf. ⊎_elim (one_of _ 0 refl) (⊎_elim (one_of _ 6 refl) (one_of _ 7 refl)) (yes_six_or_seven p wf bs);
      length_first = λ wf z. (check_shape_so p bs wf).1 (λ (t, d). clash (described_legal p wf bs t d) z);
      shape = check_shape_so p bs;
      broken = λ wf. seven_exactly p wf bs;
    }

-- one number answers
judge_one_number : (p : Plan) (n : ℕ) → AnswersJudge p n → n ≡ plan_fault p
unfolding OneOf
judge_one_number p n a =
    ⊎_elim (λ e. e ∙ sym ((fine_exactly p).1 (a.fine.0 e)))
    (⊎_elim (λ e. e ∙ sym ((head_refused_exactly p).1 (a.head.0 e)))
    (⊎_elim (λ e. e ∙ sym ((letters_refused_exactly p).1 (a.letters.0 e)))
    (⊎_elim (λ e. e ∙ sym ((constraints_refused_exactly p).1 (a.constraints.0 e))) (λ none. absurd none))))
    a.numbers

check_one_number : (p : Plan) (bs : List ℕ) (n : ℕ) → AnswersCheck p bs n → n ≡ check_fault p bs
unfolding OneOf
check_one_number p bs n a =
    let so = check_so p bs in
    by_plan p
    (λ wf.
    ⊎_elim
    (λ e. ⊎_elim (λ zero. e ∙ sym zero)
    (⊎_elim
    (λ six. let z : n ≡ 6 = (a.shape wf).1 ((so.shape wf).0 six) in absurd (omega (arith, e, z)))
    (λ seven. let z : n ≡ 7 = (a.broken wf).1 ((so.broken wf).0 seven) in absurd (omega (arith, e, z))))
    (yes_six_or_seven p wf bs))
    (⊎_elim (λ e. e ∙ sym ((so.shape wf).1 ((a.shape wf).0 e)))
    (⊎_elim (λ e. e ∙ sym ((so.broken wf).1 ((a.broken wf).0 e))) (λ none. absurd none)))
    (a.numbers wf))
    (λ not h. judge_one_number p n (a.judged not) ∙ sym (plan_first p bs not))

-- ---- searching

search_room_so : (p : Plan) (xs : List ℕ) → ((search_answer p xs).fault ≡ 10) ↔ (length xs < most_bytes)
search_room_so p xs = let ten = ten_exactly p xs in (λ e. ten.0 (sym (fault_is p xs) ∙ e), λ lt. fault_is p xs ∙ ten.1 lt)

pub search_one : (p : Plan) (xs : List ℕ) → OneOf (0 ∷ 2 ∷ 3 ∷ 4 ∷ 10 ∷ 11 ∷ []) (search_answer p xs).fault
search_one p xs =
    rw (fault_is p xs)
    (by_fault p xs
    (λ lt. one_of _ 10 refl)
    (λ low high. one_of_more _ _ _ refl (one_between 2 3 (search_fault p xs) low (omega arith)))
    (λ room wf n. one_of _ 11 refl)
    (λ room wf c. one_of _ 0 refl))

search_so : (p : Plan) (xs : List ℕ) → AnswersSearch p xs (search_answer p xs) (search_leaves p xs)
search_so p xs =
    let is = fault_is p xs in
    record {
      room = search_room_so p xs;
      judged = λ room n. judged_as p _ (is ∙ search-plan-first p xs room n);
      numbers = λ room wf.
          by_cases (consistent_decided (network_of p) (is_network p wf))
          (λ c. one_of _ 0 refl (is ∙ (search-fine-exactly p xs wf room).1 c))
          (λ none. one_of _ 11 refl (is ∙ (eleven_exactly p xs wf room).1 none));
      tree = λ e.
          let fine = sym is ∙ e in
          let bs = first_nodes (search_leaves p xs) (search_answer p xs).value in
          let is-tree = sym (front_is_tree p xs fine) in
          let long = ap length (sym is-tree) ∙ (answered_so p xs fine).three_each in
          let yes = subst (AnswersCheck p bs) (checker_yes p xs fine) (check_so p bs) in
          (bs, refl, long, yes, leaves_tree p xs fine ∙ ap (λ (x : List ℕ). overwritten x xs) is-tree);
      beside = λ some. search-refused-zero p xs (λ e. some (is ∙ e));
      hopeless = λ e. hopeless_leaves p xs (sym is ∙ e);
      refused = λ n m. refused_stays p xs (λ e. n (is ∙ e)) (λ e. m (is ∙ e));
      past = past_stays p xs;
    }

-- ---- the crew

pub show_numbered : (p : Plan) (bs : List ℕ) (h : History) → Numbered (show_answer p bs h)
unfolding show_answer
show_numbered p bs h =
    fault_numbered _ _
    (first_one _ _ _ (one_of_more _ _ _ refl (check_one p bs)) (unless_one _ (history_fine h) refusal.Mask refl))
    (told_numbered p (start (network_of p)) bs (reports_in h))

show_so : (p : Plan) (bs : List ℕ) (h : History) → AnswersShow p bs h (show_answer p bs h)
show_so p bs h =
    record {
      numbers = λ n e. one_of_more _ _ _ refl (subst Numbered e (show_numbered p bs h));
      checked = λ n some a.
          let is = check_one_number p bs n a in
          check_first p bs h (λ e. some (is ∙ e)) ∙ ap refuse (sym is);
      history = λ a z. history_next p bs h (sym (check_one_number p bs 0 a)) z;
      by_tree = λ a fine t d.
          let yes = sym (check_one_number p bs 0 a) in
          shows_fine p (accepted_plan p bs yes) bs t d yes h fine;
    }

pub reports_one : (p : Plan) (bs : List ℕ) (h : History) (o : ℕ) → OneOf (0 ∷ crew_numbers) (report_answer p bs h o).fault
unfolding report_answer
reports_one p bs h o = report_one p (show_answer p bs h) o (show_numbered p bs h)

report_so : (p : Plan) (bs : List ℕ) (h : History) (o : ℕ) → AnswersReport p h o (show_answer p bs h) (report_answer p bs h o)
unfolding report_answer
report_so p bs h o =
    let may : (m : Move) → show_answer p bs h ≡ instruct m → (may_report p m o ≡ true) ↔ Outcome (network_of p) m o
    = λ m e. may_is p (instructed_so p bs h m e).well_formed.head.letters m o in
    let fault : (m : Move) → show_answer p bs h ≡ instruct m → report_fault p (show_answer p bs h) o ≡ unless (may_report p m o) refusal.Mask
    = λ m e. ap (λ (x : Told). report_fault p x o) e in
    record {
      numbers = one_of_more _ _ _ refl (reports_one p bs h o);
      shown = λ n e. refusal_handed_on p bs h o n e;
      done = λ e. ap (λ (x : Told). report_fault p x o) e;
      accepted = λ m e. (
        λ f. (may m e).0 (unless_is (may_report p m o) refusal.Mask (sym (fault m e) ∙ f)),
        λ ok. fault m e ∙ unless_yes (may_report p m o) refusal.Mask ((may m e).1 ok),
      );
      mask = λ m e.
          let eight = unless_exactly (may_report p m o) refusal.Mask in
          let not = false_exactly (may m e) in
          (λ f. not.0 (eight.0 (sym (fault m e) ∙ f)), λ none. fault m e ∙ eight.1 (not.1 none));
      lengthened = accepted_longer p bs h o;
      refused = refused_same p bs h o;
    }

-- ---- lists of calls

-- a crew's steps are no more than its history counts, and no more than eight; the history keeps its eight masks
record Few (r : Progress) : Type 0 where
  eight : length r.history.masks ≡ 8
  counted : length r.steps ≤ r.history.count
  few : length r.steps ≤ 8

module _ (p : Plan) (bs : List ℕ) where
  no_step_more : (r : Progress) (o : ℕ) → Few r → ¬ ((report_answer p bs r.history o).fault ≡ 0) → Few (after_call the_run p bs r (reporting o))
  unfolding after_call
  no_step_more r o f some =
      let same = refused_same p bs r.history o some in
      let none = no_step_refused (show_answer p bs r.history) o (report_answer p bs r.history o).fault some in
      rw (same, none, append-nil) f

  step_more :
      (r : Progress) (o : ℕ) → Few r → (m : Move) → show_answer p bs r.history ≡ instruct m →
      (report_answer p bs r.history o).fault ≡ 0 → Few (after_call the_run p bs r (reporting o))
  unfolding after_call steps_of
  step_more r o f m told fine =
      let h = r.history in
      let room = room_for_one p bs h m f.eight told in
      let longer-so = accepted_longer p bs h o fine in
      let one = length-append r.steps (record { instruction = m; report = o } ∷ []) in
      rw (fine, told, longer-so)
      (record {
        eight = length-set h.masks h.count o ∙ f.eight;
        counted = omega (arith, one, f.counted);
        few = omega (arith, one, f.counted, room);
      })

  one_call : (r : Progress) (call : Call) → Few r → Few (after_call the_run p bs r call)
  unfolding after_call report_answer
  one_call r showing f = f
  one_call r (reporting o) f =
      by_test (eqb (report_answer p bs r.history o).fault 0)
      (λ y. let fine = eqb_is (report_answer p bs r.history o).fault 0 y in
      let (m, told) = accepted_of p o (show_answer p bs r.history) (show_numbered p bs r.history) fine in
      step_more r o f m told fine)
      (λ z. no_step_more r o f (differs (report_answer p bs r.history o).fault 0 z))

  all_calls : (r : Progress) (calls : List Call) → Few r → Few (after_calls the_run p bs r calls)
  unfolding after_calls
  all_calls r [] f = f
  all_calls r (call ∷ calls) f = all_calls (after_call the_run p bs r call) calls (one_call r call f)

-- ---- the verdict

fixed_letters_so : (p : Plan) (values : ℕ) → WellFormed p → ((least_schedule p values).fault ≡ 8) ↔ (¬ Setting (network_of p) values)
fixed_letters_so p values wf = (
  λ e setting.
      let z : ◌≡◌ {A = ℕ} 8 0 = sym e ∙ ap (λ (x : Answer Fixed). x.fault) (fine_answer p values wf setting) in
      omega arith,
  mask_fault p values wf,
)

verdict_so : (p : Plan) (values : ℕ) → AnswersVerdict p values (least_schedule p values)
unfolding least_schedule verdict_fault answered
verdict_so p values =
    let letters = unless (ltb values (2 ^ p.letters)) refusal.Mask in
    record {
      judged = λ n. judged_as p _ (first_some (plan_fault p) letters (λ e. n ((fine_exactly p).0 e)));
      numbers = λ wf. first_one _ _ _ (one_of _ 0 refl ((fine_exactly p).1 wf)) (unless_one _ (ltb values (2 ^ p.letters)) refusal.Mask refl);
      letters = fixed_letters_so p values;
      refused = answered_zero none (verdict_fault p values) (verdict_of (network_of p) (bit values));
      zeros = (eight_answer p values).zeros;
    }

-- ---- the screen

screen_so : (p : Plan) → AnswersScreen p (screened p)
unfolding screened
screen_so p =
    record {
      judged = subst (AnswersJudge p) (sym (screen_plan_fault p)) (judge_so p);
      beside = answered_zero false (plan_fault p) (passes p);
    }

-- ---- the table of differences

table_letters_so : (p : Plan) (values : ℕ) → WellFormed p → ((difference_table p values).fault ≡ 8) ↔ (¬ Setting (network_of p) values)
table_letters_so p values wf = (
  λ e setting.
      let z : ◌≡◌ {A = ℕ} 8 0 = sym e ∙ ap (λ (x : Answer Differences). x.fault) (table.fine_answer p values wf setting) in
      omega arith,
  table.mask_fault p values wf,
)

table_so : (p : Plan) (values : ℕ) → AnswersTable p values (difference_table p values)
unfolding difference_table table_fault answered
table_so p values =
    let letters = unless (ltb values (2 ^ p.letters)) refusal.Mask in
    record {
      judged = λ n. judged_as p _ (first_some (plan_fault p) letters (λ e. n ((fine_exactly p).0 e)));
      numbers = λ wf. first_one _ _ _ (one_of _ 0 refl ((fine_exactly p).1 wf)) (unless_one _ (ltb values (2 ^ p.letters)) refusal.Mask refl);
      letters = table_letters_so p values;
      refused = answered_zero no_table (table_fault p values) (table_of (network_of p) (bit values));
      zeros = (table.eight_answer p values).zeros;
      unused = table.unused_answer p values;
    }

-- ---- the program

-- a buffer for the search
abbrev blank : List ℕ
blank = replicate most_bytes 0

program_so : (input : List ℕ) → AnswersProgram input (answer_text input)
unfolding answer_text
program_so input =
    by_input input
    (λ p says c e.
    let room : most_bytes ≤ length blank = omega arith in
    let first_tree_lem = first_moves p blank ((search-fine-exactly p blank says.1 room).1 c) in
    inr (p, (says.2, says.3), says.1, says.0, inr (c, (first_tree (network_of p), first_tree_lem, e))))
    (λ p says n e. inr (p, (says.2, says.3), says.1, says.0, inl (n, e)))
    (λ none n low high e.
    let fault = (read_plan (take 1026 input)).fault in
    let some : ¬ (fault ≡ 0) = λ z. none (read_plan (take 1026 input)).value
    ((read_plan_exactly (take 1026 input) (read_plan (take 1026 input)).value).0 (λ i. record { fault = z i; value = (read_plan (take 1026 input)).value })) in
    inl (fault, (refused_exactly (take 1026 input) fault some).0 refl, rw (eqb_no fault 0 some)))

-- ---- The theorem

pub demand1 : Demand1 planner
demand1 =
    record {
      judge = judge_so;
      read_plan_lem = read_plan_so;
      write_plan_lem = write_plan_so;
      read_tree_lem = read_tree_so;
      write_tree_lem = write_tree_so;
      check = check_so;
      search = search_so;
      show = show_so;
      report = report_so;
      follow = λ p bs h calls. refl;
      follow_few = λ p bs h calls eight.
          (all_calls p bs (begun h) (calls_in calls) (record { eight = eight; counted = omega arith; few = omega arith })).few;
      verdict = verdict_so;
      screen = screen_so;
      differences = table_so;
      refuse_frame = λ r. refl;
      program = program_so;
    }
