-- Laws: the exported calls of plans, trees and the search, over records that are long enough. Only the checker need believe this file;
-- specs/LibraryDemands.antt has the statements.
use Rattle.std.specs.Prelude.{Result}
use mathlib.Core.Path.{◌≡◌, refl, sym, ap, ◌∙◌, subst}
use mathlib.Core.Logic.{◌↔◌, by_cases}
use mathlib.Core.Bool.{true}
use mathlib.Core.List.{List, ◌++◌}
use Prim.Native.Nat.{ℕ, ◌+◌, ◌≤◌, ◌<◌}
use native.Mathlib.Omega.{arith}
use native.Mathlib.Decide.{dec_lt}
use lib.ListN.{length, take, drop, length-append}
use Rattle.network.specs.Strategy.{Strategy, Viable, Dynamic, DynamicallyConsistent}
use Rattle.network.specs.Game.{start}
use Rattle.network.specs.Tree.{Tree, preorder}
use Rattle.network.specs.FirstMoves.{FirstMoves}
use Rattle.network.specs.Policy.{Policy, SucceedsAlways}
use Rattle.plan.specs.declared.Plan.{Plan}
use Rattle.plan.specs.declared.Refusal.{Refusal}
use Rattle.plan.specs.Answer.{Answer, fine}
use Rattle.plan.specs.Faults.{first, filled}
use Rattle.plan.specs.Plan.{network_of}
use Rattle.plan.specs.WellFormed.{WellFormed}
use Rattle.judge.specs.Judge.{plan_fault}
use Rattle.frame.specs.Frame.{Bytes}
use Rattle.tree.specs.Nodes.{most_bytes, legal_length, node_count, overwritten}
use Rattle.tree.specs.Trees.{tree_bytes}
use Rattle.plan_text.specs.PlanText.{plan_text}
use Rattle.plan_text.specs.ReadPlan.{read_plan}
use Rattle.plan_text.specs.WritePlan.{write_plan, write_plan_leaves}
use Rattle.plan_text.proofs.PlanTextTheorems.{read_exactly}
use Rattle.tree_text.specs.TreeText.{tree_text}
use Rattle.tree_text.specs.ReadTree.{read_tree, read_tree_leaves}
use Rattle.tree_text.specs.WriteTree.{write_tree, write_tree_leaves}
use Rattle.checker.specs.Checker.{check_fault}
use Rattle.search.specs.Searched.{searched_answer}
use Rattle.search.specs.Search.{search_answer, search_leaves}
use Rattle.search.proofs.SearchTheorems.{fault_is, hopeless_exactly}
use Rattle.following.specs.ThisRun.{the_run}
use Rattle.demands.specs.EachCall.{Sized, AnswersJudge, AnswersReadPlan, AnswersWritePlan, AnswersReadTree, AnswersWriteTree, AnswersCheck}
use Rattle.demands.specs.EachCall.{AnswersSearch}
use Rattle.demands.specs.Demand2.{DescribesStrategy}
use Rattle.demands.specs.Demand3.{Hopeless, Demand3For}
use Rattle.demands.proofs.Demand1Theorem.{demand1}
use Rattle.demands.proofs.Demand2Theorem.{demand2}
use Rattle.demands.proofs.Demand3Theorem.{demand3}
use Rattle.demands.proofs.SaidLaws.{search_said}
use Rattle.records.specs.Records.{plan_in, plan_bytes, plan_length}
use Rattle.records.proofs.RecordsTheorems.{plan_bytes_lem}
use Rattle.answers.specs.Numbers.{numbered}
use Rattle.tureenlark.specs.Library.{plan_short, judge_plan_number, read_plan_number, read_plan_left, write_plan_number, write_plan_left}
use Rattle.tureenlark.specs.Library.{read_tree_number, write_tree_number, check_tree_number, search_number, search_left}
use Rattle.tureenlark.specs.Exported.{refusals, answer_in, fault_in}
use Rattle.tureenlark.proofs.LibraryLaws.{short, long, number_short, number_long, left_long}
use Rattle.tureenlark.proofs.LibraryTheorems.{read_crosses}
use Rattle.tureenlark.proofs.DecodeLaws.{fine_in, fault_in_lem, small_value, answer_in_lem, one_is, is_one, is_result, refused_is, is_refused}
use Rattle.tureenlark.proofs.RangeLaws.{plan_written_most, tree_read_most, tree_written_most, searched_most}

-- ---- a plan record that is long enough

module _ (plan : List ℕ) (enough : plan_length ≤ length plan) where
  abbrev p : Plan
  p = plan_in plan

  not_short : plan_short plan ≡ 0
  not_short = long plan_length plan enough

  -- the number is that of what comes next
  pub long_number : (f v : ℕ) → numbered (first (plan_short plan) f) v ≡ numbered f v
  long_number f v = sym (number_long (plan_short plan) f v not_short)

  pub long_fault : (f v : ℕ) → v < refusals → fault_in (numbered (first (plan_short plan) f) v) ≡ f
  long_fault f v small = ap fault_in (long_number f v) ∙ fault_in_lem f v small

  pub judge_so : AnswersJudge p (fault_in (judge_plan_number plan))
  judge_so = subst (AnswersJudge p) (sym (long_fault (plan_fault p) 1 (omega arith))) (demand1.judge p)

  pub check_so : (tree : List ℕ) → AnswersCheck p tree (fault_in (check_tree_number plan tree))
  check_so tree = subst (AnswersCheck p tree) (sym (long_fault (check_fault p tree) 1 (omega arith))) (demand1.check p tree)

  pub check_yes_so :
      (tree : List ℕ) → (check_tree_number plan tree ≡ 1)
      ↔ (WellFormed p × ((σ : Strategy) × DescribesStrategy p tree σ × Dynamic (network_of p) σ × Viable (network_of p) σ))
  check_yes_so tree =
      let f = check_fault p tree in
      let yes = demand2.yes_exactly p tree in
      (λ e. yes.0 (one_is f (sym (long_number f 1) ∙ e)), λ h. long_number f 1 ∙ is_one f (yes.1 h))

  -- ---- reading a plan

  module _ (text : List ℕ) where
    abbrev read : Plan
    read = (read_plan text).value

    pub there : plan_in (read_plan_left text plan) ≡ read
    there = read_crosses text plan enough

    pub read_plan_so :
        AnswersReadPlan text (record { fault = fault_in (read_plan_number text plan); value = plan_in (read_plan_left text plan) })
    read_plan_so =
        let fault = long_fault (read_plan text).fault 1 (omega arith) in
        subst (AnswersReadPlan text) (λ i. record { fault = sym fault i; value = sym there i }) (demand1.read_plan_lem text)

    left_is : read_plan_left text plan ≡ plan_bytes read ++ drop plan_length plan
    unfolding filled
    left_is =
        ap (λ (n : ℕ). filled n (plan_bytes read) plan) not_short
        ∙ ap (λ (n : ℕ). plan_bytes read ++ drop n plan) (plan_bytes_lem read)

    pub read_plan_bytes_so : read_plan_left text plan ≡ plan_bytes (plan_in (read_plan_left text plan)) ++ drop plan_length plan
    read_plan_bytes_so = left_is ∙ ap (λ (q : Plan). plan_bytes q ++ drop plan_length plan) (sym there)

    -- 1 exactly where the text is read
    pub read_one : (read_plan_number text plan ≡ 1) ↔ ((read_plan text).fault ≡ 0)
    read_one =
        let f = (read_plan text).fault in
        (λ e. one_is f (sym (long_number f 1) ∙ e), λ e. long_number f 1 ∙ is_one f e)

    pub read_plan_exactly_so :
        (q : Plan) → Sized q →
        ((read_plan_number text plan ≡ 1) × (plan_in (read_plan_left text plan) ≡ q)) ↔ ((text ≡ plan_text q) × WellFormed q)
    read_plan_exactly_so q sized =
        let exactly = demand2.plan_exactly text q sized in (
          λ (one, is). let none = read_one.0 one in
              let same = sym there ∙ is in
              exactly.0 (λ i. record { fault = none i; value = same i }),
          λ h. let e = exactly.1 h in
              (read_one.1 (ap (λ (a : Answer Plan). a.fault) e), there ∙ ap (λ (a : Answer Plan). a.value) e),
        )

    pub left_long_enough : plan_length ≤ length (read_plan_left text plan)
    left_long_enough =
        let all = ap length left_is ∙ length-append (plan_bytes read) (drop plan_length plan) in
        let bytes = plan_bytes_lem read in
        omega (arith, all, bytes)

  -- ---- writing a plan

  pub write_plan_so : (text : List ℕ) → AnswersWritePlan p text (answer_in (write_plan_number plan text)) (write_plan_left plan text)
  write_plan_so text =
      let a = write_plan p text in
      let most : a.fault ≡ 0 → a.value ≤ 1724 = λ e. omega (arith, (plan_written_most p text e).1) in
      let same = ap answer_in (long_number a.fault a.value) ∙ answer_in_lem a most (demand1.write_plan_lem p text).beside in
      let left = left_long (plan_short plan) (write_plan_leaves p text) text not_short in
      subst (λ (x : Answer ℕ). AnswersWritePlan p text x (write_plan_left plan text)) (sym same)
      (subst (AnswersWritePlan p text a) left (demand1.write_plan_lem p text))

  -- ---- the search

  module _ (tree : List ℕ) where
    searched_small : (search_answer p tree).value < refusals
    searched_small = small_value (search_answer p tree) (λ e. omega (arith, (searched_most p tree e).1)) (demand1.search p tree).beside

    pub search_number_is : search_number plan tree ≡ numbered (search_answer p tree).fault (search_answer p tree).value
    search_number_is = long_number (search_answer p tree).fault (search_answer p tree).value

    pub search_left_is : search_left plan tree ≡ search_leaves p tree
    search_left_is = sym (left_long (plan_short plan) (search_leaves p tree) tree not_short)

    search_answer_is : answer_in (search_number plan tree) ≡ search_answer p tree
    search_answer_is =
        ap answer_in search_number_is
        ∙ answer_in_lem (search_answer p tree) (λ e. omega (arith, (searched_most p tree e).1)) (demand1.search p tree).beside

    pub search_so : AnswersSearch p tree (answer_in (search_number plan tree)) (search_left plan tree)
    search_so =
        subst (λ (x : Answer ℕ). AnswersSearch p tree x (search_left plan tree)) (sym search_answer_is)
        (subst (AnswersSearch p tree (search_answer p tree)) (sym search_left_is) (demand1.search p tree))

    -- 7F0B is the fault 11, and n below it is n nodes
    pub eleven_is : (search_number plan tree ≡ refusals + 11) ↔ ((search_answer p tree).fault ≡ 11)
    eleven_is = (
      λ e. refused_is (search_answer p tree).fault (search_answer p tree).value 11 searched_small (sym search_number_is ∙ e),
      λ e. search_number_is ∙ is_refused (search_answer p tree).fault (search_answer p tree).value 11 (λ z. omega arith) e,
    )

    pub search_hopeless_so : WellFormed p → most_bytes ≤ length tree → (search_number plan tree ≡ refusals + 11) ↔ (¬ DynamicallyConsistent (network_of p))
    search_hopeless_so wf room =
        let eleven = hopeless_exactly p tree in (
          λ e. (eleven.0 (sym (fault_is p tree) ∙ eleven_is.0 e)).2,
          λ none. eleven_is.1 (fault_is p tree ∙ eleven.1 (room, wf, none)),
        )

    -- what was handed back, as the search's own answer
    made : WellFormed p → most_bytes ≤ length tree → (r : Result ℕ Refusal) × (searched_answer r ≡ search_answer p tree) × Demand3For the_run p tree r (search_leaves p tree)
    made wf room =
        let (r, so) = search_said p tree in
        (r, so, (demand3 p tree wf room).1 r (search_leaves p tree) (record { answer = so; buffer = refl }))

    pub search_nobody_so : search_number plan tree ≡ refusals + 11 → (π : Policy) → ¬ SucceedsAlways (network_of p) π
    search_nobody_so e =
        let (room, wf, none) = (hopeless_exactly p tree).0 (sym (fault_is p tree) ∙ eleven_is.0 e) in
        let (r, so, d) = made wf room in
        d.nobody (d.hopeless_exactly.1 none)

    pub search_tree_so :
        WellFormed p → most_bytes ≤ length tree → DynamicallyConsistent (network_of p) →
        (t : Tree) × FirstMoves (network_of p) t (start (network_of p))
        × (search_number plan tree ≡ length (preorder (network_of p) t)) × (search_left plan tree ≡ overwritten (tree_bytes (network_of p) t) tree)
    search_tree_so wf room c =
        let (r, so, d) = made wf room in
        let hope : ¬ Hopeless r = λ h. d.hopeless_exactly.0 h c in
        let (t, f) = d.has_tree hope in
        let (nodes, left) = d.gets_tree hope t f in
        let answer : search_answer p tree ≡ fine (length (preorder (network_of p) t)) = sym so ∙ ap searched_answer nodes in
        (t, f, search_number_is ∙ ap (λ (a : Answer ℕ). numbered a.fault a.value) answer ∙ is_result (length (preorder (network_of p) t)), search_left_is ∙ left)

    -- a result is the number of nodes that were made
    pub result_is : search_number plan tree < refusals → search_answer p tree ≡ fine (search_number plan tree)
    result_is small = sym search_answer_is ∙ fine_in (search_number plan tree) small

-- ---- a text that was read is written back

-- it was read into a record that is long enough
read_long : (text plan : List ℕ) → read_plan_number text plan ≡ 1 → plan_length ≤ length plan
read_long text plan one =
    by_cases (dec_lt (length plan) plan_length)
    (λ lt. let ten = number_short (plan_short plan) (read_plan text).fault 1 (short plan_length plan lt) in
    let z : ◌≡◌ {A = ℕ} 32522 1 = ten ∙ one in
    absurd (omega arith))
    (λ ge. omega arith)

pub read_plan_back_so :
    (text plan buffer : List ℕ) → read_plan_number text plan ≡ 1 → length text ≤ length buffer →
    (write_plan_number (read_plan_left text plan) buffer ≡ length text)
    × (write_plan_left (read_plan_left text plan) buffer ≡ text ++ drop (length text) buffer)
read_plan_back_so text plan buffer one room =
    let enough = read_long text plan one in
    let left = read_plan_left text plan in
    let q = (read_plan text).value in
    let none = (read_one plan enough text).0 one in
    let (is-text, wf, six, sixty-four) = (read_exactly text q).0 (λ i. record { fault = none i; value = q }) in
    let long-left = left_long_enough plan enough text in
    let fits : length (plan_text q) ≤ length buffer = subst (λ (l : List ℕ). length l ≤ length buffer) is-text room in
    let written : write_plan (plan_in left) buffer ≡ fine (length (plan_text q)) =
    ap (λ (x : Plan). write_plan x buffer) (there plan enough text) ∙ (demand2.plan_back q wf (six, sixty-four) buffer fits).0 in
    let number : write_plan_number left buffer ≡ length text =
    long_number left long-left (write_plan (plan_in left) buffer).fault (write_plan (plan_in left) buffer).value
    ∙ ap (λ (a : Answer ℕ). numbered a.fault a.value) written ∙ is_result (length (plan_text q)) ∙ ap length (sym is-text) in
    let so = demand1.write_plan_lem (plan_in left) buffer in
    let fills = so.bytes.front (ap (λ (a : Answer ℕ). a.fault) written) in
    let text_is : plan_text (plan_in left) ≡ text = ap plan_text (there plan enough text) ∙ sym is-text in
    let leaves : write_plan_left left buffer ≡ write_plan_leaves (plan_in left) buffer =
    sym (left_long (plan_short left) (write_plan_leaves (plan_in left) buffer) buffer (long plan_length left long-left)) in
    (number, leaves ∙ fills ∙ ap (λ (l : List ℕ). l ++ drop (length l) buffer) text_is)

-- ---- trees and their texts

pub read_tree_so : (text tree : List ℕ) → AnswersReadTree text tree (answer_in (read_tree_number text tree)) (read_tree_leaves text tree)
read_tree_so text tree =
    let a = read_tree text tree in
    let same = answer_in_lem a (λ e. omega (arith, (tree_read_most text tree e).1)) (λ some. ((demand1.read_tree_lem text tree).refused some).0) in
    subst (λ (x : Answer ℕ). AnswersReadTree text tree x (read_tree_leaves text tree)) (sym same) (demand1.read_tree_lem text tree)

pub write_tree_so : (tree text : List ℕ) → AnswersWriteTree tree text (answer_in (write_tree_number tree text)) (write_tree_leaves tree text)
write_tree_so tree text =
    let a = write_tree tree text in
    let same = answer_in_lem a (λ e. (tree_written_most tree text e).1) (demand1.write_tree_lem tree text).beside in
    subst (λ (x : Answer ℕ). AnswersWriteTree tree text x (write_tree_leaves tree text)) (sym same) (demand1.write_tree_lem tree text)

pub tree_back_so :
    (tree text buffer : List ℕ) → Bytes tree → legal_length (length tree) ≡ true → length (tree_text tree) ≤ length text →
    most_bytes ≤ length buffer → let written = take (write_tree_number tree text) (write_tree_leaves tree text) in
    (read_tree_number written buffer ≡ node_count tree) × (read_tree_leaves written buffer ≡ tree ++ drop (length tree) buffer)
tree_back_so tree text buffer bytes legal fits room =
    let (written, read, left) = demand2.tree_back tree bytes legal text buffer fits room in
    let number : write_tree_number tree text ≡ (write_tree tree text).value =
    ap (λ (a : Answer ℕ). numbered a.fault a.value) written ∙ is_result (length (tree_text tree)) ∙ sym (ap (λ (a : Answer ℕ). a.value) written) in
    rw number (ap (λ (a : Answer ℕ). numbered a.fault a.value) read ∙ is_result (node_count tree), left)
