-- Theorems on what the program prints: the text of the tree of first moves, or one 7F frame, and exactly when. Read the statements; only the
-- checker need believe the proofs.
use mathlib.Core.Path.{◌≡◌, refl, sym, ap, ◌∙◌}
use mathlib.Core.Logic.{by_cases}
use mathlib.Core.Bool.{true, false}
use mathlib.Core.List.{List, ◌++◌}
use Prim.Native.Nat.{ℕ, ◌%◌, ◌≤◌}
use native.Mathlib.Omega.{arith}
use borrow.Author.Tests.{lt-ltb}
use lib.Dec.{eqb}
use lib.ListN.{length, take, get_or, length-append}
use lib.Seq.{take_all, take_at, length-take-le}
use Rattle.network.specs.Strategy.{DynamicallyConsistent}
use Rattle.network.specs.Search.{first_tree}
use Rattle.network.proofs.Booleans.{by_test, eqb_is, eqb_no, differs}
use Rattle.network.proofs.Theorems.{consistent_decided}
use Rattle.plan.proofs.PlanTheorems.{is_network}
use Rattle.plan.specs.declared.Plan.{Plan}
use Rattle.plan.specs.declared.Refusal.TheVariants as refusal
use Rattle.plan.specs.Refusal.{refusal_number}
use Rattle.plan.specs.Answer.{Answer}
use Rattle.plan.specs.Plan.{network_of}
use Rattle.plan.specs.WellFormed.{WellFormed}
use Rattle.frame.specs.Hex.{hex_digit}
use Rattle.frame.specs.Frame.{fault_text}
use Rattle.frame.specs.Texts.{refusal_text}
use Rattle.tree.specs.Nodes.{node_count, most_bytes, legal_length}
use Rattle.tree.specs.Trees.{tree_bytes}
use Rattle.tree.proofs.NodeLaws.{legal_make}
use Rattle.plan_text.specs.PlanText.{plan_text}
use Rattle.plan_text.specs.ReadPlan.{read_plan}
use Rattle.plan_text.proofs.PlanTextTheorems as plan-text
use Rattle.plan_text.proofs.PlanTextTheorems.{read_exactly, refused_zero, at_most_1025}
use Rattle.tree_text.specs.TreeText.{tree_text}
use Rattle.tree_text.proofs.TreeTextTheorems.{at_most_1724}
use Rattle.search.proofs.AnswerLaws.{answered_so}
use Rattle.search.proofs.SearchTheorems.{fault_is, front_is_tree, fine_exactly, eleven_exactly}
use Rattle.answer_text.specs.declared.AnswerText.{AnswerText}
use Rattle.answer_text.specs.AnswerText.{plan_in, lent, tree_of, printed, plan_answer, answer_text}
use Rattle.answer_text.specs.Holding.{holding}
use Rattle.answer_text.proofs.CodeLaws.{blank_length}

-- The first 1,026 bytes of the input are the text of the well-formed plan p. (A record's arrays have six and 64 places by their types.)
abbrev pub Says : List ℕ → Plan → Type 0
Says input p = (take 1026 input ≡ plan_text p) × WellFormed p × (length p.letter ≡ 6) × (length p.constraint ≡ 64)

room : most_bytes ≤ length lent
room = omega (arith, blank_length most_bytes)

-- ---- no two of the texts are the same

-- they differ in the first character, 0 or 7
not_both : (bs : List ℕ) (n : ℕ) → tree_text bs ≡ fault_text n → ⊥
unfolding tree_text hex_digit
not_both bs n e = let z : ◌≡◌ {A = ℕ} 48 55 = ap (λ (t : List ℕ). get_or t 0 0) e in omega arith

-- or in the last digit
not_eleven : (n : ℕ) → n ≤ 4 → fault_text n ≡ refusal_text refusal.Hopeless → ⊥
unfolding hex_digit
not_eleven n high e =
    let digit : hex_digit (n % 16) ≡ 66 = ap (λ (t : List ℕ). get_or t 3 0) e in
    let low = rw (lt-ltb (n % 16) 10 (omega arith)) at digit in
    omega arith

module _ (input : List ℕ) where
  says_so : (plan_in input).fault ≡ 0 → Says input (plan_in input).value
  says_so e =
      let p = (plan_in input).value in
      (read_exactly (take 1026 input) p).0 (ap (λ (k : ℕ). record { fault = k; value = p }) e)

  -- ---- a plan: its tree of first moves where some strategy is dynamic and viable, 11 where none is

  module _ (p : Plan) (says : Says input p) where
    answered : answer_text input ≡ plan_answer p
    unfolding answer_text
    answered = rw ((read_exactly (take 1026 input) p).1 says)

    pub prints_tree : DynamicallyConsistent (network_of p) → answer_text input ≡ tree_text (tree_bytes (network_of p) (first_tree (network_of p)))
    unfolding plan_answer
    prints_tree consistent =
        let none = (fine_exactly p lent says.1 room).1 consistent in
        answered
        ∙ ap (λ (n : ℕ). printed n (tree_text (tree_of p))) (fault_is p lent ∙ none)
        ∙ ap tree_text (front_is_tree p lent none)

    pub tree_legal : DynamicallyConsistent (network_of p) → legal_length (length (tree_bytes (network_of p) (first_tree (network_of p)))) ≡ true
    tree_legal consistent =
        let l = (answered_so p lent ((fine_exactly p lent says.1 room).1 consistent)).legal in
        rw l.threes (legal_make (node_count (tree_bytes (network_of p) (first_tree (network_of p)))) l.some l.most)

    pub prints_hopeless : ¬ DynamicallyConsistent (network_of p) → answer_text input ≡ refusal_text refusal.Hopeless
    unfolding plan_answer
    prints_hopeless none =
        let eleven = (eleven_exactly p lent says.1 room).1 none in
        answered ∙ ap (λ (n : ℕ). printed n (tree_text (tree_of p))) (fault_is p lent ∙ eleven)

  -- ---- no plan: the number of the text's fault, 1 to 4

  pub prints_fault : ((p : Plan) → ¬ Says input p) → (n : ℕ) × (1 ≤ n) × (n ≤ 4) × (answer_text input ≡ fault_text n)
  unfolding answer_text
  prints_fault none =
      let n = (plan_in input).fault in
      let some : ¬ (n ≡ 0) = λ e. none (plan_in input).value (says_so e) in
      (n, omega (arith, some), (refused_zero (take 1026 input) some).0, rw (eqb_no n 0 some))

  -- ---- the three together: there is nothing else

  pub by_input :
      {C : Type 0} →
      ((p : Plan) → Says input p → DynamicallyConsistent (network_of p) →
      answer_text input ≡ tree_text (tree_bytes (network_of p) (first_tree (network_of p))) → C) →
      ((p : Plan) → Says input p → ¬ DynamicallyConsistent (network_of p) → answer_text input ≡ refusal_text refusal.Hopeless → C) →
      (((p : Plan) → ¬ Says input p) → (n : ℕ) → 1 ≤ n → n ≤ 4 → answer_text input ≡ fault_text n → C) → C
  by_input {C} tree hopeless fault = by_test (eqb (plan_in input).fault 0) read refused
    where
      p : Plan
      p = (plan_in input).value

      read : eqb (plan_in input).fault 0 ≡ true → C
      read y =
          let says = says_so (eqb_is (plan_in input).fault 0 y) in
          by_cases (consistent_decided (network_of p) (is_network p says.1))
          (λ c. tree p says c (prints_tree p says c))
          (λ n. hopeless p says n (prints_hopeless p says n))

      refused : eqb (plan_in input).fault 0 ≡ false → C
      refused z =
          let none : (q : Plan) → ¬ Says input q = λ q says.
          differs (plan_in input).fault 0 z (ap (λ (a : Answer Plan). a.fault) ((read_exactly (take 1026 input) q).1 says)) in
          let (n, low, high, e) = prints_fault none in
          fault none n low high e

  -- ---- exactly

  -- a tree text is printed only for a plan with a strategy
  pub tree_only : (bs : List ℕ) → answer_text input ≡ tree_text bs → (p : Plan) × Says input p × DynamicallyConsistent (network_of p)
  tree_only bs e =
      by_input
      (λ p says c t. (p, says, c))
      (λ p says n t. absurd (not_both bs (refusal_number refusal.Hopeless) (sym e ∙ t)))
      (λ none n low high t. absurd (not_both bs n (sym e ∙ t)))

  -- 11 only for a plan without one
  pub eleven_only : answer_text input ≡ refusal_text refusal.Hopeless → (p : Plan) × Says input p × (¬ DynamicallyConsistent (network_of p))
  eleven_only e =
      by_input
      (λ p says c t. absurd (not_both _ (refusal_number refusal.Hopeless) (sym t ∙ e)))
      (λ p says n t. (p, says, n))
      (λ none n low high t. absurd (not_eleven n high (sym t ∙ e)))

  -- 1 to 4 only where there is no plan
  pub fault_only : (n : ℕ) → n ≤ 4 → answer_text input ≡ fault_text n → (p : Plan) → ¬ Says input p
  fault_only n high e =
      by_input
      (λ p says c t. absurd (not_both _ n (sym t ∙ e)))
      (λ p says no t. absurd (not_eleven n high (sym e ∙ t)))
      (λ none m low high' t. none)

  -- no input of more than 1,025 bytes is a plan
  pub longer_refused : 1026 ≤ length input → (p : Plan) → ¬ Says input p
  longer_refused long p says =
      let most = at_most_1025 p says.1 in
      let all = sym (length-take-le 1026 input long) ∙ ap length says.0 in
      omega arith

  -- no plan's text is one where it is cut off anywhere
  pub cut_refused : (p : Plan) → WellFormed p → (r : List ℕ) → plan_text p ≡ input ++ r → 1 ≤ length r → (q : Plan) → ¬ Says input q
  cut_refused p wf r e some q says =
      let most = at_most_1025 p wf in
      let long = ap length e ∙ length-append input r in
      let all = take_all 1026 input (omega arith) in
      let fine = ap (λ (a : Answer Plan). a.fault) ((read_exactly (take 1026 input) q).1 says) in
      plan-text.cut_refused p wf input r e some (sym (ap (λ (t : List ℕ). (read_plan t).fault) all) ∙ fine)

  -- 1,724 bytes are enough
  pub answer_fits : length (answer_text input) ≤ 1724
  answer_fits =
      by_input
      (λ p says c t. rw t (at_most_1724 (tree_bytes (network_of p) (first_tree (network_of p))) (tree_legal p says c)))
      (λ p says no t. let e = ap length t in omega arith)
      (λ none n low high t. let e = ap length t in omega arith)

-- ---- what the call hands back, by its promise: the text is its first bytes

module _ (input : List ℕ) (r : AnswerText) (promised : r ≡ holding (answer_text input)) where
  pub text_is : take r.length r.bytes ≡ answer_text input
  text_is = rw promised (take_at (answer_text input) _ (length (answer_text input)) refl)

  pub text_inside : r.length ≤ length r.bytes
  text_inside = rw promised (rw length-append (omega arith))

  pub text_length : r.length ≡ length (take r.length r.bytes)
  text_length = sym (length-take-le r.length r.bytes text_inside)
