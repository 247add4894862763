-- Laws that the proofs of the code cite: a text at the front of blank bytes, what the search and the reading say. Only the checker need
-- believe this file.
use Rattle.std.specs.Prelude.{Result, Ok, Err}
use mathlib.Core.Path.{◌≡◌, refl, sym, ap, ◌∙◌}
use mathlib.Core.Bool.{true}
use mathlib.Core.List.{List, ◌++◌}
use Rattle.std.specs.Prelude.{Result, Ok, Err}
use Prim.Native.Nat.{ℕ, ◌+◌, ◌-◌, ◌*◌, ◌≤◌, min}
use mathlib.Core.Logic.{by_cases}
use native.Mathlib.Decide.{dec_lt}
use native.Mathlib.Omega.{arith}
use native.Mathlib.Nat.{zero-add}
use borrow.Author.Tests.{le-leb}
use lib.ListN.{length, take, drop, replicate, length-replicate, replicate-append-replicate}
use lib.Seq.{sets-eq, drop_at, length-take-le, take_all}
use Rattle.plan.specs.declared.Plan.{Plan}
use Rattle.plan.specs.declared.Refusal.{Refusal}
use Rattle.plan.specs.Refusal.{refusal_number}
use Rattle.plan.specs.Answer.{Answer, fine, refused}
use Rattle.plan.specs.Faults.{filled, put_at}
use Rattle.plan.proofs.RefusalLaws.{no_refusal, some_number}
use Rattle.frame.specs.Frame.{fault_text}
use Rattle.frame.specs.Texts.{refusal_text}
use Rattle.frame.specs.Written.{written_answer}
use Rattle.frame.proofs.RunLaws.{filled_is}
use Rattle.tree.specs.Nodes.{most_bytes, legal_length}
use Rattle.tree.proofs.NodeLaws.{legal_make}
use Rattle.plan_text.specs.PlanRead.{plan_read_answer}
use Rattle.tree_text.specs.TreeText.{tree_text}
use Rattle.tree_text.specs.WriteTree.{write_tree, write_tree_leaves}
use Rattle.tree_text.proofs.TreeTextLaws.{writes}
use Rattle.tree_text.proofs.TreeTextTheorems.{at_most_1724}
use Rattle.search.specs.Search.{search_answer, search_leaves}
use Rattle.search.specs.Searched.{searched_answer}
use Rattle.search.proofs.SearchTheorems.{count_bounds, same_length, fault_is}
use Rattle.answer_text.specs.AnswerText.{plan_in, lent, plan_answer, answer_text}
use Rattle.answer_text.specs.Holding.{holding}

-- ---- a text at the front of blank bytes

abbrev pub blank : ℕ → List ℕ
blank n = replicate n 0

pub blank_length : (n : ℕ) → length (blank n) ≡ n
blank_length n = length-replicate n 0

module _ (size : ℕ) (text : List ℕ) (fits : length text ≤ size) where
  abbrev behind : List ℕ
  behind = blank (size - length text)

  put_behind : (xs : List ℕ) → xs ≡ blank size → text ++ drop (length text) xs ≡ text ++ behind
  put_behind xs e =
      let n = length text in
      let sum : size ≡ n + (size - n) = omega arith in
      let split : blank size ≡ blank n ++ behind = ap blank sum ∙ sym (replicate-append-replicate n (size - n) 0) in
      ap (λ (ys : List ℕ). text ++ drop n ys) (e ∙ split) ∙ ap (λ (ys : List ℕ). text ++ ys) (drop_at (blank n) behind n (blank_length n))

  pub filled_blank : (xs : List ℕ) → xs ≡ blank size → filled 0 text xs ≡ text ++ behind
  filled_blank xs e = filled_is text xs ∙ put_behind xs e

  pub put_blank : (xs : List ℕ) → xs ≡ blank size → put_at xs 0 text ≡ text ++ behind
  put_blank xs e =
      let long : length xs ≡ size = ap length e ∙ blank_length size in
      let room : 0 + length text ≤ length xs = omega arith in
      rw (le-leb (0 + length text) (length xs) room) (sets-eq text xs 0 room ∙ rw zero-add (put_behind xs e))

held :
    (text ys : List ℕ) (n : ℕ) → n ≡ length text → ys ≡ text ++ blank (1724 - length text) →
    record { bytes = ys; length = n } ≡ holding text
held text ys n m e = cc

-- ---- the frame of a refusal

pub refusal_held :
    (r : Refusal) (n : ℕ) (xs ys : List ℕ) → n ≡ refusal_number r → xs ≡ blank 1724 → ys ≡ put_at xs 0 (fault_text n) →
    record { bytes = ys; length = 5 } ≡ holding (refusal_text r)
refusal_held r n xs ys e zeros put =
    held (refusal_text r) ys 5 refl
    (put ∙ ap (λ (k : ℕ). put_at xs 0 (fault_text k)) e ∙ put_blank 1724 (refusal_text r) (omega arith) xs zeros)

-- ---- the text of a tree

module _ (bs xs : List ℕ) (legal : legal_length (length bs) ≡ true) (zeros : xs ≡ blank 1724) where
  written_fine : write_tree bs xs ≡ fine (length (tree_text bs))
  written_fine =
      let most = at_most_1724 bs legal in
      let long : length xs ≡ 1724 = ap length zeros ∙ blank_length 1724 in
      writes bs xs legal (omega arith)

  pub tree_held :
      (n : ℕ) (ys : List ℕ) → written_answer (Ok n) ≡ write_tree bs xs → ys ≡ write_tree_leaves bs xs →
      record { bytes = ys; length = n } ≡ holding (tree_text bs)
  tree_held n ys said left =
      held (tree_text bs) ys n (ap (λ (a : Answer ℕ). a.value) (said ∙ written_fine))
      (left
      ∙ ap (λ (a : Answer ℕ). filled a.fault (tree_text bs) xs) written_fine
      ∙ filled_blank 1724 (tree_text bs) (at_most_1724 bs legal) xs zeros)

  pub never_refused : (r : Refusal) → written_answer (Err r) ≡ write_tree bs xs → ⊥
  never_refused r said = no_refusal r (ap (λ (a : Answer ℕ). a.fault) (said ∙ written_fine))

-- ---- what is printed for a plan, where the search said r and left ys

module _ (p : Plan) (r : Result ℕ Refusal) (said : searched_answer r ≡ search_answer p lent) (ys : List ℕ) (left : ys ≡ search_leaves p lent) where
  module _ (n : ℕ) (e : r ≡ Ok n) where
    answer : fine n ≡ search_answer p lent
    answer = sym (ap searched_answer e) ∙ said

    bounds : (1 ≤ n) × (n ≤ 191)
    bounds =
        let no_fault = sym (ap (λ (a : Answer ℕ). a.fault) answer ∙ fault_is p lent) in
        let counted = ap (λ (a : Answer ℕ). a.value) answer in
        let b = count_bounds p lent no_fault in
        (omega arith, omega arith)

    pub nodes_fit : 3 * n ≤ length ys
    nodes_fit =
        let b = bounds in
        let long : length ys ≡ most_bytes = ap length left ∙ same_length p lent ∙ blank_length most_bytes in
        omega arith

    pub nodes_long : length (take (3 * n) ys) ≡ 3 * n
    nodes_long = length-take-le (3 * n) ys nodes_fit

    pub nodes_legal : legal_length (length (take (3 * n) ys)) ≡ true
    nodes_legal = rw nodes_long (legal_make n bounds.0 bounds.1)

    pub tree_printed : tree_text (take (3 * n) ys) ≡ plan_answer p
    unfolding plan_answer
    tree_printed = rw (left, ← answer)

  pub search_refused : (f : Refusal) → r ≡ Err f → refusal_text f ≡ plan_answer p
  unfolding plan_answer
  search_refused f e =
      let answer : refused 0 f ≡ search_answer p lent = sym (ap searched_answer e) ∙ said in
      rw (← answer, some_number f)

-- ---- what is printed for an input, where reading its first k bytes said r

module _ (s : List ℕ) (r : Result Plan Refusal) (said : plan_read_answer r ≡ plan_in s) where
  pub text_refused : (f : Refusal) → r ≡ Err f → refusal_text f ≡ answer_text s
  unfolding answer_text
  text_refused f e =
      let fault : refusal_number f ≡ (plan_in s).fault = ap (λ (a : Answer Plan). a.fault) (sym (ap plan_read_answer e) ∙ said) in
      rw (← fault, some_number f)

  pub text_read : (p : Plan) → r ≡ Ok p → plan_answer p ≡ answer_text s
  unfolding answer_text
  text_read p e =
      let is : fine p ≡ plan_in s = sym (ap plan_read_answer e) ∙ said in
      rw (← is)

-- as many bytes of an input are judged as there are, 1,026 at most
pub part_judged : (s : List ℕ) → take (min (length s) 1026) s ≡ take 1026 s
part_judged s =
    by_cases (dec_lt (length s) 1026)
    (λ lt. let few : min (length s) 1026 ≡ length s = omega arith in
    ap (λ (k : ℕ). take k s) few ∙ take_all (length s) s (omega arith) ∙ sym (take_all 1026 s (omega arith)))
    (λ ge. let many : min (length s) 1026 ≡ 1026 = omega arith in ap (λ (k : ℕ). take k s) many)
