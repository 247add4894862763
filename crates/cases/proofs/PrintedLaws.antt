-- Laws of what is printed for an input, by the plan that it says and a search of that plan in any buffer. Only the checker need believe
-- this file.
use mathlib.Core.Path.{◌≡◌, sym, ap, ◌∙◌}
use mathlib.Core.List.{List}
use Prim.Native.Nat.{ℕ, ◌≤◌}
use lib.ListN.{length}
use Rattle.network.proofs.Booleans.{leb_yes}
use Rattle.plan.specs.declared.Plan.{Plan}
use Rattle.plan.specs.declared.Refusal.TheVariants as refusal
use Rattle.plan.specs.Refusal.{refusal_number}
use Rattle.plan.specs.Answer.{Answer, fine, refused}
use Rattle.frame.specs.Texts.{refusal_text}
use Rattle.tree.specs.Nodes.{most_bytes, first_nodes}
use Rattle.tree_text.specs.TreeText.{tree_text}
use Rattle.search.specs.Search.{search_fault, search_answer, search_leaves}
use Rattle.search.proofs.SearchTheorems.{fault_is, front_is_tree, answered_exactly, hopeless_exactly}
use Rattle.answer_text.specs.AnswerText.{plan_in, lent, tree_of, plan_answer, answer_text}

-- Of a search of p in xs, however long.
module _ (p : Plan) (xs : List ℕ) where
  answer_fault_lem : {a : Answer ℕ} → search_answer p xs ≡ a → search_fault p xs ≡ a.fault
  answer_fault_lem e = sym (fault_is p xs) ∙ ap (λ (a : Answer ℕ). a.fault) e

  -- where xs has room, what the program lends gets the same number
  same_fault : most_bytes ≤ length xs → search_fault p lent ≡ search_fault p xs
  unfolding search_fault
  same_fault room = rw (leb_yes most_bytes (length xs) room)

  -- ---- It answers n and leaves ys.

  module _ {n : ℕ} {ys : List ℕ} (gives : (search_answer p xs ≡ fine n) × (search_leaves p xs ≡ ys)) where
    found : search_fault p xs ≡ 0
    found = answer_fault_lem gives.0

    found_lent : search_fault p lent ≡ 0
    found_lent = same_fault ((answered_exactly p xs).0 found).0 ∙ found

    same_tree : tree_of p ≡ first_nodes ys n
    same_tree =
        front_is_tree p lent found_lent
        ∙ sym (front_is_tree p xs found)
        ∙ rw (gives.1, ap (λ (a : Answer ℕ). a.value) gives.0)

    -- so, for an input that says p, that tree is made and printed
    module _ (input : List ℕ) (says : plan_in input ≡ fine p) where
      pub makes_tree : tree_of (plan_in input).value ≡ first_nodes ys n
      makes_tree = rw says same_tree

      pub prints_tree : answer_text input ≡ tree_text (first_nodes ys n)
      unfolding answer_text plan_answer
      prints_tree = rw (says, same_tree, fault_is p lent, found_lent)

  -- ---- It says that p is hopeless.

  module _ (refuses : search_answer p xs ≡ refused 0 refusal.Hopeless) where
    lost : search_fault p xs ≡ refusal_number refusal.Hopeless
    lost = answer_fault_lem refuses

    lost_lent : search_fault p lent ≡ refusal_number refusal.Hopeless
    lost_lent = same_fault ((hopeless_exactly p xs).0 lost).0 ∙ lost

    -- so, for an input that says p, 11 is printed
    pub prints_hopeless : (input : List ℕ) → plan_in input ≡ fine p → answer_text input ≡ refusal_text refusal.Hopeless
    unfolding answer_text plan_answer
    prints_hopeless input says = rw (says, fault_is p lent, lost_lent)
