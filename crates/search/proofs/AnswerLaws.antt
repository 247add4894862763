-- Laws of the search's answers: a buffer overwritten, the faults in their order, the tree of an answer, what an answer says. Only the
-- checker need believe this file.
use mathlib.Core.Path.{◌≡◌, refl, sym, ap, ◌∙◌}
use mathlib.Core.Logic.{◌↔◌, by_cases}
use mathlib.Core.Bool.{Bool, true, false, not}
use mathlib.Core.List.{List, [], ◌++◌, append_assoc}
use Prim.Native.Nat.{ℕ, ◌+◌, ◌-◌, ◌*◌, ◌≤◌, ◌<◌}
use native.Mathlib.Omega.{arith}
use native.Mathlib.Decide.{dec_lt}
use lib.Dec.{leb, eqb}
use lib.ListN.{length, take, drop, replicate, length-append, length-drop, length-replicate}
use lib.Seq.{drop-append_seam, take_at, drop_at}
use Rattle.std.specs.Prelude.{Result, Ok, Err}
use Rattle.network.specs.Network.{Network}
use Rattle.network.specs.IsNetwork.{IsNetwork}
use Rattle.network.specs.Strategy.{DynamicallyConsistent}
use Rattle.network.specs.Game.{start}
use Rattle.network.specs.Sizes.{nodes}
use Rattle.network.specs.Search.{first_tree, hopeless}
use Rattle.network.proofs.Booleans.{by_test, leb_yes, leb_no, eqb_is, eqb_no, differs, false_exactly}
use Rattle.network.proofs.TreeStrategy.{wins→shaped}
use Rattle.network.proofs.Theorems.{hopeless_exactly, consistent_decided, first_tree_wins}
use Rattle.plan.specs.declared.Plan.{Plan}
use Rattle.plan.specs.declared.Refusal.{Refusal}
use Rattle.plan.specs.declared.Refusal.TheVariants as refusal
use Rattle.plan.specs.Refusal.{refusal_number}
use Rattle.plan.specs.Answer.{Answer}
use Rattle.plan.specs.Faults.{unless, first}
use Rattle.plan.specs.Plan.{network_of}
use Rattle.plan.specs.WellFormed.{WellFormed}
use Rattle.plan.proofs.AnswerLaws.{first_refused, answered_fine}
use Rattle.plan.proofs.PlanTheorems.{is_network}
use Rattle.plan.proofs.RefusalLaws.{no_refusal, refusal_one_number}
use Rattle.judge.specs.Judge.{plan_fault}
use Rattle.judge.proofs.WellFormedLaws.{fine_exactly, two_to_four}
use Rattle.tree.specs.Nodes.{most_bytes, overwritten}
use Rattle.tree.specs.Trees.{tree_bytes, Describes}
use Rattle.tree.proofs.NodeLaws.{IsLegal, legal_is}
use Rattle.tree.proofs.TreeLaws.{tree_length}
use Rattle.checker.proofs.FaultLaws.{described_legal}
use Rattle.search.specs.Search.{search_fault, search_answer, search_leaves}
use Rattle.search.specs.Searched.{searched_answer}

-- ---- a buffer overwritten

-- bytes, then zeros up to byte n, then the rest
module _ (n : ℕ) (bytes rest : List ℕ) where
  abbrev zeros : List ℕ
  zeros = replicate (n - length bytes) 0

  tail_zeros : take (n - length bytes) (drop (length bytes) (bytes ++ (zeros ++ rest))) ≡ zeros
  tail_zeros = rw (drop-append_seam bytes (zeros ++ rest)) (take_at zeros rest (n - length bytes) (length-replicate (n - length bytes) 0))

  module _ (fit : length bytes ≤ n) where
    front_length : length (bytes ++ zeros) ≡ n
    front_length = rw (length-append bytes zeros, length-replicate) (omega arith)

    past_zeros : drop n (bytes ++ (zeros ++ rest)) ≡ rest
    past_zeros = rw (← append_assoc bytes zeros rest) (drop_at (bytes ++ zeros) rest n front_length)

    whole_length : length (bytes ++ (zeros ++ rest)) ≡ n + length rest
    whole_length = rw (← append_assoc bytes zeros rest, length-append (bytes ++ zeros) rest, front_length)

module _ (bytes xs : List ℕ) where
  pub overwritten_tail :
      take (most_bytes - length bytes) (drop (length bytes) (overwritten bytes xs)) ≡ replicate (most_bytes - length bytes) 0
  overwritten_tail = tail_zeros most_bytes bytes (drop most_bytes xs)

  module _ (fit : length bytes ≤ most_bytes) where
    pub overwritten_past : drop most_bytes (overwritten bytes xs) ≡ drop most_bytes xs
    overwritten_past = past_zeros most_bytes bytes (drop most_bytes xs) fit

    pub overwritten_length : most_bytes ≤ length xs → length (overwritten bytes xs) ≡ length xs
    overwritten_length room = whole_length most_bytes bytes (drop most_bytes xs) fit ∙ rw (length-drop most_bytes xs) (omega arith)

module _ (p : Plan) (xs : List ℕ) where
  abbrev net : Network
  net = network_of p

  abbrev bytes : List ℕ
  bytes = tree_bytes net (first_tree net)

  -- ---- the faults in their order

  -- those behind the buffer's
  abbrev later : ℕ
  later = first (plan_fault p) (unless (not (hopeless net)) refusal.Hopeless)

  by_room : (b : Bool) → leb most_bytes (length xs) ≡ b → search_fault p xs ≡ first (unless b refusal.Buffer) later
  unfolding search_fault
  by_room b t = ap (λ (c : Bool). first (unless c refusal.Buffer) later) t

  pub short_fault_lem : length xs < most_bytes → search_fault p xs ≡ refusal_number refusal.Buffer
  unfolding unless
  short_fault_lem lt = by_room false (leb_no most_bytes (length xs) (λ le. omega arith)) ∙ first_refused refusal.Buffer later

  behind_room : most_bytes ≤ length xs → search_fault p xs ≡ later
  unfolding unless first
  behind_room room = by_room true (leb_yes most_bytes (length xs) room)

  pub plan_fault_lem : most_bytes ≤ length xs → ¬ WellFormed p → search_fault p xs ≡ plan_fault p
  unfolding first
  plan_fault_lem room n = behind_room room ∙ rw (eqb_no (plan_fault p) 0 (λ e. n ((fine_exactly p).0 e)))

  behind_plan : most_bytes ≤ length xs → WellFormed p → search_fault p xs ≡ unless (not (hopeless net)) refusal.Hopeless
  unfolding first
  behind_plan room wf = behind_room room ∙ rw ((fine_exactly p).1 wf)

  not_hopeless : WellFormed p → DynamicallyConsistent net → hopeless net ≡ false
  not_hopeless wf c = (false_exactly (hopeless_exactly net (is_network p wf))).1 (λ n. n c)

  pub hopeless_fault :
      most_bytes ≤ length xs → WellFormed p → ¬ DynamicallyConsistent net → search_fault p xs ≡ refusal_number refusal.Hopeless
  unfolding unless
  hopeless_fault room wf n = behind_plan room wf ∙ rw ((hopeless_exactly net (is_network p wf)).1 n)

  pub no_fault : most_bytes ≤ length xs → WellFormed p → DynamicallyConsistent net → search_fault p xs ≡ 0
  unfolding unless
  no_fault room wf c = behind_plan room wf ∙ rw (not_hopeless wf c)

  -- the fault by cases, each with its reason
  pub by_fault :
      {C : Type 0} → (length xs < most_bytes → search_fault p xs ≡ refusal_number refusal.Buffer → C) →
      (2 ≤ search_fault p xs → search_fault p xs ≤ 4 → C) →
      (most_bytes ≤ length xs → WellFormed p → ¬ DynamicallyConsistent net → search_fault p xs ≡ refusal_number refusal.Hopeless → C) →
      (most_bytes ≤ length xs → WellFormed p → DynamicallyConsistent net → search_fault p xs ≡ 0 → C) → C
  by_fault {C} short faulty lost won =
      by_cases (dec_lt (length xs) most_bytes)
      (λ lt. short lt (short_fault_lem lt))
      (λ ge. let room : most_bytes ≤ length xs = omega arith in by_test (eqb (plan_fault p) 0) (judged room) (refused room))
    where
      judged : most_bytes ≤ length xs → eqb (plan_fault p) 0 ≡ true → C
      judged room y =
          let wf = (fine_exactly p).0 (eqb_is (plan_fault p) 0 y) in
          by_cases (consistent_decided net (is_network p wf))
          (λ c. won room wf c (no_fault room wf c))
          (λ n. lost room wf n (hopeless_fault room wf n))

      refused : most_bytes ≤ length xs → eqb (plan_fault p) 0 ≡ false → C
      refused room z =
          let n : ¬ WellFormed p = λ wf. differs (plan_fault p) 0 z ((fine_exactly p).1 wf) in
          let f = plan_fault_lem room n in
          let r = two_to_four p n in
          faulty (omega arith) (omega arith)

  -- ---- no fault, and hopeless

  -- what is behind an answer without a fault
  pub record Answered : Type 0 where
    pub room : most_bytes ≤ length xs
    pub well_formed : WellFormed p
    pub consistent : DynamicallyConsistent net
    pub is_net : IsNetwork net
    pub not_lost : hopeless net ≡ false
    pub described : Describes net bytes (first_tree net)
    pub legal : IsLegal (length bytes)
    pub fit : length bytes ≤ most_bytes
    pub counted : (search_answer p xs).value ≡ nodes net (first_tree net)
    pub three_each : length bytes ≡ 3 * (search_answer p xs).value

  pub answered_so : search_fault p xs ≡ 0 → Answered
  answered_so e =
      by_fault
      (λ lt f. absurd (omega arith))
      (λ low high. absurd (omega arith))
      (λ room wf n f. absurd (omega arith))
      behind
    where
      behind : most_bytes ≤ length xs → WellFormed p → DynamicallyConsistent net → search_fault p xs ≡ 0 → Answered
      behind room wf c f =
          let t = first_tree net in
          let is_net = is_network p wf in
          let z = not_hopeless wf c in
          let d : Describes net bytes t
          = record { shaped = wins→shaped net is_net t (start net) (first_tree_wins net is_net z); all_bytes = refl } in
          let legal = legal_is (length bytes) (described_legal p wf bytes t d) in
          let counted = ap (λ (x : Answer ℕ). x.value) (answered_fine 0 (search_fault p xs) (nodes net t) f) in
          record {
            room = room;
            well_formed = wf;
            consistent = c;
            is_net = is_net;
            not_lost = z;
            described = d;
            legal = legal;
            fit = omega arith;
            counted = counted;
            three_each = tree_length net t ∙ ap (λ (n : ℕ). 3 * n) (sym counted);
          }

  pub hopeless_so :
      search_fault p xs ≡ refusal_number refusal.Hopeless → (most_bytes ≤ length xs) × WellFormed p × (¬ DynamicallyConsistent net)
  hopeless_so e =
      by_fault
      (λ lt f. absurd (omega arith))
      (λ low high. absurd (omega arith))
      (λ room wf n f. (room, wf, n))
      (λ room wf c f. absurd (omega arith))

  -- ---- the buffer

  -- what holds of each thing that may be left in it holds of what is left
  pub leaves_of :
      (P : List ℕ → Type 0) → (search_fault p xs ≡ 0 → P (overwritten bytes xs)) →
      (search_fault p xs ≡ refusal_number refusal.Hopeless → P (overwritten [] xs)) → P xs → P (search_leaves p xs)
  unfolding search_leaves
  leaves_of P tree zeros same =
      let n = search_fault p xs in
      let lost = refusal_number refusal.Hopeless in
      by_test (eqb n 0)
      (λ y. rw y (tree (eqb_is n 0 y)))
      (λ z. rw z (by_test (eqb n lost) (λ y. rw y (zeros (eqb_is n lost y))) (λ z'. rw z' same)))

-- ---- what an answer says

refused_so : (r : Result ℕ Refusal) (f : Refusal) → (searched_answer r).fault ≡ refusal_number f → r ≡ Err f
refused_so (Ok n) f e = absurd (no_refusal f (sym e))
refused_so (Err q) f e = ap Err (refusal_one_number q f e)

nodes_so : (r : Result ℕ Refusal) → (searched_answer r).fault ≡ 0 → r ≡ Ok (searched_answer r).value
nodes_so (Ok n) e = refl
nodes_so (Err f) e = absurd (no_refusal f e)

module _ (r : Result ℕ Refusal) {a : Answer ℕ} (e : searched_answer r ≡ a) where
  said_fault : (searched_answer r).fault ≡ a.fault
  said_fault = ap (λ (x : Answer ℕ). x.fault) e

  said_value : (searched_answer r).value ≡ a.value
  said_value = ap (λ (x : Answer ℕ). x.value) e

  pub said_refused : (f : Refusal) → (r ≡ Err f) ↔ (a.fault ≡ refusal_number f)
  said_refused f = (
    λ q. sym said_fault ∙ ap (λ (x : Result ℕ Refusal). (searched_answer x).fault) q,
    λ h. refused_so r f (said_fault ∙ h),
  )

  pub said_nodes : (n : ℕ) → (r ≡ Ok n) ↔ ((a.fault ≡ 0) × (a.value ≡ n))
  said_nodes n = (
    λ q. (
      sym said_fault ∙ ap (λ (x : Result ℕ Refusal). (searched_answer x).fault) q,
      sym said_value ∙ ap (λ (x : Result ℕ Refusal). (searched_answer x).value) q,
    ),
    λ h. nodes_so r (said_fault ∙ h.0) ∙ ap Ok (said_value ∙ h.1),
  )
