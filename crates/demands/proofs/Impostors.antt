-- Impostors: planners that document 01 won't take, and more. None meets demand 3; a comment says which part of it each one breaks. Read
-- the planners and the statements; only the checker need believe the proofs.
use Rattle.std.specs.Prelude.{Result, Ok, Err}
use mathlib.Core.Path.{◌≡◌, refl, sym, ap, ◌∙◌, subst}
use mathlib.Core.Logic.{inl, inr}
use mathlib.Core.List.{List, [], ◌∷◌}
use mathlib.Core.Bool.{true, false, cond}
use Prim.Native.Nat.{ℕ, zero, suc, ◌≤◌, ◌<◌}
use native.Mathlib.Omega.{arith}
use lib.Bits.{bit_and}
use lib.Dec.{leb, eqb}
use lib.ListN.{length, get_or, replicate}
use Rattle.network.specs.Mask.{mask}
use Rattle.network.specs.Network.{condition, keeps}
use Rattle.network.specs.Strategy.{DynamicallyConsistent}
use Rattle.network.specs.Game.{start, Move, hears}
use Rattle.network.specs.Search.{first_tree}
use Rattle.network.specs.Crew.{Step, times_performed, slot_by_steps, value_by_steps, Some, Hears, HeardAlike, ToldAlike}
use Rattle.network.proofs.Booleans.{clash, and_left, ltb_is}
use Rattle.plan.specs.declared.Plan.{Plan}
use Rattle.plan.specs.declared.Refusal.{Refusal}
use Rattle.plan.specs.declared.Refusal.TheVariants as refusal
use Rattle.plan.specs.Refusal.{refusal_number}
use Rattle.plan.specs.Answer.{Answer, fine}
use Rattle.plan.specs.Faults.{unless, first}
use Rattle.plan.specs.Plan.{network_of}
use Rattle.plan.specs.Letters.{heard_by}
use Rattle.plan.specs.WellFormed.{WellFormed}
use Rattle.plan.proofs.Cases.{letter, constraint, plan, one_point}
use Rattle.masks.specs.Masks.{inside}
use Rattle.judge.specs.Judge.{plan_fault}
use Rattle.judge.proofs.WellFormedLaws as judge
use Rattle.tree.specs.Nodes.{most_bytes, first_nodes, overwritten}
use Rattle.tree.specs.Trees.{tree_bytes}
use Rattle.checker.proofs.Cases.{never}
use Rattle.search.specs.Searched.{searched_answer}
use Rattle.search.specs.Search.{search_fault, search_answer, search_leaves}
use Rattle.search.proofs.SearchTheorems.{first_moves, fine_exactly}
use Rattle.search.proofs.Cases.{computing}
use Rattle.run.specs.declared.History.{History}
use Rattle.run.specs.declared.Shown.{Shown}
use Rattle.run.specs.declared.Shown.TheVariants as shown
use Rattle.run.specs.History.{history_of, empty_history, longer, reports_in}
use Rattle.run.specs.Run.{told_from, show_answer, report_fault, report_answer}
use Rattle.run.specs.Told.{Told, instruct, complete, refuse, shown_told}
use Rattle.run.proofs.ToldLaws.{refused_is_not}
use Rattle.run.proofs.Cases.{move}
use Rattle.following.specs.Calls.{Run, Call, reporting}
use Rattle.following.specs.ThisRun.{the_run}
use Rattle.following.proofs.Cases.{calling, step}
use Rattle.demands.specs.Planner.{Planner}
use Rattle.demands.specs.Crews.{AlwaysAnswers, Made, reported, Answered, accepted_in, held_after, Crew}
use Rattle.demands.specs.Demand3.{Hopeless, EveryCrew, Demand3For, Demand3}
use Rattle.demands.proofs.OtherPlanners.{searching, running}
use Rattle.demands.proofs.ListLaws.{steps_after, told_after, EveryList, EveryTwoLists}
use Rattle.demands.proofs.SaidLaws.{list_of, two_lists_of, crew_of}

-- ---- What the refutations share

-- a lent buffer: 573 bytes, none of them a byte of the trees below
abbrev lent : List ℕ
lent = replicate 573 9

room : most_bytes ≤ length lent
room = omega arith

-- who is refused is not done
not_done : {t : Told} {n : ℕ} → t ≡ refuse n → t ≡ complete → ⊥
not_done r c = let z : ◌≡◌ {A = ℕ} 0 1 = cc in omega arith

-- what demand 3 says of a plan that got n nodes, and of lists of calls over the tree that was made of it
module _ (P : Planner) (d : Demand3 P) (p : Plan) (wf : WellFormed p) (n : ℕ) (got : P.searches p lent ≡ fine n) where
  abbrev made : List ℕ
  made = first_nodes (P.leaves p lent) n

  got_tree : Demand3For P.run p lent (Ok n) (P.leaves p lent)
  got_tree = (d p lent wf room).1 (Ok n) (P.leaves p lent) (record { answer = sym got; buffer = refl })

  said : AlwaysAnswers P.run p made
  said = got_tree.always_answers n refl

  every_list : (calls : List Call) → EveryList P.run p made calls
  every_list calls = list_of P.run p made said calls (got_tree.every_crew n refl (crew_of P.run p made said calls))

  every_two_lists : EveryTwoLists P.run p made
  every_two_lists = two_lists_of P.run p made said (got_tree.every_two_crews n refl)

  -- The walk breaks where the tree that was made is refused: the crew is not done, and its history cannot be lengthened.
  no_walk : (k : ℕ) → told_after P.run p made [] ≡ refuse k → ⊥
  no_walk k r = refused_is_not (sym r ∙ ((every_list []).goes_on (not_done r)).is_told)

-- a report that gets this fault: without one the longer history is handed back, else the one that was given
abbrev reported_by : ℕ → History → ℕ → Answer History
reported_by n h o = record { fault = n; value = cond (eqb n 0) (longer h o) h }

-- ---- K1: horizon 3, one point, nothing else

abbrev k1 : Plan
k1 = one_point []

abbrev k1_bytes : List ℕ
k1_bytes = 0 ∷ 1 ∷ 0 ∷ []

k1_fine : WellFormed k1
unfolding computing
k1_fine = (judge.fine_exactly k1).0 refl

k1_answer : (search_fault k1 lent ≡ 0) × (search_answer k1 lent ≡ fine 1) × (tree_bytes (network_of k1) (first_tree (network_of k1)) ≡ k1_bytes)
unfolding computing
k1_answer = (refl, refl, refl)

k1_consistent : DynamicallyConsistent (network_of k1)
k1_consistent = (fine_exactly k1 lent k1_fine room).0 k1_answer.0

-- ---- A search that calls every plan hopeless, once buffer and plan are judged. It breaks part 1, "exactly when": K1 has a strategy.

-- 10, then 2, 3, 4, then always 11
abbrev no_hope : Plan → List ℕ → ℕ
no_hope p xs = first (unless (leb most_bytes (length xs)) refusal.Buffer) (first (plan_fault p) (refusal_number refusal.Hopeless))

abbrev zeros_under11 : Plan → List ℕ → List ℕ
zeros_under11 p xs = cond (eqb (no_hope p xs) (refusal_number refusal.Hopeless)) (overwritten [] xs) xs

abbrev pub always_hopeless : Planner
always_hopeless = searching (λ p xs. record { fault = no_hope p xs; value = 0 }) zeros_under11 the_run

pub always_hopeless_fails : ¬ Demand3 always_hopeless
unfolding computing
always_hopeless_fails d =
    ((d k1 lent k1_fine room).1 (Err refusal.Hopeless) (overwritten [] lent) (record { answer = refl; buffer = refl })
    ).hopeless_exactly.0 refl k1_consistent

-- .. with a number of nodes beside it, which no answer has: then nothing is handed back of which part 1 could be said, and that is asked.

abbrev pub hopeless_with_nodes : Planner
hopeless_with_nodes = searching (λ p xs. record { fault = no_hope p xs; value = 1 }) zeros_under11 the_run

no_such_answer : (r : Result ℕ Refusal) → ¬ (searched_answer r ≡ record { fault = 11; value = 1 })
no_such_answer (Ok n) e = let z : ◌≡◌ {A = ℕ} 0 11 = ap (λ (a : Answer ℕ). a.fault) e in omega arith
no_such_answer (Err r) e = let z : ◌≡◌ {A = ℕ} 0 1 = ap (λ (a : Answer ℕ). a.value) e in omega arith

pub hopeless_with_nodes_fails : ¬ Demand3 hopeless_with_nodes
unfolding computing
hopeless_with_nodes_fails d = let (r, left, by) = (d k1 lent k1_fine room).0 in no_such_answer r by.answer

-- ---- A search that says 11 before looking, at any plan or buffer. It breaks part 1 too: of K1 it says hopeless, which has a strategy.

abbrev pub before_looking : Planner
before_looking =
    searching (λ p xs. record { fault = refusal_number refusal.Hopeless; value = 0 }) (λ p xs. overwritten [] xs) the_run

pub before_looking_fails : ¬ Demand3 before_looking
before_looking_fails d =
    ((d k1 lent k1_fine room).1 (Err refusal.Hopeless) (overwritten [] lent) (record { answer = refl; buffer = refl })
    ).hopeless_exactly.0 refl k1_consistent

-- ---- A search that leaves the buffer alone. It breaks part 3: the bytes are not those of K1's tree.

abbrev pub buffer_alone : Planner
buffer_alone = searching search_answer (λ p xs. xs) the_run

not_hopeless : (n : ℕ) → ¬ Hopeless (Ok n)
not_hopeless n e = let z : ◌≡◌ {A = ℕ} 0 1 = cc in omega arith

pub buffer_alone_fails : ¬ Demand3 buffer_alone
buffer_alone_fails d =
    let gets = (got_tree buffer_alone d k1 k1_fine 1 k1_answer.1).gets_tree (not_hopeless 1) (first_tree (network_of k1)) (first_moves k1 lent k1_answer.0) in
    let same : lent ≡ overwritten k1_bytes lent = gets.1 ∙ ap (λ (x : List ℕ). overwritten x lent) k1_answer.2 in
    let z : ◌≡◌ {A = ℕ} 9 0 = ap (λ (x : List ℕ). get_or x 0 0) same in
    omega arith

-- .. and the walk, part 4: over the bytes that were lent the crew is refused at once.
buffer_alone_told : told_after the_run k1 (first_nodes lent 1) [] ≡ refuse 6
unfolding calling
buffer_alone_told = refl

pub buffer_alone_fails_walking : ¬ Demand3 buffer_alone
buffer_alone_fails_walking d =
    no_walk buffer_alone d k1 k1_fine 1 k1_answer.1 6 buffer_alone_told

-- ---- A search that hands out the same tree each time. It breaks the walk, part 4: where that tree breaks a constraint of the plan that
-- was handed in, the crew is refused at once, so it is not done and cannot go on.

abbrev pub same_tree : Planner
same_tree = searching (λ p xs. fine 1) (λ p xs. overwritten k1_bytes xs) the_run

-- one point and decision 0 at it, which must be true
abbrev decided : Plan
decided = plan 3 1 (letter 0 1 ∷ []) (never 0 ∷ [])

decided_fine : WellFormed decided
unfolding computing
decided_fine = (judge.fine_exactly decided).0 refl

same_tree_told : told_after the_run decided k1_bytes [] ≡ refuse 7
unfolding calling
same_tree_told = refl

pub same_tree_fails : ¬ Demand3 same_tree
same_tree_fails d = no_walk same_tree d decided decided_fine 1 refl 7 same_tree_told

-- .. even where its run doesn't check the tree: then it breaks part 5, as the crew is led past that plan's constraint.
abbrev told_unchecked : Plan → List ℕ → History → Told
told_unchecked p tree h = told_from p (start (network_of p)) tree (reports_in h)

abbrev unchecked : Run
unchecked =
    record { shows = told_unchecked; reports = λ p tree h o. reported_by (report_fault p (told_unchecked p tree h) o) h o }

abbrev pub same_tree_unchecked : Planner
same_tree_unchecked = searching (λ p xs. fine 1) (λ p xs. overwritten k1_bytes xs) unchecked

abbrev unchecked_steps : List Step
unchecked_steps = step (move 0 1 0) 0 ∷ []

unchecked_run :
    (steps_after unchecked decided k1_bytes (reporting 0 ∷ []) ≡ unchecked_steps)
    × (told_after unchecked decided k1_bytes (reporting 0 ∷ []) ≡ complete)
unfolding calling
unchecked_run = (refl, refl)

unchecked_breaks :
    keeps (network_of decided) (slot_by_steps unchecked_steps) (value_by_steps (network_of decided) unchecked_steps) ≡ false
unfolding calling slot_by_steps value_by_steps
unchecked_breaks = refl

pub same_tree_unchecked_fails : ¬ Demand3 same_tree_unchecked
same_tree_unchecked_fails d =
    let all = every_list same_tree_unchecked d decided decided_fine 1 refl (reporting 0 ∷ []) in
    let kept = all.constraints_held unchecked_run.1 in
    clash (rw unchecked_run.0 at kept) unchecked_breaks

-- ---- A search whose number of nodes doesn't match the bytes. It breaks the walk, part 4: the tree earns 6.

abbrev pub wrong_count : Planner
wrong_count =
    searching (λ p xs. record { fault = (search_answer p xs).fault; value = suc (search_answer p xs).value }) search_leaves the_run

wrong_count_says : (wrong_count.searches k1 lent ≡ fine 2) × (told_after the_run k1 (first_nodes (search_leaves k1 lent) 2) [] ≡ refuse 6)
unfolding computing calling
wrong_count_says = (refl, refl)

pub wrong_count_fails : ¬ Demand3 wrong_count
wrong_count_fails d =
    no_walk wrong_count d k1 k1_fine 2 wrong_count_says.0 6 wrong_count_says.1

-- ---- A run that says done early. It breaks part 5: after no call at all it is done, and point 0 was never performed.

abbrev pub done_early : Planner
done_early = running (record { shows = λ p tree h. complete; reports = report_answer })

pub done_early_fails : ¬ Demand3 done_early
unfolding calling times_performed
done_early_fails d =
    let all = every_list done_early d k1 k1_fine 1 k1_answer.1 [] in
    let z : ◌≡◌ {A = ℕ} 0 1 = all.performed_once refl 0 (omega arith) in
    omega arith

-- ---- A run that tells the whole path at its first report and merely repeats later. That report may name any of the plan's conditions,
-- heard in that move or not; the path is then the one of this scenario, whatever the later reports say. It breaks part 6: two crews that
-- heard alike before a slot are told different things in it. (It breaks part 4 too: its first report may name what is not heard there.)

-- the history behind the next instruction, and behind the next n, where this scenario comes
abbrev foreseen : Plan → ℕ → History → Told → History
foreseen p cs h (instruct m) = longer h (bit_and cs (heard_by p m.points))
foreseen p cs h complete = h
foreseen p cs h (refuse n) = h

unfoldable pub foresee : Plan → List ℕ → ℕ → ℕ → History → History
foresee p tree zero cs h = h
foresee p tree (suc n) cs h = foresee p tree n cs (foreseen p cs h (show_answer p tree h))

-- what it tells: the instruction that comes after as many reports where the scenario is the first report
abbrev told_ahead : Plan → List ℕ → History → Told
told_ahead p tree h = show_answer p tree (foresee p tree h.count (get_or h.masks 0 0) empty_history)

-- the first report may name any condition; a later one is judged as ever
abbrev fault_ahead : Plan → List ℕ → History → ℕ → ℕ
fault_ahead p tree h o =
    let whole = unless (inside o (mask 6 (condition (network_of p)))) refusal.Mask in
    let one = report_fault p (told_ahead p tree h) o in
    cond (eqb h.count 0) whole one

abbrev ahead : Run
ahead = record { shows = told_ahead; reports = λ p tree h o. reported_by (fault_ahead p tree h o) h o }

abbrev pub whole_path : Planner
whole_path = running ahead

-- K4 with a free point before its two: condition 0 at point 1; where it is true, point 2 at most 1 after point 1, else at least 2 after it
abbrev late : Plan
late = plan 3 3 (letter 1 0 ∷ []) (constraint 1 2 1 1 1 ∷ constraint 2 1 65534 1 0 ∷ [])

abbrev late_tree : List ℕ
late_tree = 0 ∷ 1 ∷ 0 ∷ 1 ∷ 2 ∷ 0 ∷ 3 ∷ 4 ∷ 0 ∷ 2 ∷ 4 ∷ 0 ∷ []

late_fine : WellFormed late
unfolding computing
late_fine = (judge.fine_exactly late).0 refl

late_made : (search_answer late lent ≡ fine 4) × (first_nodes (search_leaves late lent) 4 ≡ late_tree)
unfolding computing
late_made = (refl, refl)

-- Two crews: the first report of one says that condition 0 is false, that of the other that it is true. Both hear of it at point 1, and
-- both report there that it is false.
abbrev false_first : List Call
false_first = reporting 0 ∷ reporting 0 ∷ reporting 0 ∷ []

abbrev true_first : List Call
true_first = reporting 1 ∷ reporting 0 ∷ reporting 0 ∷ []

abbrev false_steps : List Step
false_steps = step (move 0 1 0) 0 ∷ step (move 1 2 0) 0 ∷ step (move 3 4 0) 0 ∷ []

abbrev true_steps : List Step
true_steps = step (move 0 1 0) 1 ∷ step (move 1 2 0) 0 ∷ step (move 2 4 0) 0 ∷ []

both_done : (told_after ahead late late_tree false_first ≡ complete) × (told_after ahead late late_tree true_first ≡ complete)
unfolding calling foresee
both_done = (refl, refl)

both_steps :
    (steps_after ahead late late_tree false_first ≡ false_steps) × (steps_after ahead late late_tree true_first ≡ true_steps)
unfolding calling foresee
both_steps = (refl, refl)

-- the first move hears nothing
nothing_heard : (l : ℕ) → hears (network_of late) (move 0 1 0) l ≡ true → ⊥
unfolding calling
nothing_heard zero e = clash e refl
nothing_heard (suc l) e = let z : suc l < 1 = ltb_is (suc l) 1 (and_left _ _ (and_left _ _ e)) in omega arith

-- before slot 2 they heard alike ..
heard_alike : HeardAlike (network_of late) false_steps true_steps 2
unfolding Some
heard_alike l v = (there, back)
  where
    there : Some (Hears (network_of late) 2 l v) false_steps → Some (Hears (network_of late) 2 l v) true_steps
    there (inl h) = absurd (nothing_heard l h.1)
    there (inr (inl h)) = inr (inl h)
    there (inr (inr (inl h))) = let z : 3 < 2 = h.0 in absurd (omega arith)
    there (inr (inr (inr none))) = absurd none

    back : Some (Hears (network_of late) 2 l v) true_steps → Some (Hears (network_of late) 2 l v) false_steps
    back (inl h) = absurd (nothing_heard l h.1)
    back (inr (inl h)) = inr (inl h)
    back (inr (inr (inl h))) = let z : 2 < 2 = h.0 in absurd (omega arith)
    back (inr (inr (inr none))) = absurd none

-- .. and in it the second crew was told point 2, the first one nothing
none_told : (m : Move) → m.slot ≡ 2 → Some (λ st. st.instruction ≡ m) false_steps → ⊥
unfolding Some
none_told m two (inl e) = let z : ◌≡◌ {A = ℕ} 0 2 = ap (λ (x : Move). x.slot) e ∙ two in omega arith
none_told m two (inr (inl e)) = let z : ◌≡◌ {A = ℕ} 1 2 = ap (λ (x : Move). x.slot) e ∙ two in omega arith
none_told m two (inr (inr (inl e))) = let z : ◌≡◌ {A = ℕ} 3 2 = ap (λ (x : Move). x.slot) e ∙ two in omega arith
none_told m two (inr (inr (inr none))) = absurd none

not_told_alike : ¬ ToldAlike false_steps true_steps 2
unfolding Some
not_told_alike (inl same) = none_told same.0 same.1 same.2
not_told_alike (inr neither) = neither.1 (inr (inr (inl refl)))

late_lists : Demand3 whole_path → EveryTwoLists ahead late late_tree
late_lists d =
    subst (EveryTwoLists ahead late) late_made.1
    (every_two_lists whole_path d late late_fine 4 late_made.0)

pub whole_path_fails : ¬ Demand3 whole_path
whole_path_fails d =
    let alike = late_lists d false_first true_first both_done.0 both_done.1 2 in
    not_told_alike ((rw (both_steps.0, both_steps.1) at alike) heard_alike)

-- ---- A run that accepts any report. It breaks part 4: after nine reports the history holds nine.

abbrev pub any_report : Planner
any_report = running (record { shows = show_answer; reports = λ p tree h o. fine (longer h o) })

pub any_report_fails : ¬ Demand3 any_report
unfolding calling
any_report_fails d =
    let all = every_list any_report d k1 k1_fine 1 k1_answer.1 (replicate 9 (reporting 0)) in
    let z : 9 ≤ 8 = all.at_most_8 in
    omega arith

-- ---- A run that refuses with a number that no refusal has. It breaks part 4: showing has to hand something back.

abbrev pub says_twelve : Planner
says_twelve = running (record { shows = λ p tree h. refuse 12; reports = report_answer })

no_twelve : (r : Refusal) → ¬ (refusal_number r ≡ 12)
no_twelve refusal.PlanText e = omega arith
no_twelve refusal.Head e = omega arith
no_twelve refusal.Letters e = omega arith
no_twelve refusal.Constraints e = omega arith
no_twelve refusal.TreeText e = omega arith
no_twelve refusal.Shape e = omega arith
no_twelve refusal.Broken e = omega arith
no_twelve refusal.Mask e = omega arith
no_twelve refusal.AfterDone e = omega arith
no_twelve refusal.Buffer e = omega arith
no_twelve refusal.Hopeless e = omega arith

refuses_one : {m n : ℕ} → refuse m ≡ refuse n → m ≡ n
refuses_one e = cc

not_said : (s : Shown) → ¬ (shown_told s ≡ refuse 12)
not_said (shown.Instruct v) e = refused_is_not (sym e)
not_said shown.Done e = not_done e refl
not_said (shown.Refused r) e = no_twelve r (refuses_one e)

pub says_twelve_fails : ¬ Demand3 says_twelve
says_twelve_fails d =
    let (s, by) = (said says_twelve d k1 k1_fine 1 k1_answer.1).shows empty_history in not_said s by

-- ---- A run that accepts a report after done and hands back the same history. It breaks part 4: the history doesn't hold that report.

abbrev accepts_done : Plan → List ℕ → History → ℕ → Told → Answer History
accepts_done p tree h o (instruct m) = report_answer p tree h o
accepts_done p tree h o complete = fine h
accepts_done p tree h o (refuse n) = report_answer p tree h o

abbrev after_done : Run
after_done = record { shows = show_answer; reports = λ p tree h o. accepts_done p tree h o (show_answer p tree h) }

abbrev pub accepts_after_done : Planner
accepts_after_done = running after_done

-- two reports over K1's tree, the second one after done
abbrev twice : List Made
twice =
    reported 0 (shown.Instruct (record { slot = 0; points = 1; choices = 0 })) (record { answer = Ok tt; history = history_of (0 ∷ []) })
    ∷ reported 0 shown.Done (record { answer = Ok tt; history = history_of (0 ∷ []) }) ∷ []

twice_crew : Crew after_done k1 k1_bytes
unfolding calling Answered held_after
twice_crew = record { calls = twice; answered = (refl, refl, (refl, refl, tt)); says = shown.Done; told = refl }

k1_made : first_nodes (search_leaves k1 lent) 1 ≡ k1_bytes
unfolding computing
k1_made = refl

pub accepts_after_done_fails : ¬ Demand3 accepts_after_done
unfolding twice_crew held_after accepted_in
accepts_after_done_fails d =
    let every = (got_tree accepts_after_done d k1 k1_fine 1 k1_answer.1).every_crew 1 refl in
    let all = subst (λ (bs : List ℕ). (crew : Crew after_done k1 bs) → EveryCrew crew) k1_made every twice_crew in
    let z : ◌≡◌ {A = ℕ} 1 2 = ap (λ (h : History). h.count) all.holds_reports in
    omega arith
