-- Cases: tables of differences of document 01's plans, of the register's, and at the edges of the ranges, computed. Only the checker need
-- believe this file; a reader may like to.
use mathlib.Core.Path.{◌≡◌, refl}
use mathlib.Core.List.{List, [], ◌∷◌, ◌++◌}
use mathlib.Core.Bool.{true, false}
use Prim.Native.Nat.{ℕ, ◌-◌}
use lib.IntN.{pos, negsuc}
use lib.ListN.{length, replicate}
use Rattle.network.specs.Mask.{bit, all_below}
use Rattle.network.specs.Below.{any_below}
use Rattle.network.specs.Network.{holds}
use Rattle.network.specs.Limits.{biased, lowered, limited, all_limited}
use Rattle.std.specs.Prelude.{Ok, Err, None}
use Rattle.plan.specs.declared.Plan.{Plan}
use Rattle.plan.specs.declared.Refusal.TheVariants as refusal
use Rattle.plan.specs.Answer.{Answer, fine}
use Rattle.plan.specs.Faults.{unless, first, answered}
use Rattle.plan.specs.Plan.{signed, listed}
use Rattle.judge.specs.Judge.{head_fine, taken_before, letter_fine, letter_unused, letter_entry, letters_fine, bound_fine, constraint_fine, constraint_unused, constraint_entry, constraints_fine, plan_fault}
use Rattle.plan.proofs.Cases.{letter, constraint, plan, one_point, k4, k5, k6, k8}
use Rattle.differences.specs.declared.Row.{Row}
use Rattle.differences.specs.Answers.{Differences, zero_row, no_table, table_answer}
use Rattle.differences.specs.Says.{entry}
use Rattle.differences.specs.Tabling.{unconstrained, passed, passes, closed, no_negative_cycle, shown, table_from, table_of, table_fault, difference_table}

-- a row of a used point, and the rows of those; what is behind them is zero
abbrev row : List ℕ → Row
row entries = record { to = entries ++ replicate (8 - length entries) 0 }

abbrev table : List Row → Answer Differences
table rows = fine (record { scheduled = true; rows = rows ++ replicate (8 - length rows) zero_row })

abbrev no_schedule : Answer Differences
no_schedule = fine no_table

abbrev refuses : ℕ → Answer Differences
refuses n = record { fault = n; value = no_table }

-- -n in 16 bits
abbrev minus : ℕ → ℕ
minus n = 65536 - n

-- what is unfolded to compute
the_limits : Unit {0}
unfolding bit all_below any_below holds biased lowered limited all_limited
the_limits = tt

the_table : Unit {0}
unfolding unconstrained passed passes closed no_negative_cycle shown table_from table_of table_fault difference_table unless first answered
the_table = tt

the_plan : Unit {0}
unfolding signed listed head_fine taken_before letter_fine letter_unused letter_entry letters_fine
the_plan = tt

the_constraints : Unit {0}
unfolding bound_fine constraint_fine constraint_unused constraint_entry constraints_fine plan_fault
the_constraints = tt

unfoldable pub computing : Unit {0}
unfolding the_limits the_table the_plan the_constraints
computing = tt

-- ---- document 01's plans

-- K1, K2, K3: one point; before itself; not before itself. K4 and K5 where letter 0 is true: point 1 at most 1 after point 0; where it is
-- false: at least 2 after it, and so point 0 at most -2 after point 1 (row 1, column 0)
pub k1_to_k5 :
    (difference_table (one_point []) 0 ≡ table (zero_row ∷ [])) × (difference_table (one_point (constraint 0 0 65535 0 0 ∷ [])) 0 ≡ no_schedule)
    × (difference_table (one_point (constraint 0 0 0 0 0 ∷ [])) 0 ≡ table (zero_row ∷ []))
    × (difference_table k4 0 ≡ table (row (0 ∷ 2 ∷ []) ∷ (row (minus 2 ∷ 0 ∷ []) ∷ [])))
    × (difference_table k4 1 ≡ table (row (0 ∷ 1 ∷ []) ∷ (row (2 ∷ 0 ∷ []) ∷ []))) × (difference_table k4 2 ≡ refuses 8)
    × (difference_table k5 0 ≡ no_schedule)
unfolding computing
k1_to_k5 = (refl, refl, refl, refl, refl, refl, refl)

-- K6 as it stands, hopeless and with a table under each setting; K8, where one choice has none
pub k6_and_k8 :
    (difference_table k6 0 ≡ table (row (0 ∷ 63 ∷ []) ∷ (row (minus 2 ∷ 0 ∷ []) ∷ [])))
    × (difference_table k6 1 ≡ table (row (0 ∷ 0 ∷ []) ∷ (row (63 ∷ 0 ∷ []) ∷ []))) × (difference_table k8 0 ≡ no_schedule)
    × (difference_table k8 1 ≡ table (row (0 ∷ 0 ∷ []) ∷ (row (1 ∷ 0 ∷ []) ∷ [])))
unfolding computing
k6_and_k8 = (refl, refl, refl, refl)

-- ---- the register of the README: fetch, stand, photograph, return; letter 0 brittle, letter 1 the glass plate

abbrev register : Plan
register =
    plan 7 4 (letter 0 0 ∷ (letter 1 1 ∷ []))
    (constraint 1 0 65535 0 0 ∷ (constraint 2 1 65535 0 0 ∷ (constraint 3 2 65534 2 0 ∷ (constraint 3 2 65532 2 2
    ∷ (constraint 1 1 65535 3 1 ∷ (constraint 0 3 6 0 0 ∷ []))))))

-- each step before the next, wherever there is a schedule
pub register_tables :
    (difference_table register 0 ≡ table (row (0 ∷ 3 ∷ 4 ∷ 6 ∷ []) ∷ (row (minus 1 ∷ 0 ∷ 3 ∷ 5 ∷ [])
    ∷ (row (minus 2 ∷ minus 1 ∷ 0 ∷ 4 ∷ []) ∷ (row (minus 4 ∷ minus 3 ∷ minus 2 ∷ 0 ∷ []) ∷ [])))))
    × (difference_table register 1 ≡ no_schedule)
    × (difference_table register 2 ≡ table (row (0 ∷ 1 ∷ 2 ∷ 6 ∷ []) ∷ (row (minus 1 ∷ 0 ∷ 1 ∷ 5 ∷ [])
    ∷ (row (minus 2 ∷ minus 1 ∷ 0 ∷ 4 ∷ []) ∷ (row (minus 6 ∷ minus 5 ∷ minus 4 ∷ 0 ∷ []) ∷ [])))))
    × (difference_table register 3 ≡ table (row (0 ∷ 1 ∷ 2 ∷ 6 ∷ []) ∷ (row (minus 1 ∷ 0 ∷ 1 ∷ 5 ∷ [])
    ∷ (row (minus 2 ∷ minus 1 ∷ 0 ∷ 4 ∷ []) ∷ (row (minus 6 ∷ minus 5 ∷ minus 4 ∷ 0 ∷ []) ∷ [])))))
unfolding computing
register_tables = (refl, refl, refl, refl)

-- ---- how an entry is read: row 1, column 0 of K4 is -2, so that point 0 is forced before point 1 (card 2: row Y, column X)

pub entries_are :
    (entry (difference_table k4 0).value.rows 1 0 ≡ negsuc 1) × (entry (difference_table k4 0).value.rows 0 1 ≡ pos 2)
    × (entry (difference_table register 0).value.rows 3 0 ≡ negsuc 3) × (entry (difference_table register 0).value.rows 7 7 ≡ pos 0)
unfolding computing
entries_are = (refl, refl, refl, refl)

-- ---- the passes

-- each of eight points after the one before it
abbrev chain : ℕ → Plan
chain horizon =
    plan horizon 8 []
    (constraint 7 6 65535 0 0 ∷ (constraint 6 5 65535 0 0 ∷ (constraint 5 4 65535 0 0 ∷ (constraint 4 3 65535 0 0 ∷ (constraint 3 2 65535 0 0
    ∷ (constraint 2 1 65535 0 0 ∷ (constraint 1 0 65535 0 0 ∷ [])))))))

-- point 1 at least 1 after point 0 and at most d after it
abbrev cycle : ℕ → Plan
cycle d = plan 63 2 [] (constraint 1 0 65535 0 0 ∷ (constraint 0 1 d 0 0 ∷ []))

-- The chain just fits horizon 7, and not horizon 6. A cycle of -1 and 1 has a schedule, one of -1 and 0 none. Point 0 at least 3 before point
-- 1, at horizon 9: so point 2 is at most 6 after point 1, and point 0 at most 6 after point 2. A cycle over three points; a
-- difference limited by way of the last point.
pub passing_cases :
    (difference_table (chain 7) 0 ≡ table (row (0 ∷ 1 ∷ 2 ∷ 3 ∷ 4 ∷ 5 ∷ 6 ∷ 7 ∷ []) ∷ (row (minus 1 ∷ 0 ∷ 1 ∷ 2 ∷ 3 ∷ 4 ∷ 5 ∷ 6 ∷ [])
    ∷ (row (minus 2 ∷ minus 1 ∷ 0 ∷ 1 ∷ 2 ∷ 3 ∷ 4 ∷ 5 ∷ []) ∷ (row (minus 3 ∷ minus 2 ∷ minus 1 ∷ 0 ∷ 1 ∷ 2 ∷ 3 ∷ 4 ∷ [])
    ∷ (row (minus 4 ∷ minus 3 ∷ minus 2 ∷ minus 1 ∷ 0 ∷ 1 ∷ 2 ∷ 3 ∷ [])
    ∷ (row (minus 5 ∷ minus 4 ∷ minus 3 ∷ minus 2 ∷ minus 1 ∷ 0 ∷ 1 ∷ 2 ∷ [])
    ∷ (row (minus 6 ∷ minus 5 ∷ minus 4 ∷ minus 3 ∷ minus 2 ∷ minus 1 ∷ 0 ∷ 1 ∷ [])
    ∷ (row (minus 7 ∷ minus 6 ∷ minus 5 ∷ minus 4 ∷ minus 3 ∷ minus 2 ∷ minus 1 ∷ 0 ∷ []) ∷ [])))))))))
    × (difference_table (chain 6) 0 ≡ no_schedule) × (difference_table (cycle 1) 0 ≡ table (row (0 ∷ 1 ∷ []) ∷ (row (minus 1 ∷ 0 ∷ []) ∷ [])))
    × (difference_table (cycle 0) 0 ≡ no_schedule)
    × (difference_table (plan 9 3 [] (constraint 1 0 65533 0 0 ∷ [])) 0 ≡ table (row (0 ∷ 9 ∷ 9 ∷ []) ∷ (row (minus 3 ∷ 0 ∷ 6 ∷ [])
    ∷ (row (6 ∷ 9 ∷ 0 ∷ []) ∷ []))))
    × (difference_table (plan 63 3 [] (constraint 2 0 0 0 0 ∷ (constraint 1 2 65535 0 0 ∷ (constraint 0 1 0 0 0 ∷ [])))) 0 ≡ no_schedule)
    × (difference_table (plan 2 3 [] (constraint 2 0 65535 0 0 ∷ (constraint 1 2 65535 0 0 ∷ []))) 0 ≡ table (row (0 ∷ 2 ∷ 1 ∷ [])
    ∷ (row (minus 2 ∷ 0 ∷ minus 1 ∷ []) ∷ (row (minus 1 ∷ 1 ∷ 0 ∷ []) ∷ []))))
unfolding computing
passing_cases = (refl, refl, refl, refl, refl, refl, refl)

-- ---- bounds: none, 999, -63 and -64 where slot 63 is the last; the least of three; a point and itself

pub bounds :
    (difference_table (plan 63 2 [] []) 0 ≡ table (row (0 ∷ 63 ∷ []) ∷ (row (63 ∷ 0 ∷ []) ∷ [])))
    × (difference_table (plan 63 2 [] (constraint 0 1 999 0 0 ∷ [])) 0 ≡ table (row (0 ∷ 63 ∷ []) ∷ (row (63 ∷ 0 ∷ []) ∷ [])))
    × (difference_table (plan 63 2 [] (constraint 1 0 65473 0 0 ∷ [])) 0 ≡ table (row (0 ∷ 63 ∷ []) ∷ (row (minus 63 ∷ 0 ∷ []) ∷ [])))
    × (difference_table (plan 63 2 [] (constraint 1 0 65472 0 0 ∷ [])) 0 ≡ no_schedule)
    × (difference_table (plan 9 2 [] (constraint 0 1 5 0 0 ∷ (constraint 0 1 4 0 0 ∷ (constraint 0 1 6 0 0 ∷ [])))) 0 ≡ table (row (0 ∷ 4 ∷ [])
    ∷ (row (9 ∷ 0 ∷ []) ∷ [])))
    × (difference_table (plan 9 2 [] (constraint 1 1 0 0 0 ∷ [])) 0 ≡ table (row (0 ∷ 9 ∷ []) ∷ (row (9 ∷ 0 ∷ []) ∷ [])))
    × (difference_table (plan 9 2 [] (constraint 1 1 65535 0 0 ∷ [])) 0 ≡ no_schedule)
unfolding computing
bounds = (refl, refl, refl, refl, refl, refl, refl)

-- ---- what an answer says: all 64 entries are zero beside "none" and beside a refusal

pub zeros_beside :
    (table_answer (Ok None) ≡ record { fault = 0; value = record { scheduled = false; rows = replicate 8 (record { to = replicate 8 0 }) } })
    × (table_answer (Err refusal.Mask) ≡ record { fault = 8; value = record { scheduled = false; rows = replicate 8 (record { to = replicate 8 0 }) } })
zeros_beside = (refl, refl)

-- ---- refusals

-- a fault of the head, of a letter, of a constraint, each with the later ones beside it
abbrev bad_head : Plan
bad_head = plan 64 2 (letter 2 0 ∷ []) (constraint 2 0 0 0 0 ∷ [])

abbrev bad_letter : Plan
bad_letter = plan 2 2 (letter 2 0 ∷ []) (constraint 2 0 0 0 0 ∷ [])

abbrev bad_constraint : Plan
bad_constraint = plan 2 2 (letter 0 0 ∷ []) (constraint 2 0 0 0 0 ∷ [])

-- the plan's fault before the mask's; a letter that the plan lacks
pub refusals :
    (difference_table bad_head 2 ≡ refuses 2) × (difference_table bad_letter 255 ≡ refuses 3) × (difference_table bad_constraint 128 ≡ refuses 4)
    × (difference_table bad_constraint 0 ≡ refuses 4) × (difference_table (one_point []) 1 ≡ refuses 8)
    × (difference_table (one_point []) 128 ≡ refuses 8) × (difference_table k4 3 ≡ refuses 8)
unfolding computing
refusals = (refl, refl, refl, refl, refl, refl, refl)
