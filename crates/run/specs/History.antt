-- Definitions: a history of reports (document 01, "The crew's run"). Nothing else knows where a history keeps its masks. To be
-- believed, for demand 1, 3.
use Rattle.std.specs.Prelude.{Bool, ◌&&◌, ◌||◌, List, [], ◌++◌, ℕ, ◌+◌, ◌-◌, leb, ltb, eqb, length, get_or, take, set, replicate}
use Rattle.network.specs.Mask.{all_below}
use Rattle.run.specs.declared.History.{History}

-- the history that holds these reports, in order, and zeros behind them
abbrev pub history_of : List ℕ → History
history_of os = record { count = length os; masks = os ++ replicate (8 - length os) 0 }

-- the empty history: count 0 and eight zeros
abbrev pub empty_history : History
empty_history = history_of []

-- a count 0 to 8, and zeros past it
unfoldable pub history_fine : History → Bool
history_fine h = leb h.count 8 && all_below 8 (λ i. ltb i h.count || eqb (get_or h.masks i 0) 0)

-- the reports that it holds, in order
abbrev pub reports_in : History → List ℕ
reports_in h = take h.count h.masks

-- the history with one report more
abbrev pub longer : History → ℕ → History
longer h o = record { count = h.count + 1; masks = set h.masks h.count o }
