-- Definitions: the game of document 01, "The search": states, the agent's moves, the world's outcomes. To be believed, for demand 1, 2, 3.
use Rattle.std.specs.Prelude.{◌≡◌, Bool, true, false, not, cond, ◌&&◌, ℕ, suc, ◌≤◌, ◌<◌, ◌^◌}
use Rattle.network.specs.Mask.{bit, mask, count, submask}
use Rattle.network.specs.Network.{Network, Schedule, condition_at, decision_at, combined, keeps}

-- Where the game stands: the first slot still open, the points not yet performed, the slots of those performed, the conditions heard
-- true, the decisions set true.
pub record State : Type 0 where
  pub open_from : ℕ
  pub left : ℕ
  pub slots : Schedule
  pub heard : ℕ
  pub decided : ℕ

unfoldable pub start : Network → State
start net = record { open_from = 0; left = mask net.points (λ x. true); slots = λ x. 0; heard = 0; decided = 0 }

-- a slot, a set of points, and choices
pub record Move : Type 0 where
  pub slot : ℕ
  pub points : ℕ
  pub choices : ℕ

-- the conditions heard after a move, the decisions set by it: those that its points disclose
abbrev pub hears : Network → Move → ℕ → Bool
hears net m = condition_at net m.points

abbrev pub settles : Network → Move → ℕ → Bool
settles net m = decision_at net m.points

-- A legal move: a slot later than the last (the first may be 0) and within the horizon, a non-empty set of points not yet performed,
-- and choices only for decisions disclosed by those points.
pub record Legal (net : Network) (s : State) (m : Move) : Type 0 where
  pub later : s.open_from ≤ m.slot
  pub within : m.slot ≤ net.horizon
  pub some : (x : ℕ) × (x < net.points) × (bit m.points x ≡ true)
  pub not_yet : (x : ℕ) → bit m.points x ≡ true → bit s.left x ≡ true
  pub disclosed : (l : ℕ) → bit m.choices l ≡ true → settles net m l ≡ true

-- the world's answer to a move: a mask inside the conditions heard
abbrev pub Outcome : Network → Move → ℕ → Type 0
Outcome net m o = (l : ℕ) → bit o l ≡ true → hears net m l ≡ true

-- how many outcomes a move has, and outcome number k: the heard letters as a binary number, lowest letter least, all false first
abbrev pub outcomes : Network → Move → ℕ
outcomes net m = 2 ^ count net.letters (hears net m)

abbrev pub outcome_at : Network → Move → ℕ → ℕ
outcome_at net m k = submask net.letters (hears net m) k

-- the state after a move and its outcome
unfoldable pub after : Network → State → Move → ℕ → State
after net s m o =
    record {
      open_from = suc m.slot;
      left = mask net.points (λ x. bit s.left x && not (bit m.points x));
      slots = λ x. cond (bit m.points x) m.slot (s.slots x);
      heard = mask net.letters (λ l. cond (hears net m l) (bit o l) (bit s.heard l));
      decided = mask net.letters (λ l. cond (settles net m l) (bit m.choices l) (bit s.decided l));
    }

-- no point is left
abbrev pub Over : Network → State → Type 0
Over net s = (x : ℕ) → x < net.points → bit s.left x ≡ false

-- what must hold at the end: every constraint whose label holds is kept
abbrev pub kept : Network → State → Bool
kept net s = keeps net s.slots (combined net s.heard s.decided)

abbrev pub Kept : Network → State → Type 0
Kept net s = kept net s ≡ true
