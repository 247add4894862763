-- Definitions: what the table of least slots says of a win. The contracts of the crate `pruning` speak of the game alone. Not to be
-- believed: only theorems and inner contracts use it.
use Rattle.std.specs.Prelude.{◌≡◌, ◌⊎◌, Bool, true, ◌&&◌, ◌||◌, List, ℕ, ◌+◌, ◌-◌, ◌*◌, ◌%◌, ◌^◌, ◌≤◌, ◌<◌, get_or}
use Rattle.std.specs.Int.Bits.{bit_and, bit_or, bit_xor}
use Rattle.network.specs.Mask.{bit}
use Rattle.network.specs.Below.{any_below}
use Rattle.network.specs.Network.{Network, Schedule, keeps}
use Rattle.network.specs.IsNetwork.{IsNetwork}
use Rattle.constraints.specs.Used.{constraints_of}
use Rattle.table.specs.declared.View.{View}

-- ---- settings of the letters

-- d is inside the set
abbrev pub Within : ℕ → ℕ → Type 0
Within set d = (i : ℕ) → bit d i ≡ true → bit set i ≡ true

-- s with the letters of the set as d has them, where d is inside the set; there are at most six letters
unfoldable pub set_to : ℕ → ℕ → ℕ → ℕ
set_to s set d = bit_or (bit_and s (255 - set)) d % 64

-- the letters not yet known
abbrev pub unknown : View → ℕ
unknown v = bit_or v.unheard v.undecided

-- the decisions not yet made, but for the one that point x discloses
abbrev pub free : View → ℕ → ℕ
free v x = bit_and v.undecided (255 - get_or v.own x 0)

-- s with condition q the other way round and the free decisions as d has them
abbrev pub flipped : View → ℕ → ℕ → ℕ → ℕ → ℕ
flipped v s q x d = set_to (bit_xor s (2 ^ q)) (free v x) d

-- scenario c, or one that differs from it in one unheard condition, is in the set
unfoldable pub nearby : View → ℕ → ℕ → Bool
nearby v set c = any_below 6 (λ q. bit v.unheard q && bit set (bit_xor c (2 ^ q) % 64)) || bit set c

-- ---- a win, as the table sees it

-- For each outcome of the unheard conditions a win ends in exactly one setting. `settled` maps any setting to that one; s is reached where
-- `settled s ≡ s`.
pub record Win (v : View) : Type 0 where
  pub net : Network
  pub is_network : IsNetwork net
  pub constraints : net.constraints ≡ constraints_of v.constraints.now
  pub points : net.points ≡ v.points
  pub few_points : v.points ≤ 8
  pub some_point : 0 < v.points
  pub settled : ℕ → ℕ
  -- the slots in a setting that is reached
  pub time : ℕ → Schedule
  pub from : (s x : ℕ) → settled s ≡ s → x < v.points → get_or v.low x 0 ≤ time s x
  pub upto : (s x : ℕ) → settled s ≡ s → x < v.points → time s x ≤ get_or v.cap x 0
  pub small : (x : ℕ) → x < v.points → get_or v.cap x 0 < 255
  pub kept : (s : ℕ) → settled s ≡ s → keeps net (time s) (bit s) ≡ true
  -- a point comes later than the point of an unheard condition, or where it comes with that condition the other way round, its decision alike
  pub flip :
      (s q x : ℕ) → settled s ≡ s → bit v.unheard q ≡ true → bit v.left x ≡ true →
      (time s (get_or v.disclosing q 0 % 8) < time s x)
      ⊎ ((d : ℕ) × Within (free v x) d × (settled (flipped v s q x d) ≡ flipped v s q x d) × (time (flipped v s q x d) x ≡ time s x))
  pub left_point : (x : ℕ) → bit v.left x ≡ true → x < v.points
  pub disclosing_point : (q : ℕ) → bit v.unheard q ≡ true → get_or v.disclosing q 0 % 8 < v.points
  -- what is known stands
  pub known : (s : ℕ) → settled s ≡ s → (d : ℕ) × Within (unknown v) d × (set_to v.values (unknown v) d ≡ s)
  -- one setting for each setting of the unheard conditions, and no other
  pub some :
      (u : ℕ) → Within v.unheard u →
      let c = set_to v.values v.unheard u in
      (d : ℕ) × Within v.undecided d × (settled (set_to c v.undecided d) ≡ set_to c v.undecided d)
  pub only :
      (s d : ℕ) → settled s ≡ s → Within v.undecided d → settled (set_to s v.undecided d) ≡ set_to s v.undecided d →
      set_to s v.undecided d ≡ s

-- ---- tables

-- the entry of setting s and point x
abbrev pub entry : List ℕ → ℕ → ℕ → ℕ
entry table s x = get_or table (s * 8 + x) 0

module _ {v : View} (w : Win v) where
  -- slots that are no later than those of the win in the setting s
  abbrev pub Below : ℕ → List ℕ → Type 0
  Below s slots = (x : ℕ) → x < v.points → get_or slots x 0 ≤ w.time s x

  -- a table that the win fits: in the settings that it reaches, no entry is later than the win's slot
  abbrev pub Fits : List ℕ → Type 0
  Fits table = (s x : ℕ) → w.settled s ≡ s → x < v.points → entry table s x ≤ w.time s x

-- every win that fits the one table fits the other
pub record Tighter (v : View) (table after : List ℕ) : Type 0 where
  pub fits : (w : Win v) → Fits w table → Fits w after

-- no win fits
pub record Lost (v : View) (table : List ℕ) : Type 0 where
  pub none : (w : Win v) → ¬ Fits w table

-- every win that fits the one table and reaches s fits the other
pub record Assuming (v : View) (s : ℕ) (table after : List ℕ) : Type 0 where
  pub fits : (w : Win v) → w.settled s ≡ s → Fits w table → Fits w after

-- slots no later than a win's are followed by such slots
pub record Moves (v : View) (s : ℕ) (slots after : List ℕ) : Type 0 where
  pub below : (w : Win v) → w.settled s ≡ s → Below w s slots → Below w s after

-- where these slots are no later than the win's in setting s, if it reaches s, a win that fits the one table fits the other
pub record Follows (v : View) (s : ℕ) (slots table after : List ℕ) : Type 0 where
  pub fits : (w : Win v) → (w.settled s ≡ s → Below w s slots) → Fits w table → Fits w after

-- no win that reaches s has every point in these slots or later ones
pub record Past (v : View) (s : ℕ) (slots : List ℕ) : Type 0 where
  pub none : (w : Win v) → w.settled s ≡ s → ¬ Below w s slots

-- r is no later than point x in setting s, by the rule for condition q
pub record Flipped (v : View) (table : List ℕ) (s q x r : ℕ) : Type 0 where
  pub below :
      (w : Win v) → Fits w table → w.settled s ≡ s → bit v.unheard q ≡ true → bit v.left x ≡ true → r ≤ w.time s x

-- An entry of row s grew to these slots at most; no other entry grew. (Entries that are too small cost time, never correctness.)
pub record Put (table after : List ℕ) (s : ℕ) (slots : List ℕ) : Type 0 where
  pub each :
      (r x : ℕ) → x < 8 → (entry after r x ≤ entry table r x) ⊎ ((r ≡ s) × (entry after r x ≤ get_or slots x 0))

-- every setting of the scenario of c is struck: its row starts with 255, which is no slot
pub record AllStruck (v : View) (table : List ℕ) (c : ℕ) : Type 0 where
  pub each : (d : ℕ) → Within v.undecided d → entry table (set_to c v.undecided d) 0 ≡ 255

-- slots that are no later than those of any win that fits, in any setting that it reaches
pub record Soonest (v : View) (table slots : List ℕ) : Type 0 where
  pub below : (w : Win v) → Fits w table → (s : ℕ) → w.settled s ≡ s → Below w s slots
