-- Laws of the table of least slots: what each rule does to it keeps every win that fits. Only the checker need believe this file.
use mathlib.Core.Path.{◌≡◌, refl, sym, ◌∙◌, subst}
use mathlib.Core.Logic.{by_cases, ◌⊎◌, inl, inr, ⊎_elim, ◌≢◌}
use mathlib.Core.Bool.{true}
use mathlib.Core.List.{List, [], ◌∷◌}
use Prim.Native.Nat.{ℕ, zero, suc, ◌+◌, ◌-◌, ◌*◌, ◌%◌, ◌≤◌, ◌<◌, zero-le, min}
use native.Mathlib.Omega.{arith}
use native.Mathlib.Nat.{le_refl, le_trans, lt_of_le_of_lt}
use native.Mathlib.Decide.{dec_lt, ℕ_discrete}
use lib.Bits.{and_le_l}
use lib.ListN.{get_or, set, replicate}
use lib.Seq.{get_or-set_other}
use Rattle.network.specs.Mask.{bit}
use Rattle.network.specs.Network.{slots_in}
use Rattle.network.specs.Network as net
use Rattle.network.specs.Raise.{turns}
use Rattle.network.proofs.Booleans.{clash}
use Rattle.network.proofs.MaskLaws.{bit_zero, bit_above}
use Rattle.network.proofs.RaiseLaws.{raised_below}
use Rattle.masks.specs.Next.{next_inside}
use Rattle.masks.proofs.NextLaws.{Last, Next, next_inside_cases}
use Rattle.constraints.specs.Used.{constraints_of}
use Rattle.table.specs.declared.View.{View}
use Rattle.table.specs.Table.{Within, set_to, unknown, free, flipped, Win, entry, Below, Fits, Tighter, Lost, Assuming, Moves, Follows, Past, Flipped, Put, AllStruck, Soonest}

-- ---- the masks inside a set, one after the other

pub within_none : (set : ℕ) → Within set 0
within_none set i y = clash y (bit_zero i)

module _ (set : ℕ) (byte : set < 256) (d : ℕ) (inside : Within set d) where
  in_byte : (i : ℕ) → bit set i ≡ true → i < 8
  in_byte i y = by_cases (dec_lt i 8) (λ lt. lt) (λ ge. clash y (bit_above 8 set i byte (omega arith)))

  pub next_mask : next_inside set d ≢ 0 → Next set d
  next_mask n = ⊎_elim (λ l. absurd (n l.zero_next)) (λ r. r) (next_inside_cases set in_byte d inside)

  pub last_mask : next_inside set d ≡ 0 → Last set d
  last_mask e = ⊎_elim (λ l. l) (λ r. let g = r.greater in absurd (omega arith)) (next_inside_cases set in_byte d inside)

-- a mask that comes next
pub go_on :
    (set : ℕ) → set < 256 → (d : ℕ) → Within set d → (next : ℕ) → next ≡ next_inside set d → next ≢ 0 → Within set next × (d < next)
go_on set byte d inside next e n =
    let r = next_mask set byte d inside (λ z. n (e ∙ z)) in
    (subst (Within set) (sym e) r.within, subst (λ (m : ℕ). d < m) (sym e) r.greater)

-- what holds of the masks inside a set that come before d
abbrev pub Before : (ℕ → Type 0) → ℕ → ℕ → Type 0
Before P set d = (e : ℕ) → Within set e → e < d → P e

module _ (P : ℕ → Type 0) (set : ℕ) (byte : set < 256) (d : ℕ) (inside : Within set d) (before : Before P set d) (here : P d) where
  upto : (e : ℕ) → Within set e → ¬ (d < e) → P e
  upto e h ge = by_cases (ℕ_discrete e d) (λ q. rw q here) (λ n. before e h (omega arith))

  pub before_next : next_inside set d ≢ 0 → Before P set (next_inside set d)
  before_next n e h lt =
      upto e h (λ less. let le = (next_mask set byte d inside n).least e h less in omega arith)

  pub before_all : next_inside set d ≡ 0 → (e : ℕ) → Within set e → P e
  before_all z e h = upto e h ((last_mask set byte d inside z).none_greater e h)

-- free decisions are a byte
pub free_byte : (v : View) (x : ℕ) → v.undecided < 256 → free v x < 256
free_byte v x h = lt_of_le_of_lt (and_le_l v.undecided (255 - get_or v.own x 0)) h

-- ---- stores

getD_set_le : (l : List ℕ) (i a : ℕ) → get_or (set l i a) i 0 ≤ a
getD_set_le [] i a = zero-le
getD_set_le (x ∷ xs) zero a = le_refl a
getD_set_le (x ∷ xs) (suc i) a = getD_set_le xs i a

-- ---- rows

-- the first x of the slots are the lesser of two
abbrev pub Lesser : List ℕ → List ℕ → List ℕ → ℕ → Type 0
Lesser a b out x = (i : ℕ) → i < x → get_or out i 0 ≡ min (get_or a i 0) (get_or b i 0)

module _ {v : View} (w : Win v) where
  -- a row put keeps the fit where its slots are no later than the win's
  pub put_fits :
      {table after : List ℕ} {s : ℕ} {slots : List ℕ} → Put table after s slots → (w.settled s ≡ s → Below w s slots) → Fits w table →
      Fits w after
  put_fits {slots = slots} p g f r x on lt =
      let few = w.few_points in
      ⊎_elim
      (λ le. le_trans le (f r x on lt))
      (λ q. let there = g (subst (λ (n : ℕ). w.settled n ≡ n) q.0 on) x lt in
      le_trans q.1 (subst (λ (n : ℕ). get_or slots x 0 ≤ w.time n x) (sym q.0) there))
      (p.each r x (omega arith))

  -- so does a single entry
  pub store_fits :
      (table : List ℕ) (s x k a : ℕ) → k ≡ s * 8 + x → x < 8 → Fits w table → (w.settled s ≡ s → a ≤ w.time s x) →
      Fits w (set table k a)
  store_fits table s x k a e h f g r y on lt =
      let few = w.few_points in
      by_cases (ℕ_discrete (r * 8 + y) k)
      (λ q. let same : r ≡ s = omega arith in
      let point : y ≡ x = omega arith in
      let here = g (rw same at on) in
      let stored = getD_set_le table k a in
      rw (q, same, point) (omega arith))
      (λ n. rw (get_or-set_other table k (r * 8 + y) a 0 n) (f r y on lt))

  -- 255 is no slot of a win
  pub not_struck : (table : List ℕ) (s : ℕ) → Fits w table → w.settled s ≡ s → entry table s 0 ≢ 255
  not_struck table s f on e =
      let at = f s 0 on w.some_point in
      let u = w.upto s 0 on w.some_point in
      let c = w.small 0 w.some_point in
      omega arith

-- ---- partners of the flip rule

module _ (v : View) where
  -- While partners are looked for, d at hand: the least slot found so far is no later than x, or x is as in a partner not yet passed.
  pub record Seeking (table : List ℕ) (s q x least d : ℕ) : Type 0 where
    pub each :
        (w : Win v) → Fits w table → w.settled s ≡ s → bit v.unheard q ≡ true → bit v.left x ≡ true →
        (least ≤ w.time s x)
        ⊎ ((e : ℕ) × (d ≤ e) × Within (free v x) e × (w.settled (flipped v s q x e) ≡ flipped v s q x e)
        × (w.time (flipped v s q x e) x ≡ w.time s x))

  pub seek_start :
      (table : List ℕ) (s q x least : ℕ) → least ≡ entry table s (get_or v.disclosing q 0 % 8) + 1 → Seeking table s q x least 0
  seek_start table s q x least e =
      record {
        each = λ w f on u l. ⊎_elim
            (λ lt. let b = f s (get_or v.disclosing q 0 % 8) on (w.disclosing_point q u) in inl (omega arith))
            (λ p. inr (p.0, zero-le, p.1, p.2, p.3))
            (w.flip s q x on u l);
      }

  -- partner d passed: the least slot takes in its slot
  module _
      (table : List ℕ) (s q x least d less : ℕ) (seeking : Seeking table s q x least d) (inside : Within (free v x) d)
      (byte : free v x < 256) (le : less ≤ least) (entered : less ≤ entry table (flipped v s q x d) x) where
    passed :
        (w : Win v) → Fits w table → w.settled s ≡ s → bit v.unheard q ≡ true → bit v.left x ≡ true →
        (less ≤ w.time s x)
        ⊎ ((e : ℕ) × (d < e) × Within (free v x) e × (w.settled (flipped v s q x e) ≡ flipped v s q x e)
        × (w.time (flipped v s q x e) x ≡ w.time s x))
    passed w f on u l =
        ⊎_elim
        (λ t. inl (le_trans le t))
        (λ p. by_cases (ℕ_discrete d p.0)
        (λ same. let there = f (flipped v s q x p.0) x p.3 (w.left_point x l) in
        let slot = p.4 in
        let here : less ≤ entry table (flipped v s q x p.0) x = subst
        (λ (e : ℕ). less ≤ entry table (flipped v s q x e) x) same entered in
        inl (omega arith))
        (λ n. let m = p.1 in inr (p.0, omega arith, p.2, p.3, p.4)))
        (seeking.each w f on u l)

    pub seek_next : next_inside (free v x) d ≢ 0 → Seeking table s q x less (next_inside (free v x) d)
    seek_next n =
        record {
          each = λ w f on u l. ⊎_elim inl
              (λ p. inr (p.0, (next_mask (free v x) byte d inside n).least p.0 p.2 p.1, p.2, p.3, p.4))
              (passed w f on u l);
        }

    pub seek_done : next_inside (free v x) d ≡ 0 → Flipped v table s q x less
    seek_done z =
        record {
          below = λ w f on u l. ⊎_elim (λ t. t)
              (λ p. absurd ((last_mask (free v x) byte d inside z).none_greater p.0 p.2 p.1))
              (passed w f on u l);
        }

zeros : (n i : ℕ) → get_or (replicate {A = ℕ} n 0) i 0 ≡ 0
zeros zero i = refl
zeros (suc n) zero = refl
zeros (suc n) (suc i) = zeros n i

module _ {v : View} where
  -- ---- tables one after the other

  pub same_table : {table : List ℕ} → Tighter v table table
  same_table = record { fits = λ w f. f }

  pub join : {table after last : List ℕ} → Tighter v table after → Tighter v after last → Tighter v table last
  join a b = record { fits = λ w f. b.fits w (a.fits w f) }

  pub lost_before : {table after : List ℕ} → Tighter v table after → Lost v after → Lost v table
  lost_before a l = record { none = λ w f. l.none w (a.fits w f) }

  -- ---- the constraint rule

  pub stay : {s : ℕ} {slots : List ℕ} → Moves v s slots slots
  stay = record { below = λ w on b. b }

  pub move_on : {s : ℕ} {slots next last : List ℕ} → Moves v s slots next → Moves v s next last → Moves v s slots last
  move_on a b = record { below = λ w on f. b.below w on (a.below w on f) }

  -- a round of the raise moves no point past a schedule that keeps
  pub raise_moves : (cap s : ℕ) (slots : List ℕ) → Moves v s slots (turns cap (bit s) slots (constraints_of v.constraints.now))
  raise_moves cap s slots =
      record {
        below = λ w on b x lt.
            let points = w.points in
            subst (λ (cs : List net.Constraint). slots_in (turns cap (bit s) slots cs) x ≤ w.time s x) w.constraints
            (raised_below cap w.net (bit s) slots w.is_network (w.time s) (w.kept s on) (λ y l. b y (omega arith)) x (omega arith));
      }

  pub follows_strike :
      {s : ℕ} {slots moved table after : List ℕ} → Moves v s slots moved → Past v s moved → Put table after s (replicate 8 255) →
      Follows v s slots table after
  follows_strike m p put =
      record { fits = λ w g f. put_fits w put (λ on. absurd (p.none w on (m.below w on (g on)))) f }

  pub follows_put :
      {s : ℕ} {slots moved table after : List ℕ} → Moves v s slots moved → Put table after s moved → Follows v s slots table after
  follows_put m put = record { fits = λ w g f. put_fits w put (λ on. m.below w on (g on)) f }

  -- ---- the flip rule

  pub flip_store :
      {table : List ℕ} {s q x slot k : ℕ} → Flipped v table s q x slot → bit v.unheard q ≡ true → bit v.left x ≡ true → x < 8 →
      k ≡ s * 8 + x → Tighter v table (set table k slot)
  flip_store {table} {s} {q} {x} {slot} {k} r u l h e =
      record { fits = λ w f. store_fits w table s x k slot e h f (λ on. r.below w f on u l) }

  pub flip_strike :
      {table after : List ℕ} {s q x slot : ℕ} → Flipped v table s q x slot → bit v.unheard q ≡ true → bit v.left x ≡ true →
      get_or v.cap x 0 < slot → Put table after s (replicate 8 255) → Tighter v table after
  flip_strike {x = x} r u l late put =
      record {
        fits = λ w f. put_fits w put
            (λ on. let b = r.below w f on u l in let t = w.upto _ x on (w.left_point x l) in absurd (omega arith)) f;
      }

  -- ---- scenarios without a setting

  pub none_left :
      (table : List ℕ) (u : ℕ) → Within v.unheard u → AllStruck v table (set_to v.values v.unheard u) → Lost v table
  none_left table u h all =
      record { none = λ w f. let p = w.some u h in not_struck w table _ f p.2 (all.each p.0 p.1) }

  -- ---- probing

  pub assume_nothing : {s : ℕ} {table : List ℕ} → Assuming v s table table
  assume_nothing = record { fits = λ w on f. f }

  pub probe_strike :
      {s : ℕ} {table alone after : List ℕ} → Assuming v s table alone → Lost v alone → Put table after s (replicate 8 255) →
      Tighter v table after
  probe_strike a l put = record { fits = λ w f. put_fits w put (λ on. absurd (l.none w (a.fits w on f))) f }

  -- ---- the first table, and the end

  pub zeros_fit : (w : Win v) → Fits w (replicate 512 0)
  zeros_fit w s x on lt = rw (zeros 512 (s * 8 + x)) zero-le

  pub no_win : Lost v (replicate 512 0) → ¬ Win v
  no_win l w = l.none w (zeros_fit w)

module _ (v : View) where
  -- ---- the least slots in any setting

  -- in the setting of d
  abbrev pub BelowAt : List ℕ → List ℕ → ℕ → Type 0
  BelowAt table least d =
      (w : Win v) → Fits w table → w.settled (set_to v.values (unknown v) d) ≡ set_to v.values (unknown v) d →
      Below w (set_to v.values (unknown v) d) least

  -- lesser slots, no later than the row of d either
  pub below_lesser :
      (table least next : List ℕ) (d : ℕ) → ((x : ℕ) → x < 8 → get_or next x 0 ≤ get_or least x 0) → BelowAt table least d →
      BelowAt table next d
  below_lesser table least next d le b w f on x lt = let few = w.few_points in le_trans (le x (omega arith)) (b w f on x lt)

  pub below_row :
      (table next : List ℕ) (d : ℕ) → ((x : ℕ) → x < 8 → get_or next x 0 ≤ entry table (set_to v.values (unknown v) d) x) →
      BelowAt table next d
  below_row table next d le w f on x lt = let few = w.few_points in le_trans (le x (omega arith)) (f _ x on lt)

  pub soonest_all :
      (table least : List ℕ) → ((d : ℕ) → Within (unknown v) d → BelowAt table least d) → Soonest v table least
  soonest_all table least all =
      record {
        below = λ w f s on. let k = w.known s on in
            subst (λ (n : ℕ). Below w n least) k.2
            (all k.0 k.1 w f (subst (λ (n : ℕ). w.settled n ≡ n) (sym k.2) on));
      }
