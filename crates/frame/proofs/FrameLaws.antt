-- Laws of frames: a frame reads back from its text, and has one text only. Only the checker need believe this file.
use mathlib.Core.Path.{◌≡◌, refl, sym, ap, ◌∙◌}
use mathlib.Core.Logic.{◌↔◌}
use mathlib.Core.Bool.{true, ◌&&◌}
use mathlib.Core.List.{List, [], ◌∷◌, ◌++◌}
use Prim.Native.Nat.{ℕ, zero, suc, ◌≤◌, ◌<◌, ◌+◌, ◌*◌, ◌/◌, ◌%◌}
use native.Mathlib.Omega.{arith}
use native.Mathlib.Nat.{not-suc-le-zero}
use lib.Dec.{ltb, eqb, lit<}
use lib.ListN.{length, get_or, drop, take}
use lib.Seq.{get_or-take}
use Rattle.network.specs.Mask.{all_below}
use Rattle.network.proofs.Booleans.{and_left, and_right, and_make, ltb_yes, ltb_is, eqb_yes, eqb_is}
use Rattle.network.proofs.BelowLaws.{all_at, all_make, all_cong}
use Rattle.plan.specs.Plan.{listed}
use Rattle.plan.proofs.PlanLaws.{listed_same}
use Rattle.plan.proofs.SliceLaws.{length_listed}
use Rattle.frame.specs.Hex.{hex_digit}
use Rattle.frame.specs.ReadFrame.{digit_of, pair_of, frame_length, byte_at, value_at, whole}
use Rattle.frame.specs.Frame.{Bytes, frame_text, Begins}
use Rattle.frame.proofs.HexLaws.{byte_back, byte_digits}

-- the same as `Bytes`, one by one
abbrev pub EachByte : List ℕ → Type 0
EachByte [] = Unit {0}
EachByte (b ∷ bs) = (b < 256) × EachByte bs

pub bytes : (bs : List ℕ) → EachByte bs → Bytes bs
bytes [] h k = lit< tt
bytes (b ∷ bs) h zero = h.0
bytes (b ∷ bs) h (suc k) = bytes bs h.1 k

pub bytes_more : (b : ℕ) (bs : List ℕ) → b < 256 → Bytes bs → Bytes (b ∷ bs)
bytes_more b bs lt h zero = lt
bytes_more b bs lt h (suc k) = h k

pub bytes_append : (bs cs : List ℕ) → Bytes bs → Bytes cs → Bytes (bs ++ cs)
bytes_append [] cs h g k = g k
bytes_append (b ∷ bs) cs h g zero = h zero
bytes_append (b ∷ bs) cs h g (suc k) = bytes_append bs cs (λ j. h (suc j)) g k

twice_suc : (k : ℕ) → 2 * suc k ≡ suc (suc (2 * k))
twice_suc k = omega arith

-- behind its first byte a frame goes on like a frame
byte_next : (c d : ℕ) (s : List ℕ) (k : ℕ) → byte_at (c ∷ d ∷ s) (suc k) ≡ byte_at s k
unfolding byte_at
byte_next c d s k =
    let e : 2 * suc k + 1 ≡ suc (suc (2 * k + 1)) = omega arith in
    ap (λ (i : ℕ). pair_of (digit_of (get_or (c ∷ d ∷ s) i 0)) (digit_of (get_or (c ∷ d ∷ s) (2 * suc k + 1) 0))) (twice_suc k)
    ∙ ap (λ (i : ℕ). pair_of (digit_of (get_or s (2 * k) 0)) (digit_of (get_or (c ∷ d ∷ s) i 0))) e

-- ---- a frame that was written

pub frame_length_lem : (bs : List ℕ) → length (frame_text bs) ≡ frame_length (length bs)
frame_length_lem [] = refl
frame_length_lem (b ∷ bs) = let e = frame_length_lem bs in omega arith

pub frame_behind : (bs r : List ℕ) → drop (frame_length (length bs)) (frame_text bs ++ r) ≡ r
frame_behind [] r = refl
frame_behind (b ∷ bs) r =
    let e : frame_length (suc (length bs)) ≡ suc (suc (frame_length (length bs))) = omega arith in
    ap (λ (n : ℕ). drop n (frame_text (b ∷ bs) ++ r)) e ∙ frame_behind bs r

byte_in : (bs r : List ℕ) → Bytes bs → (k : ℕ) → k < length bs → byte_at (frame_text bs ++ r) k ≡ get_or bs k 0
unfolding byte_at
byte_in [] r h k lt = absurd (not-suc-le-zero lt)
byte_in (b ∷ bs) r h zero lt = byte_back b (h zero)
byte_in (b ∷ bs) r h (suc k) lt =
    byte_next (hex_digit (b / 16)) (hex_digit (b % 16)) (frame_text bs ++ r) k
    ∙ byte_in bs r (λ j. h (suc j)) k (omega arith)

pub value_back : (bs r : List ℕ) → Bytes bs → (k : ℕ) → k < length bs → value_at (frame_text bs ++ r) k ≡ get_or bs k 0
value_back bs r h k lt = let e = byte_in bs r h k lt in let b = h k in omega arith

feed_in : (bs r : List ℕ) → get_or (frame_text bs ++ r) (2 * length bs) 0 ≡ 10
feed_in [] r = refl
feed_in (b ∷ bs) r =
    ap (λ (i : ℕ). get_or (frame_text (b ∷ bs) ++ r) i 0) (twice_suc (length bs)) ∙ feed_in bs r

pub whole_back : (kind : ℕ) (bs r : List ℕ) → Bytes (kind ∷ bs) → whole kind (suc (length bs)) (frame_text (kind ∷ bs) ++ r) ≡ true
unfolding whole
whole_back kind bs r h =
    and_make
    (and_make (eqb_yes _ _ (byte_in (kind ∷ bs) r h zero (omega arith)))
    (all_make _ _ (λ k lt. ltb_yes (byte_at (frame_text (kind ∷ bs) ++ r) k) 256 (rw (byte_in (kind ∷ bs) r h k lt) (h k)))))
    (eqb_yes _ _ (feed_in (kind ∷ bs) r))

-- ---- a frame that was read

record IsWhole (kind n : ℕ) (s : List ℕ) : Type 0 where
  kind_first : byte_at s 0 ≡ kind
  bytes : (k : ℕ) → k < n → byte_at s k < 256
  feed : get_or s (2 * n) 0 ≡ 10

is_whole : (kind n : ℕ) (s : List ℕ) → whole kind n s ≡ true → IsWhole kind n s
unfolding whole
is_whole kind n s e =
    let bytes_ok = all_below n (λ k. ltb (byte_at s k) 256) in
    let feed_ok = eqb (get_or s (2 * n) 0) 10 in
    let kind_ok = eqb (byte_at s 0) kind in
    let front = and_left (kind_ok && bytes_ok) feed_ok e in
    record {
      kind_first = eqb_is _ _ (and_left kind_ok bytes_ok front);
      bytes = λ k lt. ltb_is _ _ (all_at n _ (and_right kind_ok bytes_ok front) k lt);
      feed = eqb_is _ _ (and_right (kind_ok && bytes_ok) feed_ok e);
    }

pub whole_kind : (kind n : ℕ) (s : List ℕ) → kind < 256 → whole kind n s ≡ true → value_at s 0 ≡ kind
whole_kind kind n s h e = let k = (is_whole kind n s e).kind_first in omega arith

feed_long : (n : ℕ) (s : List ℕ) → get_or s n 0 ≡ 10 → n < length s
feed_long n [] e = absurd (let z : ◌≡◌ {A = ℕ} 0 10 = e in omega arith)
feed_long zero (c ∷ s) e = omega arith
feed_long (suc n) (c ∷ s) e = let h = feed_long n s e in omega arith

pub whole_long : (kind n : ℕ) (s : List ℕ) → whole kind n s ≡ true → frame_length n ≤ length s
whole_long kind n s e = let h = feed_long (2 * n) s (is_whole kind n s e).feed in omega arith

-- two characters at the front that are a byte
front : (c d : ℕ) (s : List ℕ) → byte_at (c ∷ d ∷ s) 0 < 256 →
    (hex_digit (value_at (c ∷ d ∷ s) 0 / 16) ≡ c) × (hex_digit (value_at (c ∷ d ∷ s) 0 % 16) ≡ d)
unfolding byte_at
front c d s h =
    let e = byte_digits c d h in
    let v : value_at (c ∷ d ∷ s) 0 ≡ pair_of (digit_of c) (digit_of d) = omega arith in
    (ap (λ (b : ℕ). hex_digit (b / 16)) v ∙ e.0, ap (λ (b : ℕ). hex_digit (b % 16)) v ∙ e.1)

line_text :
    (n : ℕ) (s : List ℕ) → ((k : ℕ) → k < n → byte_at s k < 256) → get_or s (2 * n) 0 ≡ 10 →
    s ≡ frame_text (listed n (value_at s)) ++ drop (frame_length n) s
unfolding listed
line_text zero [] h f = absurd (let z : ◌≡◌ {A = ℕ} 0 10 = f in omega arith)
line_text zero (c ∷ s) h f = ap (λ (x : ℕ). x ∷ s) f
line_text (suc n) [] h f = absurd (let z : ◌≡◌ {A = ℕ} 0 10 = f in omega arith)
line_text (suc n) (c ∷ []) h f =
    absurd (let z : ◌≡◌ {A = ℕ} 0 10 = ap (λ (i : ℕ). get_or (c ∷ []) i 0) (sym (twice_suc n)) ∙ f in omega arith)
line_text (suc n) (c ∷ d ∷ s) h f =
    let e : frame_length (suc n) ≡ suc (suc (frame_length n)) = omega arith in
    let g = front c d s (h zero (omega arith)) in
    let r =
    line_text n s
    (λ k lt. let b = h (suc k) (omega arith) in let q = byte_next c d s k in omega arith)
    (ap (λ (i : ℕ). get_or (c ∷ d ∷ s) i 0) (sym (twice_suc n)) ∙ f)
    in
    let same : listed n (value_at s) ≡ listed n (λ k. value_at (c ∷ d ∷ s) (suc k)) =
    listed_same n _ _ (λ k lt. ap (λ (b : ℕ). b % 256) (sym (byte_next c d s k)))
    in
    ap (λ (x : ℕ). x ∷ d ∷ s) (sym g.0)
    ∙ ap (λ (x : ℕ). hex_digit (value_at (c ∷ d ∷ s) 0 / 16) ∷ x ∷ s) (sym g.1)
    ∙ ap (λ (x : List ℕ). hex_digit (value_at (c ∷ d ∷ s) 0 / 16) ∷ hex_digit (value_at (c ∷ d ∷ s) 0 % 16) ∷ x)
    (r ∙ ap (λ (l : List ℕ). frame_text l ++ drop (frame_length n) s) same)
    ∙ ap (λ (m : ℕ). frame_text (listed (suc n) (value_at (c ∷ d ∷ s))) ++ drop m (c ∷ d ∷ s)) (sym e)

-- a frame that is whole is the text of its bytes
pub whole_text : (kind n : ℕ) (s : List ℕ) → whole kind n s ≡ true → s ≡ frame_text (listed n (value_at s)) ++ drop (frame_length n) s
whole_text kind n s e = let w = is_whole kind n s e in line_text n s w.bytes w.feed

-- a whole frame is the text of its kind and its values
pub whole_said :
    (kind n : ℕ) (s : List ℕ) → kind < 256 → whole kind (suc n) s ≡ true →
    s ≡ frame_text (kind ∷ listed n (λ k. value_at s (suc k))) ++ drop (frame_length (suc n)) s
unfolding listed
whole_said kind n s h e =
    whole_text kind (suc n) s e
    ∙ ap (λ (b : ℕ). frame_text (b ∷ listed n (λ k. value_at s (suc k))) ++ drop (frame_length (suc n)) s) (whole_kind kind (suc n) s h e)

-- ---- whole exactly

listed_bytes : (n : ℕ) (f : ℕ → ℕ) → ((k : ℕ) → f k < 256) → Bytes (listed n f)
unfolding listed
listed_bytes zero f h = λ k. lit< tt
listed_bytes (suc n) f h = bytes_more (f zero) (listed n (λ k. f (suc k))) (h zero) (listed_bytes n (λ k. f (suc k)) (λ k. h (suc k)))

-- a text begins with a whole frame exactly where it begins with the text of one
pub whole_exactly : (kind n : ℕ) (s : List ℕ) → kind < 256 → (whole kind (suc n) s ≡ true) ↔ Begins kind n s
whole_exactly kind n s lt = (
  λ e. (
    listed n (λ k. value_at s (suc k)),
    drop (frame_length (suc n)) s,
    length_listed n (λ k. value_at s (suc k)),
    listed_bytes n (λ k. value_at s (suc k)) (λ k. omega arith),
    whole_said kind n s lt e,
  ),
  λ h.
      let (bs, r, long, each, is) = h in
      rw (← long, is) (whole_back kind bs r (bytes_more kind bs lt each)),
)

-- ---- and by its own characters alone

byte_front : (m : ℕ) (s : List ℕ) (k : ℕ) → 2 * k + 1 < m → byte_at (take m s) k ≡ byte_at s k
unfolding byte_at
byte_front m s k lt = rw (get_or-take m s (2 * k) 0 (omega arith), get_or-take m s (2 * k + 1) 0 lt)

pub whole_front : (kind n : ℕ) (s : List ℕ) → whole kind (suc n) (take (frame_length (suc n)) s) ≡ whole kind (suc n) s
unfolding whole
whole_front kind n s =
    let m = frame_length (suc n) in
    rw (
      byte_front m s 0 (omega arith),
      all_cong (suc n) (λ k. ltb (byte_at (take m s) k) 256) (λ k. ltb (byte_at s k) 256) (λ k lt. rw (byte_front m s k (omega arith))),
      get_or-take m s (2 * suc n) 0 (omega arith),
    )
