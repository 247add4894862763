-- Laws of the lent buffer: what a turn leaves in its part is what the turn around it leaves in the whole. Only the checker need believe this
-- file.
use mathlib.Core.Path.{◌≡◌, refl, sym, ap, ◌∙◌}
use mathlib.Core.List.{List, [], ◌∷◌, ◌++◌, append_assoc, append-nil}
use Prim.Native.Nat.{ℕ, ◌+◌, ◌-◌, ◌*◌, ◌≤◌}
use native.Mathlib.Omega.{arith}
use lib.ListN.{length, take, drop, length-append, length-drop, take-append-drop}
use lib.Seq.{length-take-le, take_at, drop-drop, drop-append-le, drop-length}
use borrow.Rule.Slice.PartMut.{put_mid, Post-is}
use Rattle.network.proofs.Booleans.{leb_yes}
use Rattle.plan.specs.Faults.{put_at}
use Rattle.plan.proofs.SliceLaws.{rest, rest_is}
use Rattle.tree.specs.declared.Node.{Node}
use Rattle.tree.specs.Parts.{node_bytes}
use Rattle.turns.specs.Turns.{Leaves}

-- nothing is written yet
pub untouched : (n : ℕ) (xs : List ℕ) → 3 * n ≤ length xs → Leaves [] n xs xs
untouched n xs h =
    record {
      scratch = take (3 * n) xs;
      bounded = let e = length-take-le (3 * n) xs h in omega arith;
      is = sym (take-append-drop (3 * n) xs);
    }

module _ (tree : List ℕ) (n : ℕ) (xs ys : List ℕ) (l : Leaves tree n xs ys) where
  -- the tree counts as scratch
  pub given_up : Leaves [] n xs ys
  given_up =
      record {
        scratch = tree ++ l.scratch;
        bounded = let e = length-append tree l.scratch in let b = l.bounded in omega arith;
        is = l.is ∙ sym (append_assoc tree l.scratch (drop (3 * n) xs));
      }

  pub front_is : (k : ℕ) → length tree ≡ k → take k ys ≡ tree
  front_is k e = ap (take k) l.is ∙ take_at tree (l.scratch ++ drop (3 * n) xs) k e

  pub same_length : 3 * n ≤ length xs → length ys ≡ length xs
  same_length h =
      let a = length-append tree (l.scratch ++ drop (3 * n) xs) in
      let b = length-append l.scratch (drop (3 * n) xs) in
      let c = length-drop (3 * n) xs in
      let d = l.bounded in
      ap length l.is ∙ omega arith

  -- behind a front, a turn with room for k nodes wrote another tree
  pub behind_front :
      (front other : List ℕ) (k : ℕ) (es : List ℕ) → length front + 3 * k ≤ 3 * n → Leaves other k (drop (length front) ys) es →
      Leaves (front ++ other) n xs (front ++ es)
  behind_front front other k es h w =
      let a = length front in
      let old = given_up in
      let sc = old.scratch in
      let long = old.bounded in
      let rest : drop (3 * k) (drop a ys) ≡ drop (a + 3 * k) sc ++ drop (3 * n) xs
      = drop-drop (3 * k) a ys ∙ ap (drop (a + 3 * k)) old.is ∙ drop-append-le (a + 3 * k) sc (drop (3 * n) xs) (omega arith) in
      let b = length-append front other in
      let c = length-append w.scratch (drop (a + 3 * k) sc) in
      let d = length-drop (a + 3 * k) sc in
      let e = w.bounded in
      record {
        scratch = w.scratch ++ drop (a + 3 * k) sc;
        bounded = omega arith;
        is =
            ap (λ (z : List ℕ). front ++ z) (w.is ∙ ap (λ (z : List ℕ). other ++ (w.scratch ++ z)) rest
            ∙ ap (λ (z : List ℕ). other ++ z) (sym (append_assoc w.scratch (drop (a + 3 * k) sc) (drop (3 * n) xs))))
            ∙ sym (append_assoc front other ((w.scratch ++ drop (a + 3 * k) sc) ++ drop (3 * n) xs));
      }

-- ---- a part that runs to the end, as it is lent and as it comes back

pub lent_length : (a : ℕ) (b : List ℕ) → length (rest a b) ≡ length b - a
lent_length a b = ap length (rest_is a b) ∙ length-drop a b

pub comes_back : (a : ℕ) (b es : List ℕ) → a ≤ length b → put_mid a (length b - a) b es ≡ take a b ++ es
comes_back a b es h =
    ap (λ (r : List ℕ). take a b ++ (es ++ r)) (Post-is a (length b) b h ∙ drop-length b)
    ∙ ap (λ (r : List ℕ). take a b ++ r) (append-nil es)

-- a node stored in front of the part
pub node_put : (b es : List ℕ) (v : Node) → 3 ≤ length b → put_at (take 3 b ++ es) 0 (node_bytes v) ≡ node_bytes v ++ es
node_put [] es v h = absurd (omega arith)
node_put (x ∷ []) es v h = absurd (omega arith)
node_put (x ∷ y ∷ []) es v h = absurd (omega arith)
node_put (x ∷ y ∷ z ∷ b) es v h = rw (leb_yes 3 (length (x ∷ y ∷ z ∷ es)) (omega arith)) refl
