-- Theorems on tree texts: they read back exactly, the bytes of each tree have one text only, and 10 and 5 are each given exactly. Read the
-- statements; only the checker need believe the proofs.
use mathlib.Core.Path.{◌≡◌, refl, sym, ap, ◌∙◌, subst}
use mathlib.Core.Logic.{◌↔◌, by_cases}
use mathlib.Core.Bool.{true}
use mathlib.Core.List.{List, ◌++◌}
use Prim.Native.Nat.{ℕ, ◌≤◌, ◌<◌, ◌*◌}
use native.Mathlib.Omega.{arith}
use native.Mathlib.Decide.{dec_lt}
use lib.ListN.{length, drop, take, replicate}
use lib.Seq.{take_at}
use Rattle.std.specs.Prelude.{Result, Ok, Err}
use Rattle.plan.specs.declared.Refusal.{Refusal}
use Rattle.plan.specs.declared.Refusal.TheVariants as refusal
use Rattle.plan.specs.Answer.{Answer, fine, refused}
use Rattle.plan.specs.Faults.{filled}
use Rattle.frame.specs.Frame.{Bytes}
use Rattle.frame.specs.ReadFrame.{value_at}
use Rattle.frame.proofs.RunLaws.{filled_is, filled_front}
use Rattle.frame.proofs.ReadingLaws.{answer_ok, answer_err}
use Rattle.tree.specs.Nodes.{node_count, most_bytes, legal_length}
use Rattle.tree.proofs.NodeLaws.{legal_is}
use Rattle.tree_text.specs.TreeText.{tree_text}
use Rattle.tree_text.specs.TreeRead.{tree_read_answer}
use Rattle.tree_text.specs.WriteTree.{write_tree, write_tree_leaves}
use Rattle.tree_text.specs.ReadTree.{read_nodes, bytes_in, read_tree, read_tree_leaves}
use Rattle.tree_text.proofs.TreeTextLaws.{reads, one_text, bytes_length, bytes_in_bytes, reads_legal, counts_back, bytes_back, writes, reads_whole, text_length, nodes_refused, reads_with_room, reads_without_room, room_of}

-- A text reads as a tree of these bytes exactly where it is their text and they have a legal length. (`Bytes`: every entry is below 256.)
pub read_exactly :
    (t bs : List ℕ) → Bytes bs →
    ((read_nodes t ≡ fine (node_count bs)) × (bytes_in (node_count bs) t ≡ bs)) ↔ ((t ≡ tree_text bs) × (legal_length (length bs) ≡ true))
read_exactly t bs h = (
  λ e.
      let r = reads t (ap (λ (x : Answer ℕ). x.fault) e.0) in
      let n = ap (λ (x : Answer ℕ). x.value) (sym r.counted ∙ e.0) in
      let b = ap (λ (m : ℕ). bytes_in m t) n ∙ e.1 in
      (one_text _ t r ∙ ap tree_text b, ap (λ (x : List ℕ). legal_length (length x)) (sym b) ∙ reads_legal _ t r),
  λ e.
      (ap read_nodes e.0 ∙ counts_back bs h e.1, ap (bytes_in (node_count bs)) e.0 ∙ bytes_back bs h e.1),
)

-- whatever reads is such a text: of the bytes that are read from it, three to a node
pub whatever_reads :
    (t : List ℕ) (n : ℕ) → read_nodes t ≡ fine n →
    (t ≡ tree_text (bytes_in n t)) × (length (bytes_in n t) ≡ 3 * n) × Bytes (bytes_in n t) × (legal_length (length (bytes_in n t)) ≡ true)
whatever_reads t n e =
    let r = reads t (ap (λ (x : Answer ℕ). x.fault) e) in
    let m = ap (λ (x : Answer ℕ). x.value) (sym r.counted ∙ e) in (
      one_text _ t r ∙ ap (λ (k : ℕ). tree_text (bytes_in k t)) m,
      bytes_length n t,
      bytes_in_bytes n t,
      ap (λ (k : ℕ). legal_length (length (bytes_in k t))) (sym m) ∙ reads_legal _ t r,
    )

-- a text that is refused is refused with 5, and no node is counted
pub refused_with_five : (t : List ℕ) → ¬ ((read_nodes t).fault ≡ 0) → read_nodes t ≡ refused 0 refusal.TreeText
refused_with_five t ne = nodes_refused t ne

-- t is the text of a tree's bytes
abbrev pub TextOf : List ℕ → List ℕ → Type 0
TextOf bs t = (t ≡ tree_text bs) × Bytes bs × (legal_length (length bs) ≡ true)

-- and that exactly where it is no tree's text: malformed anywhere, or with a node count outside 1 to 191
pub refused_exactly : (t : List ℕ) → (read_nodes t ≡ refused 0 refusal.TreeText) ↔ (¬ ((bs : List ℕ) × TextOf bs t))
refused_exactly t = (
  λ e h.
      let (bs, text) = h in
      let (is, byte, legal) = text in
      let none = ap (λ (x : Answer ℕ). x.fault) (sym e ∙ ((read_exactly t bs byte).1 (is, legal)).0) in
      omega arith,
  λ n. nodes_refused t (λ z.
      let (is, _, byte, legal) = whatever_reads t (value_at t 1) (reads t z).counted in
      n (bytes_in (value_at t 1) t, (is, byte, legal))),
)

-- ---- the call itself, whatever the text and the lent buffer

-- It answers the node count and puts these bytes, three to a node, into the buffer's front, where the rest stays, exactly where the buffer has
-- room and the text is theirs. (Without "three to a node" a byte more could stand in the buffer by chance.)
pub read_tree_exactly :
    (t bs xs : List ℕ) →
    ((read_tree t xs ≡ fine (node_count bs)) × (read_tree_leaves t xs ≡ bs ++ drop (length bs) xs) × (length bs ≡ 3 * node_count bs))
    ↔ ((most_bytes ≤ length xs) × TextOf bs t)
read_tree_exactly t bs xs =
    let n = node_count bs in (
      λ e.
          let answer = e.0 in
          let room = room_of t xs (λ z. let zero = sym (ap (λ (x : Answer ℕ). x.fault) answer) ∙ z in omega arith) in
          let read : read_nodes t ≡ fine n = sym (reads_with_room t xs room) ∙ answer in
          let left : read_tree_leaves t xs ≡ bytes_in n t ++ drop (length (bytes_in n t)) xs =
          ap (λ (x : Answer ℕ). filled x.fault (bytes_in x.value t) xs) answer ∙ filled_is (bytes_in n t) xs in
          let same : bytes_in n t ≡ bs =
          sym (take_at (bytes_in n t) (drop (length (bytes_in n t)) xs) (3 * n) (bytes_length n t))
          ∙ ap (take (3 * n)) (sym left ∙ e.1)
          ∙ take_at bs (drop (length bs) xs) (3 * n) e.2 in
          let byte = subst Bytes same (bytes_in_bytes n t) in
          let is = (read_exactly t bs byte).0 (read, same) in
          (room, (is.0, byte, is.1)),
      λ h.
          let (room, text) = h in
          let (is, byte, legal) = text in
          let (read, same) = (read_exactly t bs byte).1 (is, legal) in
          let answer : read_tree t xs ≡ fine n = reads_with_room t xs room ∙ read in (
            answer,
            ap (λ (x : Answer ℕ). filled x.fault (bytes_in x.value t) xs) answer ∙ ap (λ (l : List ℕ). filled 0 l xs) same
                ∙ filled_is bs xs,
            (legal_is (length bs) legal).threes,
          ),
    )

-- 10 exactly where the buffer has no room, before the text is looked at
pub buffer_refused_exactly : (t xs : List ℕ) → (read_tree t xs ≡ refused 0 refusal.Buffer) ↔ (length xs < most_bytes)
buffer_refused_exactly t xs = (
  λ e. by_cases (dec_lt (length xs) most_bytes)
      (λ short. short)
      (λ long.
      let r = sym (reads_with_room t xs (omega arith)) ∙ e in
      let f = ap (λ (x : Answer ℕ). x.fault) (sym (nodes_refused t (λ z.
      let ten = sym z ∙ ap (λ (x : Answer ℕ). x.fault) r in omega arith)) ∙ r) in
      absurd (omega arith)),
  reads_without_room t xs,
)

-- 5 exactly where it has, and the text is no tree's
pub text_refused_exactly :
    (t xs : List ℕ) → (read_tree t xs ≡ refused 0 refusal.TreeText) ↔ ((most_bytes ≤ length xs) × ¬ ((bs : List ℕ) × TextOf bs t))
text_refused_exactly t xs = (
  λ e.
      let room = room_of t xs (λ z. let other = sym (ap (λ (x : Answer ℕ). x.fault) e) ∙ z in omega arith) in
      (room, (refused_exactly t).0 (sym (reads_with_room t xs room) ∙ e)),
  λ h. reads_with_room t xs h.0 ∙ (refused_exactly t).1 h.1,
)

-- what `read_tree` hands back, by its promise, is that answer
module _ (t xs : List ℕ) (r : Result ℕ Refusal) (promise : tree_read_answer r ≡ read_tree t xs) where
  pub handed_nodes : (n : ℕ) → (r ≡ Ok n) ↔ (read_tree t xs ≡ fine n)
  handed_nodes n = (λ e. sym promise ∙ ap tree_read_answer e, λ e. answer_ok 0 r n (promise ∙ e))

  pub handed_refusal : (k : Refusal) → (r ≡ Err k) ↔ (read_tree t xs ≡ refused 0 k)
  handed_refusal k = (λ e. sym promise ∙ ap tree_read_answer e, λ e. answer_err 0 r k (ap (λ (x : Answer ℕ). x.fault) (promise ∙ e)))

-- ---- writing and reading back

-- what was written reads back, from one buffer as the writing left it into another
pub written_reads_back :
    (bs : List ℕ) → Bytes bs → legal_length (length bs) ≡ true → (xs : List ℕ) → length (tree_text bs) ≤ length xs →
    (write_tree bs xs ≡ fine (length (tree_text bs)))
    × ((ys : List ℕ) → most_bytes ≤ length ys →
    let t = take (write_tree bs xs).value (write_tree_leaves bs xs) in
    (read_tree t ys ≡ fine (node_count bs))
    × (read_tree_leaves t ys ≡ bs ++ drop (length bs) ys))
written_reads_back bs h e xs room =
    let t = tree_text bs in
    let w = writes bs xs e room in
    let back : take (write_tree bs xs).value (filled (write_tree bs xs).fault t xs) ≡ t =
    ap (λ (x : Answer ℕ). take x.value (filled x.fault t xs)) w ∙ filled_front t xs
    in
    let n = node_count bs in
    let read : (ys : List ℕ) → most_bytes ≤ length ys → read_tree t ys ≡ fine n = λ ys long. reads_whole t n ys (counts_back bs h e) long in (
      w,
      λ ys long. (
        ap (λ (u : List ℕ). read_tree u ys) back ∙ read ys long,
        ap (λ (u : List ℕ). filled (read_tree u ys).fault (bytes_in (read_tree u ys).value u) ys) back
            ∙ ap (λ (x : Answer ℕ). filled x.fault (bytes_in x.value t) ys) (read ys long)
            ∙ ap (λ (l : List ℕ). filled 0 l ys) (bytes_back bs h e)
            ∙ filled_is bs ys,
      ),
    )

-- the longest tree text has 1,724 bytes
pub at_most_1724 : (bs : List ℕ) → legal_length (length bs) ≡ true → length (tree_text bs) ≤ 1724
at_most_1724 bs e = let l = legal_is (length bs) e in let k = text_length bs in omega arith

pub reached_1724 : (bs : List ℕ) × (legal_length (length bs) ≡ true) × (length (tree_text bs) ≡ 1724)
unfolding legal_length
reached_1724 = (replicate 573 0, refl, text_length (replicate 573 0))
