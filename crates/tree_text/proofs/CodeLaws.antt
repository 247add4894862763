-- Laws of tree texts as the code reads and writes them. Only the checker need believe this file.
use mathlib.Core.Path.{◌≡◌, refl, sym, ap, ◌∙◌, subst}
use mathlib.Core.Bool.{true, false}
use mathlib.Core.List.{List}
use Prim.Native.Nat.{ℕ, ◌+◌, ◌-◌, ◌*◌, ◌/◌, ◌≤◌, ◌<◌}
use native.Mathlib.Omega.{arith}
use native.Mathlib.Nat.{zero-add}
use lib.ListN.{length, drop}
use lib.Seq.{sets, sets-eq}
use borrow.Author.Tests.{le-leb, lt-leb}
use Rattle.network.specs.Mask.{join_below}
use Rattle.network.proofs.Booleans.{leb_yes}
use Rattle.std.specs.Prelude.{Result, Ok, Err}
use Rattle.plan.specs.declared.Refusal.{Refusal}
use Rattle.plan.specs.declared.Refusal.TheVariants as refusal
use Rattle.plan.specs.Answer.{Answer, fine, refused}
use Rattle.plan.specs.Faults.{unless, first, answered, filled, put_at}
use Rattle.plan.proofs.RefusalLaws.{some_number}
use Rattle.frame.specs.ReadFrame.{frame_length}
use Rattle.frame.specs.Texts.{frames_from, at_end}
use Rattle.frame.specs.Written.{written_answer}
use Rattle.frame.proofs.RunLaws.{filled_is}
use Rattle.plan.proofs.SliceLaws.{rest, rest_is}
use Rattle.frame.proofs.ReadingLaws.{frames_on}
use Rattle.frame.proofs.WritingLaws.{sets_append, join_next, write_refused, write_short, write_done}
use Rattle.tree.specs.declared.Node.{Node}
use Rattle.tree.specs.Nodes.{node_count, most_bytes, legal_length}
use Rattle.tree.specs.Parts.{node_bytes, node_at}
use Rattle.tree_text.specs.TreeText.{tree_head_text, tree_text}
use Rattle.tree_text.specs.WriteTree.{node_text}
use Rattle.tree_text.specs.WriteTree.{write_tree, write_tree_leaves}
use Rattle.tree_text.specs.TreeRead.{tree_read_answer}
use Rattle.tree_text.specs.ReadTree.{read_node, read_nodes, node_in, bytes_in, read_tree, read_tree_leaves}
use Rattle.tree_text.proofs.TreeTextLaws.{node_reader, Reads, reads, node_fine, one_text, bytes_length, text_length, reads_whole}

-- ---- reading

-- a run of node frames goes on behind one that is whole
pub nodes_on :
    (n k : ℕ) (s : List ℕ) → k < n → (read_node n s).fault ≡ 0 →
    frames_from node_reader 4 (at_end 0 refusal.TreeText) (n - k) k n s
    ≡ frames_from node_reader 4 (at_end 0 refusal.TreeText) (n - (k + 1)) (k + 1) n (rest 9 s)
nodes_on n k s lt e = frames_on node_reader 4 (at_end 0 refusal.TreeText) n k n s lt (sym (node_fine n s e).1) refl

-- node k stored behind the nodes before it
pub node_put :
    (t xs ys : List ℕ) (k : ℕ) (v : Node) {zs : List ℕ} → ys ≡ sets xs 0 (bytes_in k t) → 3 * k + 3 ≤ length ys →
    v ≡ node_in (rest (5 + 9 * k) t) → zs ≡ put_at ys (3 * k) (node_bytes v) → zs ≡ sets xs 0 (bytes_in (k + 1) t)
node_put t xs ys k v y room is z =
    join_next (λ i. node_bytes (node_in (drop (5 + 9 * i) t))) 3 (λ i. refl) xs 0 (3 * k) k (omega arith)
    (z
    ∙ rw (leb_yes (3 * k + 3) (length ys) room, is, rest_is (5 + 9 * k) t)
    (ap (λ (l : List ℕ). sets l (3 * k) (node_bytes (node_in (drop (5 + 9 * k) t)))) y))

-- what is answered, and what is left in the buffer
module _ (t xs : List ℕ) where
  abbrev ReadAnswers : Result ℕ Refusal → List ℕ → Type 0
  ReadAnswers r ys = (tree_read_answer r ≡ read_tree t xs) × (ys ≡ read_tree_leaves t xs)

  pub read_short : length xs < most_bytes → ReadAnswers (Err refusal.Buffer) xs
  unfolding read_tree answered first unless filled
  read_short h = (rw (lt-leb most_bytes (length xs) h), rw (lt-leb most_bytes (length xs) h))

  pub read_refused : most_bytes ≤ length xs → (r : Refusal) → refused 0 r ≡ read_nodes t → ReadAnswers (Err r) xs
  unfolding read_tree answered first unless filled
  read_refused h r e =
      (rw (le-leb most_bytes (length xs) h, ← e) (simp (some_number r)), rw (le-leb most_bytes (length xs) h, ← e) (simp (some_number r)))

  module _ (n : ℕ) (e : fine n ≡ read_nodes t) where
    counted : Reads n t
    counted =
        let r = reads t (sym (ap (λ (a : Answer ℕ). a.fault) e)) in
        subst (λ (m : ℕ). Reads m t) (ap (λ (a : Answer ℕ). a.value) (sym r.counted ∙ sym e)) r

    pub read_room : (frame_length 2 + frame_length 4 * n ≤ length t) × (3 * n ≤ most_bytes)
    read_room =
        let d : length (bytes_in n t) / 3 ≡ n = omega (arith, bytes_length n t) in
        let l = ap length (one_text n t counted) ∙ text_length (bytes_in n t) in
        (omega (arith, l, d), omega (arith, counted.most))

    pub read_done : most_bytes ≤ length xs → ReadAnswers (Ok n) (sets xs 0 (bytes_in n t))
    read_done h =
        let is = reads_whole t n xs (sym e) h in
        let long : length (bytes_in n t) ≤ length xs = omega (arith, bytes_length n t, read_room.1) in
        (sym is, rw is (rw zero-add at (sets-eq (bytes_in n t) xs 0 (omega arith)) ∙ sym (filled_is (bytes_in n t) xs)))

-- ---- writing

module _ (bs : List ℕ) where
  abbrev pub node_text_lem : ℕ → List ℕ
  node_text_lem k = node_text (node_at bs k)

  abbrev nodes : ℕ
  nodes = node_count bs

  abbrev length_fault : ℕ
  length_fault = unless (legal_length (length bs)) refusal.Shape

  module _ (xs : List ℕ) where
    abbrev Answers : Result ℕ Refusal → List ℕ → Type 0
    Answers r ys = (written_answer r ≡ write_tree bs xs) × (ys ≡ write_tree_leaves bs xs)

    -- the two parts stored one after the other
    abbrev put : List ℕ
    put = sets (sets xs 0 (tree_head_text nodes)) 5 (join_below nodes node_text_lem)

    tree_put : put ≡ sets xs 0 (tree_text bs)
    unfolding tree_text
    tree_put = sym (sets_append xs 0 (tree_head_text nodes) (join_below nodes node_text_lem))

    pub tree_refused : legal_length (length bs) ≡ false → Answers (Err refusal.Shape) xs
    unfolding write_tree unless
    tree_refused e = write_refused length_fault (tree_text bs) xs refusal.Shape (rw e)

    pub tree_short : legal_length (length bs) ≡ true → length xs < 5 + 9 * nodes → Answers (Err refusal.Buffer) xs
    unfolding write_tree unless
    tree_short e h = write_short length_fault (tree_text bs) xs (rw e) (rw (text_length bs) h)

    pub tree_written_lem : legal_length (length bs) ≡ true → 5 + 9 * nodes ≤ length xs → Answers (Ok (5 + 9 * nodes)) put
    unfolding write_tree unless
    tree_written_lem e h = rw (tree_put, ← text_length bs) (write_done length_fault (tree_text bs) xs (rw e) (rw (text_length bs) h))
