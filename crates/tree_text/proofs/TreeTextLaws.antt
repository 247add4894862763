-- Laws of tree texts: what reads is a text of bytes, and such a text reads back. Only the checker need believe this file.
use mathlib.Core.Path.{◌≡◌, refl, sym, ap, ◌∙◌}
use mathlib.Core.Logic.{by_cases, ◌⊎◌, inl, inr}
use mathlib.Core.Bool.{Bool, true, ◌&&◌}
use mathlib.Core.List.{List, [], ◌∷◌, ◌++◌, append_assoc, append-nil}
use Prim.Native.Nat.{ℕ, zero, suc, ◌+◌, ◌*◌, ◌/◌, ◌≤◌, ◌<◌}
use native.Mathlib.Omega.{arith}
use native.Mathlib.Nat.{not-suc-le-zero}
use native.Mathlib.Decide.{dec_lt}
use lib.Dec.{leb, eqb, lit<}
use lib.ListN.{length, get_or, drop, length-append}
use lib.Seq.{drop-drop}
use Rattle.network.specs.Mask.{join_below}
use Rattle.network.proofs.Booleans.{by_test, and_left, and_right, and_make, leb_yes, leb_no, leb_is, eqb_is, differs}
use Rattle.network.proofs.JoinLaws.{join_cong, join_length, drop_to_piece}
use Rattle.plan.specs.declared.Refusal.TheVariants as refusal
use Rattle.plan.specs.Refusal.{refusal_number}
use Rattle.plan.specs.Answer.{Answer, fine, refused}
use Rattle.plan.specs.Faults.{unless, first, answered}
use Rattle.plan.specs.Plan.{listed}
use Rattle.frame.specs.Frame.{Bytes}
use Rattle.frame.specs.ReadFrame.{frame_length, value_at, whole}
use Rattle.frame.specs.Texts.{frame_fault, at_end}
use Rattle.frame.proofs.FrameLaws.{bytes, bytes_append, value_back, whole_back, frame_behind, whole_said}
use Rattle.plan.proofs.AnswerLaws.{unless_of}
use Rattle.frame.proofs.RunLaws.{frame_fault_of, then_each, run_each, frame_read, frame_read_is, at_end_lem, at_end_is, then_goes, then_fine, run_back, run_invariant}
use Rattle.tree.specs.Nodes.{node_count, most_bytes, legal_length}
use Rattle.tree.specs.Parts.{node_bytes, node_at}
use Rattle.tree.specs.Parts.{most_nodes}
use Rattle.tree.proofs.NodeLaws.{nodes_length, node_of_bytes, bytes_of_nodes, legal_is, legal_make}
use Rattle.tree_text.specs.TreeText.{tree_head_text, tree_text}
use Rattle.tree_text.specs.WriteTree.{node_text}
use Rattle.tree_text.specs.WriteTree.{write_tree}
use Rattle.tree_text.specs.ReadTree.{read_tree, read_tree_head, read_node, read_behind, read_nodes, node_in, bytes_in}

-- where node k of a tree text stands
abbrev place : ℕ → ℕ
place k = frame_length 2 + frame_length 4 * k

-- a node's number does not matter to its reader
abbrev pub node_reader : ℕ → ℕ → List ℕ → Answer ℕ
node_reader n k = read_node n

-- ---- a text that reads

pub record Reads (n : ℕ) (t : List ℕ) : Type 0 where
  pub counted : read_nodes t ≡ fine n
  pub some : 1 ≤ n
  pub most : n ≤ most_nodes
  head : t ≡ tree_head_text n ++ drop (frame_length 2) t
  node : (k : ℕ) → k < n → whole 5 4 (drop (place k) t) ≡ true
  ends : drop (place n) t ≡ []

head_text_lem : (t : List ℕ) → whole 4 2 t ≡ true → t ≡ tree_head_text (value_at t 1) ++ drop (frame_length 2) t
unfolding listed
head_text_lem t w = whole_said 4 1 t (lit< tt) w

node_text_lem : (s : List ℕ) → whole 5 4 s ≡ true → s ≡ node_text (node_in s) ++ drop (frame_length 4) s
unfolding listed
node_text_lem s w = whole_said 5 3 s (lit< tt) w

pub node_fine : (n : ℕ) (s : List ℕ) → (read_node n s).fault ≡ 0 → (whole 5 4 s ≡ true) × (read_node n s ≡ fine n)
unfolding read_node
node_fine n s e = let (w, _, is) = frame_read_is 0 refusal.TreeText refusal.TreeText (whole 5 4 s) true n e in (w, is)

end_fine : (n : ℕ) (s : List ℕ) → (at_end 0 refusal.TreeText n s).fault ≡ 0 → (s ≡ []) × (at_end 0 refusal.TreeText n s ≡ fine n)
end_fine n s e =
    let z = at_end_is 0 refusal.TreeText n s e in (z, rw z (at_end_lem 0 refusal.TreeText n))

step_place : (k : ℕ) (t : List ℕ) → drop (frame_length 4) (drop (place k) t) ≡ drop (place (k + 1)) t
step_place k t =
    let e : place k + frame_length 4 ≡ place (k + 1) = omega arith in
    drop-drop (frame_length 4) (place k) t ∙ ap (λ (i : ℕ). drop i t) e

-- what stands behind the first k nodes, all of them whole
record SoFar (n : ℕ) (t : List ℕ) (k a : ℕ) (s : List ℕ) : Type 0 where
  count : a ≡ n
  rest : s ≡ drop (place k) t
  nodes : (j : ℕ) → j < k → whole 5 4 (drop (place j) t) ≡ true

one_more : (n : ℕ) (t : List ℕ) (k a : ℕ) (s : List ℕ) → SoFar n t k a s → (read_node a s).fault ≡ 0 →
    SoFar n t (k + 1) (read_node a s).value (drop (frame_length 4) s)
one_more n t k a s f e =
    let w = node_fine a s e in
    record {
      count = ap (λ (x : Answer ℕ). x.value) w.1 ∙ f.count;
      rest = ap (drop (frame_length 4)) f.rest ∙ step_place k t;
      nodes = λ j lt.
          by_cases (dec_lt j k) (f.nodes j)
          (λ ge. let z : j ≡ k = omega arith in rw z (ap (whole 5 4) (sym f.rest) ∙ w.0));
    }

all_nodes : (n : ℕ) (t : List ℕ) → (read_behind n (drop (frame_length 2) t)).fault ≡ 0 →
    (read_behind n (drop (frame_length 2) t) ≡ fine n) × ((k : ℕ) → k < n → whole 5 4 (drop (place k) t) ≡ true) × (drop (place n) t ≡ [])
all_nodes n t e =
    let start : SoFar n t 0 n (drop (frame_length 2) t) =
    record { count = refl; rest = refl; nodes = λ j lt. absurd (not-suc-le-zero lt) } in
    let r =
    run_invariant node_reader 4 (at_end 0 refusal.TreeText) (SoFar n t) n (λ k a s f lt z. one_more n t k a s f z) n 0 n
    (drop (frame_length 2) t) start (omega arith) e
    in
    let f = r.2 in
    let z = end_fine r.0 r.1 (ap (λ (x : Answer ℕ). x.fault) (sym r.3) ∙ e) in
    let m : 0 + n ≡ n = omega arith in
    (r.3 ∙ z.1 ∙ ap fine f.count, λ k lt. f.nodes k (omega arith), ap (λ (i : ℕ). drop (place i) t) (sym m) ∙ sym f.rest ∙ z.0)

head_fine_is : (t : List ℕ) → (read_tree_head t).fault ≡ 0 →
    (whole 4 2 t ≡ true) × (1 ≤ value_at t 1) × (value_at t 1 ≤ most_nodes) × (read_tree_head t ≡ fine (value_at t 1))
unfolding read_tree_head
head_fine_is t e =
    let n = value_at t 1 in
    let (w, good, is) = frame_read_is 0 refusal.TreeText refusal.TreeText (whole 4 2 t) (leb 1 n && leb n most_nodes) n e in
    (w, leb_is 1 n (and_left (leb 1 n) (leb n most_nodes) good), leb_is n most_nodes (and_right (leb 1 n) (leb n most_nodes) good), is)

pub reads : (t : List ℕ) → (read_nodes t).fault ≡ 0 → Reads (value_at t 1) t
unfolding read_nodes
reads t e =
    let n = value_at t 1 in
    let next : ℕ → Answer ℕ = λ a. read_behind a (drop (frame_length 2) t) in
    let h = head_fine_is t (then_fine (read_tree_head t) next e) in
    let goes : read_nodes t ≡ next n =
    then_goes (read_tree_head t) next (then_fine (read_tree_head t) next e) ∙ ap (λ (x : Answer ℕ). next x.value) h.3
    in
    let r = all_nodes n t (ap (λ (x : Answer ℕ). x.fault) (sym goes) ∙ e) in
    record { counted = goes ∙ r.0; some = h.1; most = h.2; head = head_text_lem t h.0; node = r.1; ends = r.2 }

nodes_text : (t : List ℕ) (n : ℕ) → ((k : ℕ) → k < n → whole 5 4 (drop (place k) t) ≡ true) →
    drop (frame_length 2) t ≡ join_below n (λ k. node_text (node_in (drop (place k) t))) ++ drop (place n) t
unfolding join_below
nodes_text t zero h = refl
nodes_text t (suc n) h =
    let g : ℕ → List ℕ = λ k. node_text (node_in (drop (place k) t)) in
    let e : place (n + 1) ≡ place (suc n) = omega arith in
    nodes_text t n (λ k lt. h k (omega arith))
    ∙ ap (λ (l : List ℕ). join_below n g ++ l)
    (node_text_lem (drop (place n) t) (h n (omega arith))
    ∙ ap (λ (l : List ℕ). g n ++ l) (step_place n t ∙ ap (λ (i : ℕ). drop i t) e))
    ∙ sym (append_assoc (join_below n g) (g n) (drop (place (suc n)) t))

-- it is the text of its bytes
pub one_text : (n : ℕ) (t : List ℕ) → Reads n t → t ≡ tree_text (bytes_in n t)
unfolding tree_text
one_text n t r =
    let l = nodes_length n (λ k. node_in (drop (place k) t)) in
    let d : length (bytes_in n t) / 3 ≡ n = omega arith in
    rw d
    (r.head
    ∙ ap (λ (l : List ℕ). tree_head_text n ++ l)
    (nodes_text t n r.node
    ∙ ap (λ (l : List ℕ). join_below n (λ k. node_text (node_in (drop (place k) t))) ++ l) r.ends
    ∙ append-nil _
    ∙ join_cong n _ _ (λ k lt. ap node_text (sym (node_of_bytes n (λ j. node_in (drop (place j) t)) k lt)))))

pub bytes_length : (n : ℕ) (t : List ℕ) → length (bytes_in n t) ≡ 3 * n
bytes_length n t = nodes_length n (λ k. node_in (drop (place k) t))

pub reads_legal : (n : ℕ) (t : List ℕ) → Reads n t → legal_length (length (bytes_in n t)) ≡ true
reads_legal n t r = rw (bytes_length n t) (legal_make n r.some r.most)

-- ---- a text that was written

node_bytes_lem : (bs : List ℕ) (k : ℕ) → Bytes bs → Bytes (5 ∷ node_bytes (node_at bs k))
node_bytes_lem bs k h = bytes (5 ∷ node_bytes (node_at bs k)) (lit< tt, (h (3 * k), (h (3 * k + 1), (h (3 * k + 2), tt))))

head_bytes : (n : ℕ) → n < 256 → Bytes (4 ∷ n ∷ [])
head_bytes n h = bytes (4 ∷ n ∷ []) (lit< tt, (h, tt))

module _ (bs : List ℕ) (all : Bytes bs) where
  -- the texts of the nodes, and what is read from them
  abbrev piece : ℕ → List ℕ
  piece k = node_text (node_at bs k)

  node_back : (n k : ℕ) (r : List ℕ) → read_node n (piece k ++ r) ≡ fine n
  unfolding read_node
  node_back n k r = frame_read 0 refusal.TreeText refusal.TreeText n (whole_back 5 (node_bytes (node_at bs k)) r (node_bytes_lem bs k all)) refl

  head_back : (n : ℕ) (r : List ℕ) → 1 ≤ n → n ≤ most_nodes → read_tree_head (tree_head_text n ++ r) ≡ fine n
  unfolding read_tree_head
  head_back n r s m =
      let b = head_bytes n (omega arith) in
      let v : value_at (tree_head_text n ++ r) 1 ≡ n = value_back (4 ∷ n ∷ []) r b 1 (omega arith) in
      rw v
      (frame_read 0 refusal.TreeText refusal.TreeText n (whole_back 4 (n ∷ []) r b) (and_make (leb_yes 1 n s) (leb_yes n most_nodes m)))

  -- the nodes and nothing behind them
  behind_back : (n : ℕ) → read_behind n (join_below n piece) ≡ fine n
  behind_back n =
      ap (read_behind n) (sym (append-nil (join_below n piece)))
      ∙ run_back node_reader 4 (at_end 0 refusal.TreeText) n (λ k. n) piece [] (λ k lt r. node_back n k r) (λ k lt. refl)
      ∙ at_end_lem 0 refusal.TreeText n

  pub counts_back : legal_length (length bs) ≡ true → read_nodes (tree_text bs) ≡ fine (node_count bs)
  unfolding read_nodes tree_text
  counts_back e =
      let n = node_count bs in
      let l = legal_is (length bs) e in
      let h = head_back n (join_below n piece) l.some l.most in
      then_goes (read_tree_head (tree_text bs)) _ (ap (λ (x : Answer ℕ). x.fault) h)
      ∙ ap (λ (x : Answer ℕ). read_behind x.value (drop (frame_length 2) (tree_text bs))) h
      ∙ ap (read_behind n) (frame_behind (4 ∷ n ∷ []) (join_below n piece))
      ∙ behind_back n

  node_in_back : (n k : ℕ) → k < n → node_in (drop (place k) (tree_head_text n ++ join_below n piece)) ≡ node_at bs k
  node_in_back n k lt =
      let d = drop_to_piece n (frame_length 4) piece (λ i l. refl) k lt in
      let e : drop (place k) (tree_head_text n ++ join_below n piece) ≡ piece k ++ d.0 =
      sym (drop-drop (frame_length 4 * k) (frame_length 2) (tree_head_text n ++ join_below n piece)) ∙ d.1
      in
      let v : (i : ℕ) → i < 4 → value_at (piece k ++ d.0) i ≡ get_or (5 ∷ node_bytes (node_at bs k)) i 0 =
      value_back (5 ∷ node_bytes (node_at bs k)) d.0 (node_bytes_lem bs k all)
      in
      ap node_in e ∙ rw (v 1 (omega arith), v 2 (omega arith), v 3 (omega arith))

  pub bytes_back : legal_length (length bs) ≡ true → bytes_in (node_count bs) (tree_text bs) ≡ bs
  unfolding tree_text
  bytes_back e =
      let n = node_count bs in
      join_cong n _ _ (λ k lt. ap node_bytes (node_in_back n k lt)) ∙ bytes_of_nodes n bs (legal_is (length bs) e).threes

-- ---- lengths

pub text_length : (bs : List ℕ) → length (tree_text bs) ≡ 5 + 9 * (node_count bs)
unfolding tree_text
text_length bs =
    let e = join_length (node_count bs) 9 (λ k. node_text (node_at bs k)) (λ k lt. refl) in
    length-append (tree_head_text (node_count bs)) (join_below (node_count bs) (λ k. node_text (node_at bs k))) ∙ ap (λ (m : ℕ). 5 + m) e

-- ---- the calls where nothing is refused

pub writes :
    (bs xs : List ℕ) → legal_length (length bs) ≡ true → length (tree_text bs) ≤ length xs → write_tree bs xs ≡ fine (length (tree_text bs))
unfolding write_tree answered first unless
writes bs xs e room = rw (e, leb_yes (length (tree_text bs)) (length xs) room)

pub reads_whole :
    (t : List ℕ) (n : ℕ) (xs : List ℕ) → read_nodes t ≡ fine n → most_bytes ≤ length xs → read_tree t xs ≡ fine n
unfolding read_tree answered first unless
reads_whole t n xs e long = rw (e, leb_yes most_bytes (length xs) long)

-- ---- bytes

value_byte : (s : List ℕ) (k : ℕ) → value_at s k < 256
value_byte s k = omega arith

pub bytes_in_bytes : (n : ℕ) (t : List ℕ) → Bytes (bytes_in n t)
unfolding join_below
bytes_in_bytes zero t = λ i. lit< tt
bytes_in_bytes (suc n) t =
    let s = drop (place n) t in
    bytes_append (bytes_in n t) (node_bytes (node_in s)) (bytes_in_bytes n t)
    (bytes (node_bytes (node_in s)) (value_byte s 1, (value_byte s 2, (value_byte s 3, tt))))

-- ---- texts that are refused

-- a fault of a tree text has one number, and no node is counted beside it
abbrev OneFault : ℕ → Type 0
OneFault n = (n ≡ 0) ⊎ (n ≡ refusal_number refusal.TreeText)

abbrev Refused : Answer ℕ → Type 0
Refused x = ¬ (x.fault ≡ 0) → x ≡ refused 0 refusal.TreeText

refused_so : (n a : ℕ) → OneFault n → Refused (answered 0 n a)
unfolding answered
refused_so n a (inl e) ne = absurd (ne e)
refused_so n a (inr e) ne = rw e

frame_refused : (w g : Bool) (a : ℕ) → Refused (answered 0 (frame_fault refusal.TreeText w refusal.TreeText g) a)
frame_refused w g a = refused_so _ a (frame_fault_of OneFault refusal.TreeText refusal.TreeText w g (inl refl) (inr refl) (inr refl))

head_refused : (s : List ℕ) → Refused (read_tree_head s)
unfolding read_tree_head
head_refused s = frame_refused _ _ _

node_refused : (n : ℕ) (s : List ℕ) → Refused (read_node n s)
unfolding read_node
node_refused n s = frame_refused _ _ _

end_refused : (n : ℕ) (s : List ℕ) → Refused (at_end 0 refusal.TreeText n s)
unfolding at_end
end_refused n s = refused_so _ n (unless_of OneFault (eqb (length s) 0) refusal.TreeText (inl refl) (inr refl))

pub nodes_refused : (t : List ℕ) → Refused (read_nodes t)
unfolding read_nodes
nodes_refused t =
    then_each Refused (read_tree_head t) _ (head_refused t) (λ n.
    run_each node_reader 4 (at_end 0 refusal.TreeText) Refused (λ n k. node_refused n) end_refused n 0 n (drop (frame_length 2) t))

-- ---- the call of reading, by the buffer's length

pub reads_with_room : (t xs : List ℕ) → most_bytes ≤ length xs → read_tree t xs ≡ read_nodes t
unfolding read_tree answered first unless
reads_with_room t xs long =
    by_test (eqb (read_nodes t).fault 0)
    (λ y. let r = reads t (eqb_is (read_nodes t).fault 0 y) in reads_whole t (value_at t 1) xs r.counted long ∙ sym r.counted)
    (λ z. rw (nodes_refused t (differs (read_nodes t).fault 0 z), leb_yes most_bytes (length xs) long))

pub reads_without_room : (t xs : List ℕ) → length xs < most_bytes → read_tree t xs ≡ refused 0 refusal.Buffer
unfolding read_tree answered first unless
reads_without_room t xs short = rw (leb_no most_bytes (length xs) (λ h. omega arith))

-- a fault other than 10 has room
pub room_of : (t xs : List ℕ) → ¬ ((read_tree t xs).fault ≡ refusal_number refusal.Buffer) → most_bytes ≤ length xs
room_of t xs other =
    by_cases (dec_lt (length xs) most_bytes)
    (λ short. absurd (other (ap (λ (x : Answer ℕ). x.fault) (reads_without_room t xs short))))
    (λ long. omega arith)
