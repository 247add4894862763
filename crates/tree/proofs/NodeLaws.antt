-- Laws of nodes as bytes: bytes are those of their nodes, and nodes those of their bytes. Only the checker need believe this file.
use mathlib.Core.Path.{◌≡◌, refl, sym, ap, ◌∙◌}
use mathlib.Core.Bool.{true, ◌&&◌}
use mathlib.Core.List.{List, [], ◌∷◌, ◌++◌}
use Prim.Native.Nat.{ℕ, zero, suc, ◌+◌, ◌*◌, ◌/◌, ◌%◌, ◌≤◌, ◌<◌}
use native.Mathlib.Omega.{arith}
use lib.Dec.{leb, eqb}
use lib.ListN.{length, get_or, drop}
use lib.Seq.{get_or-drop}
use Rattle.network.specs.Mask.{join_below}
use Rattle.network.proofs.Booleans.{and_left, and_right, and_make, leb_yes, leb_is, eqb_yes, eqb_is}
use Rattle.network.proofs.JoinLaws.{join_first, join_length, join_cong, drop_to_piece}
use Rattle.tree.specs.declared.Node.{Node}
use Rattle.tree.specs.Nodes.{most_bytes, legal_length}
use Rattle.tree.specs.Parts.{node_bytes, node_at}
use Rattle.tree.specs.Parts.{most_nodes}

abbrev pub nodes_bytes : ℕ → (ℕ → Node) → List ℕ
nodes_bytes n f = join_below n (λ k. node_bytes (f k))

pub nodes_length : (n : ℕ) (f : ℕ → Node) → length (nodes_bytes n f) ≡ 3 * n
nodes_length n f = join_length n 3 (λ k. node_bytes (f k)) (λ k lt. refl)

-- node k of the bytes of nodes is node k
pub node_of_bytes : (n : ℕ) (f : ℕ → Node) (k : ℕ) → k < n → node_at (nodes_bytes n f) k ≡ f k
node_of_bytes n f k lt =
    let e = drop_to_piece n 3 (λ i. node_bytes (f i)) (λ i l. refl) k lt in
    let at : (j : ℕ) → get_or (nodes_bytes n f) (3 * k + j) 0 ≡ get_or (node_bytes (f k) ++ e.0) j 0 =
    λ j. sym (get_or-drop (3 * k) (nodes_bytes n f) j 0) ∙ ap (λ (l : List ℕ). get_or l j 0) e.1
    in
    let z : 3 * k ≡ 3 * k + 0 = omega arith in
    rw (ap (λ (i : ℕ). get_or (nodes_bytes n f) i 0) z ∙ at 0, at 1, at 2)

node_next : (a b c : ℕ) (bs : List ℕ) (k : ℕ) → node_at (a ∷ b ∷ c ∷ bs) (suc k) ≡ node_at bs k
node_next a b c bs k =
    let e : 3 * suc k ≡ suc (suc (suc (3 * k))) = omega arith in
    let f : 3 * suc k + 1 ≡ suc (suc (suc (3 * k + 1))) = omega arith in
    let g : 3 * suc k + 2 ≡ suc (suc (suc (3 * k + 2))) = omega arith in
    rw (g, f, e)

-- bytes are those of their nodes
pub bytes_of_nodes : (n : ℕ) (bs : List ℕ) → length bs ≡ 3 * n → nodes_bytes n (node_at bs) ≡ bs
unfolding join_below
bytes_of_nodes zero [] e = refl
bytes_of_nodes zero (a ∷ bs) e = absurd (omega arith)
bytes_of_nodes (suc n) [] e = absurd (omega arith)
bytes_of_nodes (suc n) (a ∷ []) e = absurd (omega arith)
bytes_of_nodes (suc n) (a ∷ b ∷ []) e = absurd (omega arith)
bytes_of_nodes (suc n) (a ∷ b ∷ c ∷ bs) e =
    join_first n (λ k. node_bytes (node_at (a ∷ b ∷ c ∷ bs) k))
    ∙ ap (λ (l : List ℕ). a ∷ b ∷ c ∷ l)
    (join_cong n _ _ (λ k lt. ap node_bytes (node_next a b c bs k)) ∙ bytes_of_nodes n bs (omega arith))

-- bytes begin with those of their first node
pub front_node : (bs : List ℕ) → 3 ≤ length bs → bs ≡ node_bytes (node_at bs 0) ++ drop 3 bs
front_node [] h = absurd (omega arith)
front_node (a ∷ []) h = absurd (omega arith)
front_node (a ∷ b ∷ []) h = absurd (omega arith)
front_node (a ∷ b ∷ c ∷ bs) h = refl

-- ---- legal lengths

pub record IsLegal (n : ℕ) : Type 0 where
  pub threes : n ≡ 3 * (n / 3)
  pub some : 1 ≤ n / 3
  pub most : n / 3 ≤ most_nodes

pub legal_is : (n : ℕ) → legal_length n ≡ true → IsLegal n
unfolding legal_length
legal_is n e =
    let a = and_left (eqb (n % 3) 0 && leb 3 n) (leb n most_bytes) e in
    let t = eqb_is (n % 3) 0 (and_left (eqb (n % 3) 0) (leb 3 n) a) in
    let s = leb_is 3 n (and_right (eqb (n % 3) 0) (leb 3 n) a) in
    let m = leb_is n most_bytes (and_right (eqb (n % 3) 0 && leb 3 n) (leb n most_bytes) e) in
    record { threes = omega arith; some = omega arith; most = omega arith }

pub legal_make : (k : ℕ) → 1 ≤ k → k ≤ most_nodes → legal_length (3 * k) ≡ true
unfolding legal_length
legal_make k s m =
    and_make
    (and_make (eqb_yes (3 * k % 3) 0 (omega arith)) (leb_yes 3 (3 * k) (omega arith)))
    (leb_yes (3 * k) most_bytes (omega arith))
