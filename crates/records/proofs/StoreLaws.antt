-- Laws of the loops that store bytes. Only the checker need believe this file.
use mathlib.Core.Path.{◌≡◌, refl, sym, ap, ◌∙◌}
use mathlib.Core.List.{List, ◌++◌, append_assoc}
use Prim.Native.Nat.{ℕ, ◌+◌, ◌≤◌, ◌<◌}
use native.Mathlib.Omega.{arith}
use borrow.Author.Tests.{le-leb, lt-leb}
use lib.ListN.{length, set, take, drop, length-append, length-set}
use borrow.Rule.Slice.PartMut.{put_mid}
use lib.Seq.{sets, sets-eq, drop-drop}
use Rattle.network.proofs.JoinLaws.{join_length}
use Rattle.plan.specs.declared.Plan.{Plan}
use Rattle.plan.specs.Plan.{letter_at, constraint_at}
use Rattle.plan.specs.Faults.{put_at}
use Rattle.frame.proofs.WritingLaws.{sets_append}
use Rattle.run.specs.declared.History.{History}
use Rattle.records.specs.Records.{letter_bytes, constraint_bytes, head_bytes, letters_bytes, constraints_bytes, plan_bytes, history_bytes}

-- ---- bytes stored one after the other

-- there is room, or none
pub put_there : (xs : List ℕ) (at : ℕ) (b : List ℕ) → at + length b ≤ length xs → sets xs at b ≡ put_at xs at b
put_there xs at b h = rw (le-leb (at + length b) (length xs) h)

pub no_room : (xs : List ℕ) (at : ℕ) (b : List ℕ) → length xs < at + length b → xs ≡ put_at xs at b
no_room xs at b h = rw (lt-leb (at + length b) (length xs) h)

-- a part of a buffer that was copied over
pub put_part : (xs : List ℕ) (at n : ℕ) (b ys : List ℕ) → at + length b ≤ length xs → n ≡ length b → ys ≡ b → put_mid at n xs ys ≡ put_at xs at b
put_part xs at n b ys h long same =
    let behind : drop n (drop at xs) ≡ drop (at + n) xs = drop-drop n at xs in
    let one : put_mid at n xs ys ≡ sets xs at b = rw (same, behind, long) (sym (sets-eq b xs at h ∙ append_assoc (take at xs) b (drop (at + length b) xs))) in
    one ∙ put_there xs at b h

-- a history: its count, then its masks
pub history_put :
    (xs : List ℕ) (h : History) → length h.masks ≡ 8 → 9 ≤ length xs → put_at (set xs 0 h.count) 1 h.masks ≡ put_at xs 0 (history_bytes h)
history_put xs h long room =
    let ys = set xs 0 h.count in
    let same : length ys ≡ length xs = length-set xs 0 h.count in
    sym (put_there ys 1 h.masks (omega arith)) ∙ put_there xs 0 (history_bytes h) (omega arith)

-- a plan: its three parts one behind the other
pub letters_length : (p : Plan) → length (letters_bytes p) ≡ 12
letters_length p = join_length 6 2 (λ i. letter_bytes (letter_at p i)) (λ i lt. refl)

constraints_length : (p : Plan) → length (constraints_bytes p) ≡ 384
constraints_length p = join_length 64 6 (λ j. constraint_bytes (constraint_at p j)) (λ j lt. refl)

pub plan_length_lem : (p : Plan) → length (plan_bytes p) ≡ 400
unfolding plan_bytes
plan_length_lem p =
    let few = letters_length p in
    let c = constraints_length p in
    let e = length-append (letters_bytes p) (constraints_bytes p) in
    length-append (head_bytes p) (letters_bytes p ++ constraints_bytes p) ∙ omega arith

pub plan_put :
    (xs : List ℕ) (p : Plan) {h l ys : List ℕ} → 400 ≤ length xs → h ≡ put_at xs 0 (head_bytes p) → l ≡ sets h 4 (letters_bytes p) →
    ys ≡ sets l 16 (constraints_bytes p) → ys ≡ put_at xs 0 (plan_bytes p)
unfolding plan_bytes
plan_put xs p {h} room a b c =
    let head : h ≡ sets xs 0 (head_bytes p) = a ∙ sym (put_there xs 0 (head_bytes p) (omega arith)) in
    let few = letters_length p in
    let long = plan_length_lem p in
    c
    ∙ ap (λ (ys : List ℕ). sets ys 16 (constraints_bytes p)) (b ∙ ap (λ (ys : List ℕ). sets ys 4 (letters_bytes p)) head)
    ∙ ap (λ (k : ℕ). sets (sets (sets xs 0 (head_bytes p)) 4 (letters_bytes p)) (4 + k) (constraints_bytes p)) (sym few)
    ∙ sym (sets_append (sets xs 0 (head_bytes p)) 4 (letters_bytes p) (constraints_bytes p))
    ∙ sym (sets_append xs 0 (head_bytes p) (letters_bytes p ++ constraints_bytes p))
    ∙ put_there xs 0 (head_bytes p ++ letters_bytes p ++ constraints_bytes p) (omega arith)
