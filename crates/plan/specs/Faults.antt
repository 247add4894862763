-- Definitions: faults in their order, what is answered beside one, and what a call leaves in a lent buffer, as the computed answers have
-- it. Computed: pinned by `demand1` of demands/proofs/Demand1Theorem.antt.
use Rattle.std.specs.Prelude.{Bool, cond, List, ◌++◌, ℕ, ◌+◌, leb, eqb, length, drop}
use Rattle.std.proofs.lemmas.List.Edits.{sets}
use Rattle.plan.specs.declared.Refusal.{Refusal}
use Rattle.plan.specs.Refusal.{refusal_number}
use Rattle.plan.specs.Answer.{Answer}

-- A fault is the number of a refusal, and 0 is none. This one is found unless the test holds.
unfoldable pub unless : Bool → Refusal → ℕ
unless b r = cond b 0 (refusal_number r)

-- the first of two faults, in the order in which they are judged
unfoldable pub first : ℕ → ℕ → ℕ
first m n = cond (eqb m 0) n m

-- the value where there is no fault; beside a fault its place is all zero
unfoldable pub answered : {A : Type 0} → A → ℕ → A → Answer A
answered zeros n a = record { fault = n; value = cond (eqb n 0) a zeros }

-- what comes next is given the value; a refusal is handed on as it is
unfoldable pub and_then : {A : Type 0} → Answer A → (A → Answer A) → Answer A
and_then a next = cond (eqb a.fault 0) (next a.value) a

-- a lent buffer, before it xs, after a call that fills its front with these bytes: only they change, and none under a fault
unfoldable pub filled : ℕ → List ℕ → List ℕ → List ℕ
filled n bytes xs = cond (eqb n 0) (bytes ++ drop (length bytes) xs) xs

-- the buffer after bytes were put at a place; as it was where they do not fit there
abbrev pub put_at : List ℕ → ℕ → List ℕ → List ℕ
put_at xs at bytes = cond (leb (at + length bytes) (length xs)) (sets xs at bytes) xs
