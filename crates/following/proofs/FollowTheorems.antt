-- Theorems on lists of calls as bytes: every list has its bytes, and following them is making those calls. Read the statements; only the
-- checker need believe the proofs.
use mathlib.Core.Path.{◌≡◌, refl, ap}
use mathlib.Core.List.{List, [], ◌∷◌}
use Prim.Native.Nat.{ℕ}
use lib.ListN.{length}
use Rattle.plan.specs.declared.Plan.{Plan}
use Rattle.run.specs.declared.History.{History}
use Rattle.following.specs.declared.Followed.{Followed}
use Rattle.following.specs.Calls.{Call, showing, reporting, begun, after_calls}
use Rattle.following.specs.ThisRun.{the_run}
use Rattle.following.specs.Following.{calls_in, followed_record}

-- the bytes of a list of calls
abbrev pub bytes_of : List Call → List ℕ
bytes_of [] = []
bytes_of (showing ∷ calls) = 0 ∷ 0 ∷ bytes_of calls
bytes_of (reporting o ∷ calls) = 1 ∷ o ∷ bytes_of calls

pub reads_back : (calls : List Call) → calls_in (bytes_of calls) ≡ calls
unfolding calls_in
reads_back [] = refl
reads_back (showing ∷ calls) = ap (λ (l : List Call). showing ∷ l) (reads_back calls)
reads_back (reporting o ∷ calls) = ap (λ (l : List Call). reporting o ∷ l) (reads_back calls)

-- What `follow` hands back for them: the history that those calls leave, and how many steps they follow.
module _
    (p : Plan) (tree : List ℕ) (h : History) (calls : List Call) (r : Followed)
    (promised : r ≡ followed_record (after_calls the_run p tree (begun h) (calls_in (bytes_of calls)))) where
  pub history_left : r.history ≡ (after_calls the_run p tree (begun h) calls).history
  unfolding followed_record
  history_left = rw (promised, reads_back calls)

  pub steps_counted : r.count ≡ length (after_calls the_run p tree (begun h) calls).steps
  unfolding followed_record
  steps_counted = rw (promised, reads_back calls)
