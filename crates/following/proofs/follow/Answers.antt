-- The invariant: where the crew stands leads to how far it comes in all. Only the checker need believe this file.
use mathlib.Core.Path.{◌≡◌, ap, ◌∙◌, subst}
use Prim.Native.Nat.{ℕ, ◌+◌, ◌*◌, ◌/◌, ◌<◌}
use native.Mathlib.Omega.{arith}
use lib.ListN.{length, drop, length-drop}
use lib.Seq.{drop-drop}
use Rattle.run.specs.declared.History.{History}
use Rattle.following.specs.Calls.{begun, after_calls}
use Rattle.following.specs.ThisRun.{the_run}
use Rattle.following.specs.Following.{calls_in, followed_record}
use Rattle.following.proofs.FollowLaws.{history_begun, stand_begins, steps_fit, stand_ends, stand_on, call_at, Stands}
use Rattle.following.proofs.follow.Goals as goal

pub loop-bytes-init : goal.loop-bytes-init
loop-bytes-init c = stand_begins _ _ _ _ _ c.begin-progress.ensures

pub after_call-progress-requires : goal.after_call-progress-requires
after_call-progress-requires c = steps_fit _ _ _ _ _ c.loop-bytes.invariant

pub loop-bytes-preserved : goal.loop-bytes-preserved
loop-bytes-preserved c =
    let bs = c.args.calls.now in
    let i = c.loop-bytes.bytes-index in
    let lt : i < length bs / 2 = omega (arith, c.as_chunks.ensures.front_len, c.loop-bytes-test.true) in
    let size = length-drop (2 * i) bs in
    let there : drop 2 (drop (2 * i) bs) ≡ drop (2 * (i + 1)) bs
    = let e : 2 * i + 2 ≡ 2 * (i + 1) = omega arith in drop-drop 2 (2 * i) bs ∙ ap (λ (j : ℕ). drop j bs) e in
    subst (Stands _ _ _ _) there
    (stand_on _ _ _ _ _ c.loop-bytes.invariant _ (call_at bs _ i _ c.as_chunks.ensures.front lt c.from.ensures) (omega arith) _
    c.after_call-progress.ensures)

pub returns : goal.returns
returns c =
    let a = c.args in
    let size = length-drop (2 * c.loop-bytes.bytes-index) a.calls.now in
    stand_ends _ _ _ _ _ c.loop-bytes.invariant (omega arith)
    ∙ ap (λ (h : History). followed_record (after_calls the_run a.plan a.nodes.now (begun h) (calls_in a.calls.now)))
    (history_begun _ _ c.begin-progress.ensures)
