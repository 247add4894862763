-- `search`: the turns' part is put back and what they left behind the tree is cleared. Only the checker need believe this file.
use mathlib.Core.Path.{◌≡◌, sym, ap, ◌∙◌, subst}
use mathlib.Core.List.{◌++◌}
use Prim.Native.Nat.{ℕ, ◌*◌, ◌≤◌}
use native.Mathlib.Omega.{arith}
use lib.ListN.{length, take, drop}
use borrow.Author.Rules.{rules}
use lib.Seq.{length-take-le, length_front}
use Rattle.std.specs.Prelude.{Option, Some, Err}
use Rattle.network.specs.Game.{start}
use Rattle.plan.specs.Plan.{network_of}
use Rattle.plan.specs.WellFormed.{WellFormed}
use Rattle.judge.proofs.WellFormedLaws.{fine_exactly}
use Rattle.turns.specs.Turns.{AgentFinds}
use Rattle.search.specs.Searched.{searched_answer}
use Rattle.search.proofs.CodeLaws.{too_short, plan_refused, turns_lost, turns_won, tree_fits}
use Rattle.search.proofs.search.Goals as goal
use Rattle.search.proofs.search.Goals.{After-from_start, In-Some, In_ok-judge}

pub returns-then-buf-lt573 : goal.returns-then-buf-lt573
returns-then-buf-lt573 c =
    let e = too_short c.args.plan c.args.buf.now c.if-buf-lt573.true in
    record { answer = e.0; buffer = e.1 }

pub returns-in_err-judge : goal.returns-in_err-judge
returns-in_err-judge c =
    let a = c.args in
    let r = c.in_err-judge.field-0.0 in
    let same : c.from_residual.result ≡ Err r = grind arith in
    let e = plan_refused a.plan a.buf.now (omega arith) r c.in_err-judge.ensures in
    record { answer = ap searched_answer same ∙ e.0; buffer = e.1 }

-- the judge found no fault
well_formed : (c : In_ok-judge) → WellFormed c.args.plan
well_formed c = (fine_exactly c.args.plan).0 (sym c.in_ok-judge.ensures)

pub from_start-requires : goal.from_start-requires
from_start-requires c =
    let l = length-take-le 573 c.args.buf.now (omega arith) in
    (well_formed (goal.at.from_start-requires c).In_ok-judge, omega arith)

-- what the turns found where it is a tree
won : (c : In-Some) →
    let a = c.args in
    let es = c.from_start.new.buf in
    AgentFinds (network_of a.plan) (start (network_of a.plan)) (Some c.in-Some.n) (take 573 a.buf.now) es
won c =
    let a = c.args in
    let f = c.from_start in
    subst (λ (r : Option ℕ). AgentFinds (network_of a.plan) (start (network_of a.plan)) r (take 573 a.buf.now) f.new.buf)
    c.in-Some.is f.ensures

fits : (c : In-Some) (wf : WellFormed c.args.plan) → 3 * c.in-Some.n ≤ 573
fits c wf =
    let a = c.args in
    let f = tree_fits a.plan a.buf.now (omega arith) wf _ _ (won c) in
    omega arith

-- the buffer is as long as it was
same : (c : After-from_start) →
    let b = c.args.buf.now in
    length (c.from_start.new.buf ++ drop 573 b) ≡ length b
same c =
    let r = c.from_start in
    length_front c.args.buf.now r.new.buf 573 r.auto.buf

pub slice_bounds-fill-end-in_default : goal.slice_bounds-fill-end-in_default
slice_bounds-fill-end-in_default c =
    let b = c.args.buf.now in
    let r = c.from_start in
    let l = same (goal.at.slice_bounds-fill-end-in_default c).After-from_start in
    sym (length-take-le _ (r.new.buf ++ drop 573 b) (omega arith))

pub returns-in_default : goal.returns-in_default
returns-in_default c =
    let a = c.args in
    let r = c.from_start in
    let wf = well_formed (goal.at.returns-in_default c).In_ok-judge in
    let e =
    turns_lost a.plan a.buf.now (omega arith) wf r.new.buf c.fill.new.self
    (subst (λ (x : Option ℕ). AgentFinds (network_of a.plan) (start (network_of a.plan)) x (take 573 a.buf.now) r.new.buf)
    c.in_default.is r.ensures)
    (search rules) in
    record { answer = e.0; buffer = e.1 }

pub overflow_mul-n : goal.overflow_mul-n
overflow_mul-n c =
    let f = fits (goal.at.overflow_mul-n c).In-Some (well_formed (goal.at.overflow_mul-n c).In_ok-judge) in
    omega arith

pub slice_bounds-fill-count : goal.slice_bounds-fill-count
slice_bounds-fill-count c =
    let f = fits (goal.at.slice_bounds-fill-count c).In-Some (well_formed (goal.at.slice_bounds-fill-count c).In_ok-judge) in
    omega arith

pub slice_bounds-fill-start : goal.slice_bounds-fill-start
slice_bounds-fill-start c =
    let f = fits (goal.at.slice_bounds-fill-start c).In-Some (well_formed (goal.at.slice_bounds-fill-start c).In_ok-judge) in
    omega arith

pub slice_bounds-fill-end-2 : goal.slice_bounds-fill-end-2
slice_bounds-fill-end-2 c =
    let f = fits (goal.at.slice_bounds-fill-end-2 c).In-Some (well_formed (goal.at.slice_bounds-fill-end-2 c).In_ok-judge) in
    let e = same (goal.at.slice_bounds-fill-end-2 c).After-from_start in
    omega arith

pub overflow_cast-result : goal.overflow_cast-result
overflow_cast-result c =
    let f = fits (goal.at.overflow_cast-result c).In-Some (well_formed (goal.at.overflow_cast-result c).In_ok-judge) in
    omega arith

pub returns : goal.returns
returns c =
    let a = c.args in
    let wf = well_formed (goal.at.returns c).In_ok-judge in
    let e = turns_won a.plan a.buf.now (omega arith) wf _ _ (won (goal.at.returns c).In-Some) c.fill-2.new.self (search rules) in
    record { answer = e.0; buffer = e.1 }
