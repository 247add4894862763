-- `from_start`: the start is proper, and 573 bytes are room enough. Only the checker need believe this file.
use mathlib.Core.Path.{◌≡◌, sym, ap, ◌∙◌, subst}
use mathlib.Core.Bool.{true}
use native.Mathlib.Omega.{arith}
use Rattle.network.specs.Game.{State, start}
use Rattle.network.specs.FirstMoves.{CanBeWon}
use Rattle.plan.specs.Plan.{network_of}
use Rattle.game.specs.Position.{state_of, Proper}
use Rattle.game.proofs.PositionLaws.{start_is, start_proper}
use Rattle.turns.specs.Turns.{most, AgentFinds}
use Rattle.turns.proofs.TurnLaws.{lost_unwritten}
use Rattle.search.proofs.CodeLaws.{start_fits}
use Rattle.search.proofs.from_start.Goals as goal
use Rattle.search.proofs.from_start.Goals.{After-start-at}

-- the position is the start of the game
at-start : (c : After-start-at) → state_of c.args.plan c.start-at.result ≡ start (network_of c.args.plan)
at-start c = ap (state_of c.args.plan) c.start-at.ensures ∙ start_is c.args.plan c.requires.0

proper : (c : After-start-at) → Proper c.args.plan c.start-at.result
proper c = rw c.start-at.ensures (start_proper c.args.plan c.requires.0)

pub returns-then-lost : goal.returns-then-lost
returns-then-lost c =
    let f = start_fits c.args.plan c.requires.0 in
    let g = c.requires.1 in
    let yes : c.lost.result ≡ true = c.if-lost.true in
    lost_unwritten (network_of c.args.plan) (start (network_of c.args.plan)) c.args.buf.now (omega arith)
    (λ won. c.lost.ensures c.requires.0 (proper (goal.at.returns-then-lost c).After-start-at) yes (subst (CanBeWon (network_of c.args.plan)) (sym (at-start (goal.at.returns-then-lost c).After-start-at)) won))

pub agent-requires : goal.agent-requires
agent-requires c =
    let f = start_fits c.args.plan c.requires.0 in
    let e = ap (most (network_of c.args.plan)) (at-start (goal.at.agent-requires c).After-start-at) in
    let g = c.requires.1 in
    (c.requires.0, proper (goal.at.agent-requires c).After-start-at, omega arith)

pub returns : goal.returns
returns c =
    let a = c.args in
    let r = c.agent in
    let e = at-start (goal.at.returns c).After-start-at in
    subst (λ (s : State). AgentFinds (network_of a.plan) s r.result a.buf.now r.new.buf) e r.ensures
