use Rattle.std.proofs.Common.{◌+◌, ◌∙◌, subst}
use Rattle.event_loop.proofs.Loops.{goes-on, hands-out, is-loop, none-first, seen, turn-keeps, turn-running, turn-says}
use Rattle.event_loop.proofs.event_loop.EventLoop.turn.Goals as goal
use Rattle.event_loop.specs.Loop.{HandsOut, LoopState, TurnSays}

pub invariant_of-self : goal.invariant_of-self
invariant_of-self c = record {
  running = goes-on _ _ _ _ _ _ c.self.invariant.running c.in-Some.ensures;
  last = c.self.invariant.last;
}

pub returns-in-Some-clause-says : goal.returns-in-Some-clause-says
returns-in-Some-clause-says c =
    let it = c.self.inside in
    subst (λ (x : LoopState). HandsOut x c.in-Some.ended (seen it.desk (it.handed + 1) it.counts))
    c.self.view_is
    (hands-out _ _ _ _ _ _ c.self.invariant.running c.in-Some.ensures)

pub returns-in-Some-clause-is_loop : goal.returns-in-Some-clause-is_loop
returns-in-Some-clause-is_loop c = is-loop _ _ _ _ (invariant_of-self c).running

pub invariant_of-self-2 : goal.invariant_of-self-2
invariant_of-self-2 c =
    let k = none-first _ _ _ _ _ c.self.invariant.running c.in_default.ensures in
    let none = c.if-end_one.ensures in
    let says = c.run_one.ensures.says in
    record {
      running = turn-running _ _ _ _ _ _ _ _ c.run_one.result k.0 none says;
      last = turn-keeps _ _ _ _ _ _ _ c.run_one.result none says ∙ c.self.invariant.last;
    }

pub returns-clause-says : goal.returns-clause-says
returns-clause-says c =
    let it = c.self.inside in
    let k = none-first _ _ _ _ _ c.self.invariant.running c.in_default.ensures in
    subst (λ (x : LoopState). TurnSays x c.run_one.result
    (seen c.run_one.new.desk it.handed c.end_one.new.counts))
    c.self.view_is
    (turn-says _ _ _ _ _ _ _ _ c.run_one.result k.0 k.1 c.if-end_one.ensures c.run_one.ensures.says)
