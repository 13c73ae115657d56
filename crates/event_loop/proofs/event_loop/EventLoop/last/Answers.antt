use Rattle.std.proofs.Common.{subst}
use Rattle.event_loop.proofs.Loops.{is-loop, seen}
use Rattle.event_loop.proofs.Rooms.{closes, closes-running, last-closed}
use Rattle.event_loop.proofs.event_loop.EventLoop.last.Goals as goal
use Rattle.event_loop.specs.Loop.{Closes, LoopState}

pub invariant_of-self : goal.invariant_of-self
invariant_of-self c =
    let says = c.last-said.ensures in
    record {
      running = closes-running _ _ _ _ _ c.last-said.result c.self.invariant.running says.says says.desk;
      last = last-closed _ _ _ _ _ c.last-said.result c.self.invariant.running says.says says.desk;
    }

pub returns-clause-closes : goal.returns-clause-closes
returns-clause-closes c =
    let it = c.self.inside in
    let says = c.last-said.ensures in
    subst (λ (x : LoopState). Closes x (seen c.last-said.new.self it.handed it.counts)) c.self.view_is
    (closes _ _ _ _ _ c.last-said.result c.self.invariant.running says.says says.desk)

pub returns-clause-is_loop : goal.returns-clause-is_loop
returns-clause-is_loop c = is-loop _ _ _ _ (invariant_of-self c).running
