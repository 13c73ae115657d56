use Rattle.event_loop.proofs.Loops.{is-loop}
use Rattle.event_loop.proofs.event_loop.EventLoop.resume.Goals as goal

pub returns-clause-is_loop : goal.returns-clause-is_loop
returns-clause-is_loop c = is-loop _ _ _ _ c.requires.running
