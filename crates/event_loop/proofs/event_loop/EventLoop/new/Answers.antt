use Rattle.event_loop.proofs.Loops.{begins-going, is-loop}
use Rattle.event_loop.proofs.event_loop.EventLoop.new.Goals as goal

pub invariant_of-result : goal.invariant_of-result
invariant_of-result c =
    begins-going _ _ c.from.result _ _ _ c.in_ok-desk.ensures.opening c.in_ok-desk.ensures.desk c.from.ensures
    c.in_ok-waiting.ensures c.new-3.ensures

pub returns-clause-is_loop : goal.returns-clause-is_loop
returns-clause-is_loop c = is-loop _ _ _ _ (invariant_of-result c).running
