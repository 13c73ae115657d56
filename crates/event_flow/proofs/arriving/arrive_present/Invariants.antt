use Rattle.std.proofs.Common.{◌≡◌}
use Rattle.event_flow.proofs.Arrivals.{present}
use Rattle.event_flow.proofs.arriving.arrive_present.Given as goal

abbrev pub invariant-loop-handle : goal.invariant-loop-handle
invariant-loop-handle l = l.states ≡ present l.fn.states l.handle l.cells
