use Rattle.std.proofs.Common.{◌≡◌}
use Rattle.event_flow.specs.Steps.{flagged}
use Rattle.event_flow.proofs.arriving.arrive_all.Given as goal

abbrev pub invariant-loop-place : goal.invariant-loop-place
invariant-loop-place l = l.states ≡ record l.fn.states { arrived = flagged l.first l.place l.fn.states.arrived }
