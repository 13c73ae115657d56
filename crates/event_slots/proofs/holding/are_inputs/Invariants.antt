use Rattle.std.proofs.Common.{◌≤◌, length, map}
use Rattle.std.specs.Arc.{arc_value}
use Rattle.event_slots.proofs.Comparing.{IsAsRest}
use Rattle.event_slots.proofs.holding.are_inputs.Given as goal

abbrev pub invariant-loop-handle : goal.invariant-loop-handle
invariant-loop-handle l = record {
  few : l.count ≤ length l.inputs;
  rest : IsAsRest (map arc_value l.inputs) l.store l.handles l.count l.handle-index;
}
