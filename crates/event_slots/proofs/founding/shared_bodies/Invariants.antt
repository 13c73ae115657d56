use Rattle.std.proofs.Common.{◌≡◌, map, take}
use Rattle.std.specs.Arc.{arc_value}
use Rattle.event_slots.proofs.founding.shared_bodies.Given as goal

abbrev pub invariant-loop-algorithm : goal.invariant-loop-algorithm
invariant-loop-algorithm l = map arc_value l.bodies.items ≡ take l.algorithm-index l.algorithms
