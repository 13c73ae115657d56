use Rattle.std.proofs.Common.{◌≡◌, ◌≤◌, ◌+◌, ◌++◌}
use Rattle.event_flow.specs.Telling.{decisions_by}
use Rattle.event_flow.proofs.telling.tell_decisions.Given as goal

abbrev pub invariant-loop-sequence : goal.invariant-loop-sequence
invariant-loop-sequence l = record {
  told : l.into.items ≡ l.fn.into.items ++ decisions_by l.tree l.sequence;
  room : l.nodes ≤ l.into.spare + l.sequence;
}
