use Rattle.std.proofs.Common.{◌≡◌, ◌≤◌, ◌+◌, ◌++◌}
use Rattle.event_flow.specs.Telling.{ends_by}
use Rattle.event_flow.proofs.telling.tell_ends.Given as goal

abbrev pub invariant-loop-number : goal.invariant-loop-number
invariant-loop-number l = record {
  told : l.into.items ≡ l.fn.into.items ++ ends_by l.tree l.states l.number;
  room : l.count ≤ l.into.spare + l.number;
}
