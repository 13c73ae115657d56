use Rattle.std.proofs.Common.{◌≡◌, length, take}
use Rattle.algo_states.specs.Table.{IsIndex, lists_of}
use Rattle.algo_states.proofs.founding.consumers_of.Given as goal

abbrev pub invariant-loop-number : goal.invariant-loop-number
invariant-loop-number l = record {
  lengths : length l.consumers.items ≡ l.handles;
  index : IsIndex (lists_of (take l.number l.needs)) (lists_of l.consumers.items);
}
