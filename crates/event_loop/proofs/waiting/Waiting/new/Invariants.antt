use Rattle.std.proofs.Common.{◌≡◌, None, replicate}
use Rattle.std.specs.VecDeque.{deque_capacity, deque_len}
use Rattle.event_loop.proofs.waiting.Waiting.new.Given as goal

abbrev pub invariant-loop : goal.invariant-loop
invariant-loop l = record {
  items_are : l.items.items ≡ replicate l.counter None;
  as_many : deque_len l.items ≡ l.counter;
  room : deque_capacity l.items ≡ l.count;
}
