use Rattle.std.proofs.Common.{◌≡◌, ◌≢◌, ◌+◌, ◌<◌, ℕ, [], length, take}
use Rattle.std.specs.Prelude.{slice_index_or}
use Rattle.algo_states.specs.Table.{lists_of, mentions}
use Rattle.algo_states.proofs.founding.add_consumer.Given as goal

abbrev pub invariant-loop-handle : goal.invariant-loop-handle
invariant-loop-handle l = record {
  lengths : length l.consumers.items ≡ length l.fn.consumers.items;
  same : (h : ℕ) → h < length l.fn.consumers.items →
      mentions l.number (slice_index_or (lists_of l.consumers.items) h [])
      ≡ mentions l.number (slice_index_or (lists_of l.fn.consumers.items) h []) + mentions h (take l.handle-index l.inputs);
  others : (a h : ℕ) → a ≢ l.number →
      mentions a (slice_index_or (lists_of l.consumers.items) h []) ≡ mentions a (slice_index_or (lists_of l.fn.consumers.items) h []);
}
