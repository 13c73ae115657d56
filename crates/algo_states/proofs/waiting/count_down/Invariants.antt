use Rattle.std.proofs.Common.{◌≡◌, ◌+◌, ℕ, length, take}
use Rattle.std.specs.Prelude.{slice_index}
use Rattle.algo_states.specs.Table.{IsReadySet, mentions}
use Rattle.algo_states.proofs.waiting.count_down.Given as goal

abbrev pub invariant-loop-consumer : goal.invariant-loop-consumer
invariant-loop-consumer l = record {
  lengths : length l.missing.items ≡ length l.fn.missing.items;
  counts : (a : ℕ) → slice_index l.missing.items a + mentions a (take l.consumer-index l.consumers) ≡ slice_index l.fn.missing.items a;
  set : IsReadySet l.reached l.scheduled l.outcomes l.missing.items l.ready;
}
