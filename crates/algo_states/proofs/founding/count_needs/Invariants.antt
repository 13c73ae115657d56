use Rattle.std.proofs.Common.{◌≡◌, ◌<◌, ℕ, [], length}
use Rattle.std.specs.Prelude.{slice_index, slice_index_or}
use Rattle.algo_states.specs.Table.{lists_of}
use Rattle.algo_states.proofs.founding.count_needs.Given as goal

abbrev pub invariant-loop-number : goal.invariant-loop-number
invariant-loop-number l = record {
  lengths : length l.missing.items ≡ length l.needs;
  counts : (k : ℕ) → k < l.number → slice_index l.missing.items k ≡ length (slice_index_or (lists_of l.needs) k []);
}
