use Rattle.std.proofs.Common.{◌≡◌, ◌≤◌, ℕ, List, [], replicate}
use Rattle.algo_states.specs.Table.{lists_of}
use Rattle.algo_states.proofs.founding.no_consumers.Given as goal

abbrev none : List ℕ
none = []

abbrev pub invariant-loop-handle : goal.invariant-loop-handle
invariant-loop-handle l = (lists_of l.consumers.items ≡ replicate l._handle none) × (l._handle ≤ l.handles)
