use Rattle.std.proofs.Common.{◌≡◌, ℕ, ◌<◌, Some, slice_get}
use Rattle.decision_nodes.specs.Marks.{sequences_of}
use Rattle.decision_nodes.specs.Standing.{Standing, fresh}
use Rattle.decision_nodes.proofs.table.clear_nodes.Given as goal

abbrev pub invariant-loop-number : goal.invariant-loop-number
invariant-loop-number l =
    record {
      same : sequences_of l.nodes.items ≡ sequences_of l.fn.nodes.items;
      cleared : (i : ℕ) (n : Standing) → i < l.number → slice_get l.nodes.items i ≡ Some n → n ≡ fresh n.sequence;
    }
