use Rattle.std.proofs.Common.{◌≡◌, length, take}
use Rattle.decision_nodes.specs.Index.{IsIndex}
use Rattle.decision_nodes.proofs.founding.index_of.Given as goal

abbrev pub invariant-loop-number : goal.invariant-loop-number
invariant-loop-number l =
    record {
      is_index : IsIndex (take l.number l.sequences) l.index.leaves l.index.parents;
      all_leaves : length l.index.leaves ≡ l.algorithms;
      all_parents : length l.index.parents ≡ length l.sequences;
    }
