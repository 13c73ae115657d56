use Rattle.std.proofs.Common.{◌≡◌, ℕ, drop}
use Rattle.std.specs.List.{flat_map}
use Rattle.decision_nodes.specs.Marks.{marked, sequences_of}
use Rattle.decision_nodes.specs.Telling.{IsUnderWay}
use Rattle.decision_nodes.proofs.telling.begin.Given as goal

abbrev pub invariant-loop-number : goal.invariant-loop-number
invariant-loop-number l =
    record {
      same : sequences_of l.nodes.items ≡ sequences_of l.fn.nodes.items;
      tells : (top : ℕ) → IsUnderWay l.fn.nodes.items l.outcomes (flat_map (λ them. them) l.parents) top (marked l.fn.marks)
          → IsUnderWay l.nodes.items l.outcomes (flat_map (λ them. them) (drop l.number l.parents)) top (marked l.marks);
    }
