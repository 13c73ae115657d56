use Rattle.std.proofs.Common.{◌≡◌, ℕ, ◌≤◌, true, List, ◌++◌, drop}
use Rattle.std.specs.List.{count_by}
use Rattle.hive_model.specs.declared.sequence.Member.{Member}
use Rattle.decision_nodes.specs.Marks.{marked, sequences_of}
use Rattle.decision_nodes.specs.Standing.{is_open}
use Rattle.decision_nodes.specs.Telling.{IsUnderWay}
use Rattle.decision_nodes.specs.declared.edge.Edge.{Edge}
use Rattle.decision_nodes.proofs.telling.+tell_all.Given as goal

abbrev pub decreases-tell_all : goal.decreases-tell_all
decreases-tell_all l = count_by is_open l.nodes.now.items

abbrev pub invariant-loop-edge : goal.invariant-loop-edge
invariant-loop-edge l =
    record {
      same : sequences_of l.nodes.items ≡ sequences_of l.fn.nodes.items;
      less : count_by is_open l.nodes.items ≤ count_by is_open l.fn.nodes.items;
      more : (m : Member) → marked l.fn.marks m ≡ true → marked l.marks m ≡ true;
      tells : (top : ℕ) (rest : List Edge)
          → IsUnderWay l.fn.nodes.items l.outcomes (l.edges ++ rest) top (marked l.fn.marks)
          → IsUnderWay l.nodes.items l.outcomes (drop l.edge-index l.edges ++ rest) top (marked l.marks);
    }
