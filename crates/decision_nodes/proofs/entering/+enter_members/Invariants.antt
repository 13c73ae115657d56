use Rattle.decision_nodes.specs.Marks.{AreMarkedBetween, Reaches, marked}
use Rattle.decision_nodes.proofs.entering.+enter_members.Given as goal

abbrev pub decreases-enter_members : goal.decreases-enter_members
decreases-enter_members l = l.depth

abbrev pub invariant-loop-place : goal.invariant-loop-place
invariant-loop-place l =
    record {
      reaches : Reaches l.nodes (marked l.fn.marks) (marked l.marks);
      entered : AreMarkedBetween l.nodes (marked l.marks) l.sequence l.from l.place;
    }
