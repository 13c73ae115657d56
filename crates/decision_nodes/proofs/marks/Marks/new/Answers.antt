use Rattle.decision_nodes.proofs.Marking.{none_marked}
use Rattle.decision_nodes.proofs.marks.Marks.new.Goals as goal

pub returns : goal.returns
returns c = none_marked _ c.new.ensures c.new-2.ensures
