use Rattle.decision_nodes.specs.Marks.{marked}
use Rattle.decision_nodes.proofs.Marking.{top_marks}
use Rattle.hive_model.specs.declared.sequence.Member.TheVariants.{Seq}
use Rattle.decision_nodes.proofs.entering.enter_top.Goals as goal

pub returns-clause-marks : goal.returns-clause-marks
returns-clause-marks c =
    top_marks c.args.nodes.now c.args.top (marked c.args.marks.now) (marked c.mark.new.self) (marked c.enter_members.new.marks)
    c.mark.ensures c.enter_members.ensures.reaches c.enter_members.ensures.entered

pub returns-clause-top : goal.returns-clause-top
returns-clause-top c = c.enter_members.ensures.reaches.more (Seq c.args.top) c.mark.ensures.added
