use Rattle.std.proofs.Common.{sym}
use Rattle.hive_model.specs.Reached.{passes}
use Rattle.hive_model.specs.declared.decision.Decision.TheVariants.{True}
use Rattle.decision_nodes.proofs.Counting.{passed_more, passed_end, passed_all}
use Rattle.decision_nodes.proofs.deciding.count_passed.Goals as goal

pub loop-place-preserved : goal.loop-place-preserved
loop-place-preserved c =
    passed_more (passes c.args.sequence.now) c.args.states.now c.loop-place.place True c.loop-place.invariant c.loop-place-test.true
    (sym c.if-passes.ensures)

pub returns-else-passes : goal.returns-else-passes
returns-else-passes c =
    passed_end (passes c.args.sequence.now) c.args.states.now c.loop-place.place True c.loop-place.invariant c.loop-place-test.true
    (sym c.if-passes.ensures)

pub returns-after-loop-place : goal.returns-after-loop-place
returns-after-loop-place c =
    passed_all (passes c.args.sequence.now) c.args.states.now c.loop-place.place c.loop-place.invariant c.loop-place-test.false
