use Rattle.hive_model.specs.Decision.{decision}
use Rattle.hive_model.specs.declared.sequence.Member.TheVariants.{Seq}
use Rattle.serial_meaning.proofs.Joined.{numbered_more}
use Rattle.serial_meaning.proofs.decision.decisions_of.Goals as goal

pub loop-number-preserved : goal.loop-number-preserved
loop-number-preserved c =
    numbered_more (λ s. decision c.args.job.now c.args.outcomes.now (Seq s)) c.loop-number.decisions.items
    c.push.new.self.items c.loop-number.number _
    c.loop-number.invariant c.in_ok-push.ensures.items c.in_ok-sequence_decision.ensures
