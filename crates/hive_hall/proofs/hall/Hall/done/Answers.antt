use Rattle.std.proofs.Common.{subst, sym}
use Rattle.hive_hall.proofs.Follows.{done-follows}
use Rattle.hive_hall.proofs.Passes.{called, out, queues-none}
use Rattle.hive_hall.specs.Says.{DoneHere}
use Rattle.expr_code.specs.Claim.{IsOfJob}
use Rattle.hive_model.specs.Job.{Job}
use Rattle.hive_hall.proofs.hall.Hall.done.Goals as goal

pub done-answer-requires-clause-of_job : goal.done-answer-requires-clause-of_job
done-answer-requires-clause-of_job g c =
    subst (λ (j : Job). IsOfJob j c.args.value.claim) (sym c.enter-board.ensures.job) c.requires.of_job

pub leave-requires : goal.leave-requires
leave-requires g c =
    out c.args.self.now c.args.pass.now _ c.enter-board.result c.done-answer.new.self c.enter-board.ensures
    (done-follows _ _ _ _ c.args.value c.done-answer.result c.done-answer.ensures)

pub returns-clause-call : goal.returns-clause-call
returns-clause-call g c =
    called c.args.self.now (λ job slots. DoneHere job slots c.args.value c.done-answer.result)
    c.args.pass.now _ _ c.enter-board.result c.done-answer.new.self c.requires.pass c.enter-board.ensures
    c.done-answer.ensures c.leave.ensures

pub returns-clause-queue : goal.returns-clause-queue
returns-clause-queue g c =
    queues-none c.args.self.now _ _ _ c.enter-board.result c.done-answer.new.self c.enter-board.ensures c.leave.ensures
