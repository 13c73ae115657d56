use Rattle.std.proofs.Common.{subst, sym}
use Rattle.hive_hall.proofs.Follows.{back-follows}
use Rattle.hive_hall.proofs.Passes.{called, out, queues-none}
use Rattle.hive_hall.specs.Says.{BackHere}
use Rattle.expr_code.specs.Claim.{IsOfJob}
use Rattle.hive_model.specs.Job.{Job}
use Rattle.hive_hall.proofs.hall.Hall.back.Goals as goal

pub back-answer-requires-clause-of_job : goal.back-answer-requires-clause-of_job
back-answer-requires-clause-of_job g c =
    subst (λ (j : Job). IsOfJob j c.args.value) (sym c.enter-board.ensures.job) c.requires.of_job

pub leave-requires : goal.leave-requires
leave-requires g c =
    out c.args.self.now c.args.pass.now _ c.enter-board.result c.back-answer.new.self c.enter-board.ensures
    (back-follows _ _ _ _ c.args.value c.back-answer.result c.back-answer.ensures)

pub returns-clause-call : goal.returns-clause-call
returns-clause-call g c =
    called c.args.self.now (λ job slots. BackHere job slots c.args.value c.back-answer.result)
    c.args.pass.now _ _ c.enter-board.result c.back-answer.new.self c.requires.pass c.enter-board.ensures
    c.back-answer.ensures c.leave.ensures

pub returns-clause-queue : goal.returns-clause-queue
returns-clause-queue g c =
    queues-none c.args.self.now _ _ _ c.enter-board.result c.back-answer.new.self c.enter-board.ensures c.leave.ensures
