use Rattle.std.proofs.Common.{ℕ, subst}
use Rattle.hive_hall.proofs.Follows.{claim-follows}
use Rattle.hive_hall.proofs.Passes.{called, out, queues-none, work-of-job}
use Rattle.hive_hall.specs.Pass.{history_of, number_of}
use Rattle.hive_hall.specs.Says.{ClaimHere}
use Rattle.hive_hall.proofs.hall.Hall.claim.Goals as goal

pub leave-requires : goal.leave-requires
leave-requires g c =
    out c.args.self.now c.args.pass.now _ c.enter-board.result c.claim-answer.new.self c.enter-board.ensures
    (claim-follows _ _ _ _ _ c.claim-answer.result c.claim-answer.ensures)

pub returns-clause-call : goal.returns-clause-call
returns-clause-call g c =
    called c.args.self.now (λ job slots. ClaimHere job slots (number_of c.args.pass.now) c.claim-answer.result)
    c.args.pass.now _ _ c.enter-board.result c.claim-answer.new.self c.requires.pass c.enter-board.ensures
    (subst (λ (n : ℕ). ClaimHere c.enter-board.result.desk.job c.enter-board.result.desk.slots n c.claim-answer.result
    (history_of c.enter-board.result) (history_of c.claim-answer.new.self)) c.enter-board.ensures.number
    c.claim-answer.ensures) c.leave.ensures

pub returns-clause-queue : goal.returns-clause-queue
returns-clause-queue g c =
    queues-none c.args.self.now _ _ _ c.enter-board.result c.claim-answer.new.self c.enter-board.ensures c.leave.ensures

pub returns-clause-of_job : goal.returns-clause-of_job
returns-clause-of_job g c =
    work-of-job c.args.self.now _ _ c.enter-board.result _ c.claim-answer.result _ c.enter-board.ensures
    c.claim-answer.ensures
