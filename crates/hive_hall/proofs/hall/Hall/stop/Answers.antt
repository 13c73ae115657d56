use Rattle.hive_hall.proofs.Follows.{stop-follows}
use Rattle.hive_hall.proofs.Passes.{called, out, queues-none}
use Rattle.hive_hall.specs.Says.{StopHere}
use Rattle.hive_hall.proofs.hall.Hall.stop.Goals as goal

pub leave-requires : goal.leave-requires
leave-requires g c =
    out c.args.self.now c.args.pass.now _ c.enter-board.result c.stop-answer.new.self c.enter-board.ensures
    (stop-follows _ _ _ _ c.stop-answer.result c.stop-answer.ensures)

pub returns-clause-call : goal.returns-clause-call
returns-clause-call g c =
    called c.args.self.now (λ job slots. StopHere job slots c.stop-answer.result)
    c.args.pass.now _ _ c.enter-board.result c.stop-answer.new.self c.requires.pass c.enter-board.ensures
    c.stop-answer.ensures c.leave.ensures

pub returns-clause-queue : goal.returns-clause-queue
returns-clause-queue g c =
    queues-none c.args.self.now _ _ _ c.enter-board.result c.stop-answer.new.self c.enter-board.ensures c.leave.ensures
