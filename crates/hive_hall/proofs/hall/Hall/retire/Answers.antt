use Rattle.hive_hall.proofs.Follows.{retire-follows}
use Rattle.hive_hall.proofs.Passes.{called, out, queues-none}
use Rattle.hive_hall.specs.Says.{RetireHere}
use Rattle.hive_hall.proofs.hall.Hall.retire.Goals as goal

pub leave-requires : goal.leave-requires
leave-requires g c =
    out c.args.self.now c.args.pass.now _ c.enter-board.result c.retire-answer.new.self c.enter-board.ensures
    (retire-follows _ _ _ _ c.retire-answer.result c.retire-answer.ensures)

pub returns-clause-call : goal.returns-clause-call
returns-clause-call g c =
    called c.args.self.now (λ job slots. RetireHere job slots c.retire-answer.result)
    c.args.pass.now _ _ c.enter-board.result c.retire-answer.new.self c.requires.pass c.enter-board.ensures
    c.retire-answer.ensures c.leave.ensures

pub returns-clause-queue : goal.returns-clause-queue
returns-clause-queue g c =
    queues-none c.args.self.now _ _ _ c.enter-board.result c.retire-answer.new.self c.enter-board.ensures c.leave.ensures
