use Rattle.std.proofs.Common.{subst, sym}
use Rattle.hive_hall.proofs.Follows.{admit-follows}
use Rattle.hive_hall.proofs.Passes.{called, out, queues-none}
use Rattle.hive_hall.specs.Says.{AdmitHere}
use Rattle.hive_model.specs.Fits.{Fits}
use Rattle.hive_model.specs.Job.{Job}
use Rattle.hive_hall.proofs.hall.Hall.admit.Goals as goal

pub admit-answer-requires-clause-fits : goal.admit-answer-requires-clause-fits
admit-answer-requires-clause-fits g c =
    subst (λ (j : Job). Fits j c.args.event) (sym c.enter-board.ensures.job) c.requires.fits

pub leave-requires : goal.leave-requires
leave-requires g c =
    out c.args.self.now c.args.pass.now _ c.enter-board.result c.admit-answer.new.self c.enter-board.ensures
    (admit-follows _ _ _ _ c.args.event c.admit-answer.result c.admit-answer.ensures)

pub returns-clause-call : goal.returns-clause-call
returns-clause-call g c =
    called c.args.self.now (λ job slots. AdmitHere job slots c.args.event c.admit-answer.result)
    c.args.pass.now _ _ c.enter-board.result c.admit-answer.new.self c.requires.pass c.enter-board.ensures
    c.admit-answer.ensures c.leave.ensures

pub returns-clause-queue : goal.returns-clause-queue
returns-clause-queue g c =
    queues-none c.args.self.now _ _ _ c.enter-board.result c.admit-answer.new.self c.enter-board.ensures c.leave.ensures
