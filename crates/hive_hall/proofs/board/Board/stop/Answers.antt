use Rattle.std.proofs.Common.{List, Some, length, subst, sym, ◌∙◌}
use Rattle.hive_model.specs.History.{history}
use Rattle.hive_model.specs.declared.entry.Entry.{Entry}
use Rattle.scheduler_core.specs.declared.answers.Said.TheVariants.{Now}
use Rattle.hive_hall.specs.Says.{StopHere}
use Rattle.hive_hall.proofs.Steps.{stops-before, stops-now}
use Rattle.hive_hall.proofs.board.Board.stop.Goals as goal

pub returns-then-is_some : goal.returns-then-is_some
returns-then-is_some c = stops-before _ _ c.requires (sym c.is_some.ensures ∙ c.if-is_some.true)

pub returns : goal.returns
returns c =
    let d = c.args.self.now.desk in
    subst (λ (l : List Entry). StopHere d.job d.slots Now (history d c.args.self.now.stop) (history d (Some (length l))))
    (sym c.journal.ensures.entries) (stops-now d c.args.self.now.stop c.requires (sym c.is_some.ensures ∙ c.if-is_some.false))
