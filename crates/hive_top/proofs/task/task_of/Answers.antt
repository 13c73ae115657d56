use Rattle.std.proofs.Common.{Some, subst, sym, ap, ◌≡◌, ◌∙◌}
use Rattle.hive_model.specs.Same.{texts}
use Rattle.hive_top.specs.Tasks.{IsTask}
use Rattle.hive_top.specs.Words.{file_of}
use Rattle.hive_top.specs.declared.commands.Command.TheVariants.{Bulk}
use Rattle.hive_top.proofs.task.task_of.Goals as goal

pub returns-in-Some-Bulk-clause-is : goal.returns-in-Some-Bulk-clause-is
returns-in-Some-Bulk-clause-is g c =
    let e : c.args.asked ≡ Some (Bulk c.in-Some-Bulk.input c.in-Some-Bulk.concurrency) =
    c.in-Some-Bulk.is ∙ ap Some (rw c.in-Some-Bulk.is at c.in-Some-Bulk.field-0-is) in
    subst (λ asked. IsTask asked (file_of (texts c.args.words.now)) (g.F.Shelf.files c.args.shelf.now)
    (g.F.Shelf.faults c.args.shelf.now) (g.F.Shelf.faults c.args.shelf.now) c.generated.result) (sym e) (c.generated.ensures _ _ _)
