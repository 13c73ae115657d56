use Rattle.std.proofs.Common.{refl}
use Rattle.hall_loop.proofs.Recalls.{enters-none, enters-one, recalled-less}
use Rattle.hive_model.specs.declared.entry.Entry.TheVariants as entry
use Rattle.hive_workers.specs.Items.{is_back}
use Rattle.hall_loop.proofs.settling.recall_all.Goals as goal

pub claims-init : goal.claims-init
claims-init c = (enters-none is_back c.args.desk.now, c.requires.desk)

pub claims-smaller : goal.claims-smaller
claims-smaller c = recalled-less c.claims.desk c.recall.new.self c.in-Put.ensures.says c.in-Put.ensures.desk

pub claims-preserved : goal.claims-preserved
claims-preserved c =
    let it = c.in-Put.ensures.says in (
      enters-one is_back c.args.desk.now c.claims.desk c.recall.new.self (entry.Back it.ticket) c.claims.invariant.0
          it.appended refl,
      c.in-Put.ensures.desk,
    )
