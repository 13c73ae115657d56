use Rattle.std.proofs.Common.{List, subst, sym}
use Rattle.hall_loop.proofs.Settlements.{all-of}
use Rattle.hive_hall.specs.Closing.{AreAllOf}
use Rattle.hive_hall.specs.declared.pass.Pass.{Pass}
use Rattle.hall_loop.proofs.settling.close.Goals as goal

pub close-requires : goal.close-requires
close-requires c = record {
  all = subst (λ (l : List Pass). AreAllOf c.args.hall l) (sym c.in-Ok.ensures.ok)
      (all-of c.args.hall c.args.workers c.args.pass c.requires.workers c.requires.pass);
}
