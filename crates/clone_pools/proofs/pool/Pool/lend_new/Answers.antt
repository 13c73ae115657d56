use Rattle.std.proofs.Common.{◌+◌, ap, refl, subst}
use Rattle.clone_pools.specs.Loans.{Pool}
use Rattle.clone_pools.specs.Room.{HasRoom}
use Rattle.clone_pools.proofs.Rooms.{serves-all}
use Rattle.clone_pools.proofs.pool.Pool.lend_new.Goals as goal

pub returns-in-Ok : goal.returns-in-Ok
returns-in-Ok c place = (
  record {
    algorithm = refl;
    free = c.requires;
    made_for = serves-all c.args.self.now c.in-Ok.scratch (subst (λ (p : Pool). HasRoom p.room c.in-Ok.scratch) c.self.view_is c.in-Ok.ensures.room);
    inputs = c.in-Ok.ensures.inputs;
  },
  ap (λ (p : Pool). record p { running = p.running + 1 }) c.self.view_is,
)
