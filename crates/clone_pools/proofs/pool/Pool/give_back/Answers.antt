use Rattle.std.proofs.Common.{None, subst, sym}
use Rattle.clone_pools.specs.Loans.{Pool}
use Rattle.clone_pools.specs.Room.{HasRoom}
use Rattle.clone_pools.proofs.Places.{same-count}
use Rattle.clone_pools.proofs.Rooms.{serves-room}
use Rattle.clone_pools.proofs.pool.Pool.give_back.Goals as goal

pub invariant_of-self : goal.invariant_of-self
invariant_of-self c =
    let room = serves-room c.args.self.now c.args.scratch c.requires.made_for in
    let here = subst (λ (p : Pool). HasRoom p.room c.args.scratch) (sym c.self.view_is) room in
    let same = same-count c.self.inside.instances.items c.put_scratch.new.instances.items c.in-Some.clone None c.put_scratch.ensures.places in
    (rw same c.self.invariant.0, c.put_scratch.ensures.kept c.self.inside.room here c.self.invariant.1)
