-- The pools of a job: for each of its algorithms one, with the room that its executions need.
use Rattle.std.specs.Prelude.{◌≡◌, List, map}
use Rattle.hive_model.specs.Job.{Job}
use Rattle.clone_pools.specs.Loans.{Pool, Pools}
use Rattle.clone_pools.specs.Room.{room_of}
use Rattle.clone_pools.specs.declared.room.Room.{Room}

abbrev pub rooms_of : List Pool → List Room
rooms_of pools = map (λ (it : Pool). it.room) pools

abbrev pub ArePoolsOf : Job → Pools → Type 0
ArePoolsOf job it = rooms_of it.pools ≡ map room_of job.algorithms
