-- A hall with a loop and its workers, as it is opened.
use Rattle.std.specs.Prelude.{◌≡◌, ℕ, ◌+◌, ◌<◌, [], All, length}
use Rattle.hall_loop.specs.Beside.{HoldsNothing, IsBeside, given_of}
use Rattle.hall_loop.specs.declared.hall_loop.HallLoop.{HallLoop}
use Rattle.hive_hall.specs.Pass.{IsPassOf, job_of, own, passes_of, slots_of}
use Rattle.hive_hall.specs.declared.hall.Hall.{Hall}
use Rattle.hive_hall.specs.declared.pass.Pass.{Pass}
use Rattle.hive_model.specs.Job.{Job}
use Rattle.hive_model.specs.Many.{Many}

-- the pass is this hall's, and has added nothing
pub record IsNewWorker (hall : Hall) (p : Pass) : Type 0 where
  pub pass : IsPassOf hall p
  pub none : own p ≡ []

-- these are all passes of the hall but one, and there is room for that
pub record AreNewWorkers (hall : Hall) (workers : Many Pass) : Type 0 where
  pub all : length workers.items + 1 ≡ passes_of hall
  pub new : All (IsNewWorker hall) workers.items
  pub room : 0 < workers.spare

pub record IsOpened (job : Job) (slots count : ℕ) (hall : Hall) (workers : Many Pass) (it : HallLoop) : Type 0 where
  pub job_is : job_of hall ≡ job
  pub slots_are : slots_of hall ≡ slots
  pub count_is : length workers.items ≡ count
  pub new : AreNewWorkers hall workers
  pub beside : IsBeside hall it
  pub none : given_of it ≡ []
  pub none_handed : it.handed ≡ 0
  pub none_held : HoldsNothing hall it.pass
