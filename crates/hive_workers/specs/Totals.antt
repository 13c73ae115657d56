-- What the counts of all workers of a hall come to together.
use Rattle.std.specs.Prelude.{◌≡◌, ℕ, ◌<◌, []}
use Rattle.hive_hall.specs.Pass.{own, put, seen, took}
use Rattle.hive_hall.specs.declared.hall.Hall.{Hall}
use Rattle.hive_hall.specs.declared.pass.Pass.{Pass}
use Rattle.hive_workers.specs.Items.{count_at, is_done}
use Rattle.hive_workers.specs.Worked.{HasWorked}
use Rattle.hive_workers.specs.declared.ends.WorkerEnd.{WorkerEnd}
use Rattle.hive_workers.specs.declared.limits.TheConstants.{MOST_COUNTED}

-- one worker's run, with its pass before and after
pub record Run : Type 0 where
  pub end : WorkerEnd
  pub first : Pass
  pub last : Pass

-- it had a new pass, and all strays were counted
pub record IsNewRun (hall : Hall) (it : Run) : Type 0 where
  pub worked : HasWorked hall it.end it.first it.last
  pub owned_none : own it.first ≡ []
  pub put_none : put it.first ≡ []
  pub took_none : took it.first ≡ []
  pub counted : it.end.strays < MOST_COUNTED

-- how many Done entries the pass added
abbrev pub dones_of : Pass → ℕ
dones_of p = count_at is_done (seen p) (own p)

-- whoever has this pass queued and took nothing, as one who only admits and retires
abbrev pub HasKeptOut : Pass → Type 0
HasKeptOut p = (put p ≡ []) × (took p ≡ [])
