-- A table of states and what a row keeps beside it: the number of algorithms, and which handles have arrived.
use Rattle.std.specs.Prelude.{◌≡◌, Bool, List, length}
use Rattle.hive_model.specs.Job.{Job}
use Rattle.algo_states.specs.States.{States}

abbrev pub IsTableOf : Job → States → Type 0
IsTableOf job table = length table.needs ≡ length job.algorithms

abbrev pub Follows : Job → States → List Bool → Type 0
Follows job table arrived = IsTableOf job table × (arrived ≡ table.arrived)
