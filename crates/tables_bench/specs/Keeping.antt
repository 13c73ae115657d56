-- What is kept beside the tables of an event: how its algorithms ended, and which handles have arrived.
use Rattle.std.specs.Prelude.{◌≡◌, length}
use Rattle.hive_model.specs.Job.{Job}
use Rattle.tables_bench.specs.declared.event.Event.{Event}

abbrev pub IsKept : Job → Event → Type 0
IsKept job it =
    (it.outcomes.items ≡ it.tree.outcomes)
    × (it.arrived.items ≡ it.states.arrived)
    × (length it.states.needs ≡ length job.algorithms)
