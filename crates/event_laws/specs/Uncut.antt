-- A job without cut nodes: no sequence of it has `cut`.
use Rattle.std.specs.Prelude.{◌≡◌, false}
use Rattle.std.specs.List.{AllByRecursion}
use Rattle.hive_model.specs.Job.{Job}
use Rattle.hive_model.specs.Sequence.{Sequence}

abbrev pub HasNoCut : Job → Type 0
HasNoCut job = AllByRecursion (λ (q : Sequence). q.cut ≡ false) job.sequences
