-- Handles of a job are numbered: raw handles first, then the outputs, algorithm by algorithm. Each has the kind that is written for it.
use Rattle.std.specs.Prelude.{ℕ, List, ◌++◌, length, map, Option}
use Rattle.std.specs.List.{flat_map, slice_get}
use Rattle.hive_model.specs.Algorithm.{Algorithm}
use Rattle.hive_model.specs.Job.{Job}
use Rattle.hive_model.specs.declared.algorithm.Raw.{Raw}
use Rattle.hive_model.specs.declared.algorithm.Output.{Output}
use Rattle.hive_model.specs.declared.product.Kind.{Kind}

-- the kinds of all handles, in handle order
abbrev pub output_kinds : Algorithm → List Kind
output_kinds a = map (λ (o : Output). o.kind) a.outputs

abbrev pub kinds_of : Job → List Kind
kinds_of job = map (λ (r : Raw). r.kind) job.raws ++ flat_map output_kinds job.algorithms

abbrev pub handle_count : Job → ℕ
handle_count job = length (kinds_of job)

abbrev pub kind_of : Job → ℕ → Option Kind
kind_of job handle = slice_get (kinds_of job) handle
