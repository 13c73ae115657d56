use Rattle.std.proofs.Common.{◌≡◌, ◌++◌, drop, filter_map}
use Rattle.text_model.specs.Names.{number_of}
use Rattle.job_build.proofs.scope.resource_numbers.Given as goal

abbrev pub invariant-loop-name : goal.invariant-loop-name
invariant-loop-name l = l.found.items ++ filter_map (number_of l.resources) (drop l.name-index l.names) ≡ filter_map (number_of l.resources) l.names
