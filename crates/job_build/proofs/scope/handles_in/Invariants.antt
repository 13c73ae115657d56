use Rattle.std.proofs.Common.{◌≡◌, ◌++◌, drop, filter_map}
use Rattle.text_model.specs.JobAlgorithms.{handle_named}
use Rattle.job_build.proofs.scope.handles_in.Given as goal

abbrev pub invariant-loop-name : goal.invariant-loop-name
invariant-loop-name l = l.found.items ++ filter_map (handle_named l.scope) (drop l.name-index l.names) ≡ filter_map (handle_named l.scope) l.names
