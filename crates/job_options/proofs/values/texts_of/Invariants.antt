use Rattle.std.proofs.Common.{◌≡◌, ◌++◌, drop, filter_map, map}
use Rattle.toml.specs.Data.{as_str}
use Rattle.toml.specs.View.{view}
use Rattle.job_options.proofs.values.texts_of.Given as goal

abbrev pub invariant-loop-item : goal.invariant-loop-item
invariant-loop-item l = l.found.items ++ filter_map as_str (map view (drop l.item-index l.items)) ≡ filter_map as_str (map view l.items)
