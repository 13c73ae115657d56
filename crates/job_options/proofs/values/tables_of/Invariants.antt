use Rattle.std.proofs.Common.{◌≡◌, ◌++◌, drop, filter_map, map}
use Rattle.toml.specs.Data.{as_table}
use Rattle.toml.specs.View.{view}
use Rattle.job_options.specs.Seen.{tables_seen}
use Rattle.job_options.proofs.values.tables_of.Given as goal

abbrev pub invariant-loop-item : goal.invariant-loop-item
invariant-loop-item l =
    tables_seen l.found.items ++ filter_map as_table (map view (drop l.item-index l.items)) ≡ filter_map as_table (map view l.items)
