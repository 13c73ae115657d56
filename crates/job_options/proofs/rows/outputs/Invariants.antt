use Rattle.std.proofs.Common.{◌≡◌, ◌++◌, drop, map}
use Rattle.text_model.specs.TableValues.{output_of}
use Rattle.job_options.specs.Seen.{tables_seen}
use Rattle.job_options.proofs.rows.outputs.Given as goal

abbrev pub invariant-loop-table : goal.invariant-loop-table
invariant-loop-table l =
    l.found.items ++ map output_of (tables_seen (drop l.table-index l.tables)) ≡ map output_of (tables_seen l.tables)
