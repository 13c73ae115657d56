use Rattle.std.proofs.Common.{◌≡◌, ◌+◌, ◌++◌, drop, map}
use Rattle.job_options.specs.Found.{refusal_from}
use Rattle.job_options.specs.Seen.{tables_seen}
use Rattle.job_options.proofs.row.read_rows.Given as goal

abbrev pub invariant-loop-index : goal.invariant-loop-index
invariant-loop-index g l =
    (refusal_from g.T.Row.keys l.array (l.index + 1) (tables_seen (drop l.index l.tables))
    ≡ refusal_from g.T.Row.keys l.array 1 (tables_seen l.tables))
    × (l.rows.items ++ map g.T.Row.said (tables_seen (drop l.index l.tables)) ≡ map g.T.Row.said (tables_seen l.tables))
