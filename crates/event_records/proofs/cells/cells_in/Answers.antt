use Rattle.std.proofs.Common.{◌≡◌, ◌<◌, ◌∷◌, [], ◌++◌, length, sym, arith}
use Rattle.csv.proofs.RecordFacts.{field-there}
use Rattle.csv.specs.Records.{fields_of}
use Rattle.event_records.proofs.QuotedCells.{cell-pushed}
use Rattle.event_records.proofs.cells.cells_in.Goals as goal
use Rattle.event_records.proofs.cells.cells_in.Goals.{in-Some+in_ok-push-in-Some, in-None}

pub loop-index-preserved : goal.loop-index-preserved
loop-index-preserved c =
    let fields = fields_of c.args.row.now in
    let i = c.loop-index.index in
    let lt : i < length fields = omega (arith, c.len-index-end.ensures) in
    elim c.match-get.branch [
      | in-Some+in_ok-push-in-Some w ↦
          let grown : c.match-get.cells.items ≡ c.loop-index.cells.items ++ w.in-Some.cell ∷ [] = cc (w.in_ok-push-in-Some.ensures.items) in
          cell-pushed c.loop-index.cells.items c.match-get.cells.items w.in-Some.cell fields i lt c.loop-index.invariant (w.in-Some.ensures.value) grown
      | in-None w ↦ absurd (field-there fields i lt (sym w.in-None.ensures.value))
    ]
