use Rattle.std.proofs.Common.{Some, None, sym, ◌∙◌}
use Rattle.csv.specs.Records.{fields_of}
use Rattle.event_records.proofs.QuotedCells.{cells_of-read}
use Rattle.event_records.proofs.cells.read_row.Goals as goal

pub returns-in-Ok-Some : goal.returns-in-Ok-Some
returns-in-Ok-Some c =
    sym (cells_of-read c.args.content.now (Some (fields_of c.in-Ok-Some.row)) c.requires (rw c.in-Ok-Some.field-0-is at c.in-Ok-Some.ensures))

pub returns-in-Ok-None : goal.returns-in-Ok-None
returns-in-Ok-None c =
    c.new.ensures.fields ∙ sym (cells_of-read c.args.content.now None c.requires (rw c.in-Ok-None.field-0-is at c.in-Ok-None.ensures))
