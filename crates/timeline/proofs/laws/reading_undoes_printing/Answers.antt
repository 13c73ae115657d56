use Rattle.timeline.proofs.RoundTrip.{printed_read, read_printed}
use Rattle.timeline.proofs.laws.reading_undoes_printing.Goals as goal

pub returns : goal.returns
returns c = record { read = printed_read; printed = read_printed }
