use Rattle.std.proofs.Common.{length}
use Rattle.gen_out.proofs.Pieces.{IsWritten}
use Rattle.hive_gen.specs.EventTexts.{records_text}
use Rattle.gen_out.proofs.sending.send_records.Given as goal

abbrev pub invariant-pieces : goal.invariant-pieces
invariant-pieces g l =
    IsWritten g.K.Sink.got g.K.Sink.faults g.K.Sink.admits l.fn.sink l.sink
    (records_text l.fn.start l.fn.events) l.generator

abbrev pub decreases-pieces : goal.decreases-pieces
decreases-pieces g l = length l.generator
