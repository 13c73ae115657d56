use Rattle.std.proofs.Common.{◌-◌, drop, length}
use Rattle.text_model.specs.Timeline.{timeline}
use Rattle.gen_out.proofs.Pieces.{IsWritten}
use Rattle.hive_top.proofs.trace.send_journal.Given as goal

abbrev pub invariant-pieces : goal.invariant-pieces
invariant-pieces g l =
    IsWritten g.T.Sink.got g.T.Sink.faults g.T.Sink.admits l.fn.trace l.trace (timeline l.fn.journal)
    (timeline (drop l.at l.fn.journal))

abbrev pub decreases-pieces : goal.decreases-pieces
decreases-pieces g l = length l.fn.journal - l.at
