use Rattle.std.proofs.Common.{length, ◌-◌}
use Rattle.hive_edge.proofs.Sending.{IsSent}
use Rattle.hive_edge.proofs.sink.send.Given as goal

abbrev pub invariant-pieces : goal.invariant-pieces
invariant-pieces g l =
    IsSent g.K.Sink.got g.K.Sink.faults g.K.Sink.admits l.fn.sink l.sink l.piece l.at

abbrev pub decreases-pieces : goal.decreases-pieces
decreases-pieces g l = length l.piece - l.at
