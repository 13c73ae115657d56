use Rattle.std.proofs.Common.{◌-◌, length, take, drop, sym, subst}
use Rattle.std.proofs.lemmas.List.{take_rest}
use Rattle.hive_edge.proofs.Sending.{sent_next, sent_more, sent_broken}
use Rattle.hive_edge.proofs.sink.send.Goals as goal

pub write-requires-clause-room : goal.write-requires-clause-room
write-requires-clause-room g c =
    subst (g.K.Sink.admits c.pieces.sink) (sym (take_rest c.args.piece.now c.pieces.at))
    (sent_next _ _ _ _ _ _ _ c.pieces.invariant c.requires)

pub pieces-preserved : goal.pieces-preserved
pieces-preserved g c =
    sent_more g.K.Sink.got g.K.Sink.faults g.K.Sink.admits c.args.sink.now c.pieces.sink c.write.new.self c.args.piece.now
    (take (length c.args.piece.now - c.pieces.at) (drop c.pieces.at c.args.piece.now)) c.pieces.at c.in-Ok.count
    c.pieces.invariant (take_rest c.args.piece.now c.pieces.at) c.in-Ok.ensures.count.1 c.in-Ok.ensures.bytes c.in-Ok.ensures.room c.in-Ok.ensures.cause

pub returns-in-Err-clause-broken : goal.returns-in-Err-clause-broken
returns-in-Err-clause-broken g c =
    sent_broken g.K.Sink.got g.K.Sink.faults g.K.Sink.admits c.args.sink.now c.pieces.sink c.write.new.self c.args.piece.now c.pieces.at
    c.pieces.invariant c.in-Err.ensures.bytes c.in-Err.ensures.room
