use Rattle.std.proofs.Common.{◌+◌, drop, ◌∙◌, arith}
use Rattle.text_model.specs.Timeline.{timeline}
use Rattle.hive_top.proofs.Pieces.{last_piece, next_piece}
use Rattle.gen_out.proofs.Pieces.{all_written, piece_broken, piece_next, piece_written}
use Rattle.hive_top.proofs.trace.send_journal.Goals as goal

pub send-requires : goal.send-requires
send-requires g c =
    piece_next g.T.Sink.got g.T.Sink.faults g.T.Sink.admits c.args.trace.now c.pieces.trace (timeline c.args.journal.now)
    (timeline (drop c.pieces.at c.args.journal.now)) c.as_slice.result.now
    (timeline (drop (c.pieces.at + c.min.result) c.args.journal.now)) (g.met.T.Sink.admits_front c.pieces.trace) c.pieces.invariant
    c.requires.room (next_piece c.args.journal.now c.pieces.at (c.pieces.at + c.min.result) c.as_slice.result.now
    (c.as_slice.ensures.value ∙ c.in-Ok.ensures) (omega arith))

pub returns-clause-bytes : goal.returns-clause-bytes
returns-clause-bytes g c =
    all_written g.T.Sink.got g.T.Sink.faults g.T.Sink.admits c.args.trace.now c.pieces.trace (timeline c.args.journal.now)
    (timeline (drop c.pieces.at c.args.journal.now)) c.pieces.invariant
    (last_piece c.args.journal.now c.pieces.at c.pieces-test.false)

pub pieces-preserved : goal.pieces-preserved
pieces-preserved g c =
    piece_written g.T.Sink.got g.T.Sink.faults g.T.Sink.admits c.args.trace.now c.pieces.trace c.send.new.sink
    (timeline c.args.journal.now) (timeline (drop c.pieces.at c.args.journal.now)) c.as_slice.result.now
    (timeline (drop (c.pieces.at + c.min.result) c.args.journal.now)) c.pieces.invariant
    (next_piece c.args.journal.now c.pieces.at (c.pieces.at + c.min.result) c.as_slice.result.now
    (c.as_slice.ensures.value ∙ c.in-Ok.ensures) (omega arith))
    c.in-Ok-send.ensures.bytes c.in-Ok-send.ensures.room c.in-Ok-send.ensures.cause

pub returns-in-Err-clause-broken : goal.returns-in-Err-clause-broken
returns-in-Err-clause-broken g c =
    piece_broken g.T.Sink.got g.T.Sink.faults g.T.Sink.admits c.args.trace.now c.pieces.trace c.send.new.sink
    (timeline c.args.journal.now) (timeline (drop c.pieces.at c.args.journal.now)) c.as_slice.result.now
    (timeline (drop (c.pieces.at + c.min.result) c.args.journal.now)) c.pieces.invariant
    (next_piece c.args.journal.now c.pieces.at (c.pieces.at + c.min.result) c.as_slice.result.now
    (c.as_slice.ensures.value ∙ c.in-Ok.ensures) (omega arith))
    c.in-Err.ensures.broken
