use Rattle.gen_out.proofs.Pieces.{piece-is, piece_broken, piece_next, piece_written}
use Rattle.hive_gen.specs.EventTexts.{records_text}
use Rattle.gen_out.proofs.sending.send_records.Goals as goal

pub send-requires : goal.send-requires
send-requires g c =
    let is =
    piece-is _ _ c.as_slice.result.now c.pieces.generator c.push_piece.new.self c.clear.ensures.items
    c.as_slice.ensures.value c.in-Ok.ensures.text in
    piece_next g.K.Sink.got g.K.Sink.faults g.K.Sink.admits c.args.sink.now c.pieces.sink
    (records_text c.args.start c.args.events)
    c.pieces.generator c.as_slice.result.now c.push_piece.new.self (g.met.K.Sink.admits_front c.pieces.sink)
    c.pieces.invariant c.requires.room is

pub pieces-preserved : goal.pieces-preserved
pieces-preserved g c =
    let is =
    piece-is _ _ c.as_slice.result.now c.pieces.generator c.push_piece.new.self c.clear.ensures.items
    c.as_slice.ensures.value c.in-Ok.ensures.text in
    piece_written g.K.Sink.got g.K.Sink.faults g.K.Sink.admits c.args.sink.now c.pieces.sink c.send.new.sink
    (records_text c.args.start c.args.events)
    c.pieces.generator c.as_slice.result.now c.push_piece.new.self
    c.pieces.invariant is c.in-Ok-send.ensures.bytes c.in-Ok-send.ensures.room c.in-Ok-send.ensures.cause

pub returns-in-Err-send-clause-broken : goal.returns-in-Err-send-clause-broken
returns-in-Err-send-clause-broken g c =
    let is =
    piece-is _ _ c.as_slice.result.now c.pieces.generator c.push_piece.new.self c.clear.ensures.items
    c.as_slice.ensures.value c.in-Ok.ensures.text in
    piece_broken g.K.Sink.got g.K.Sink.faults g.K.Sink.admits c.args.sink.now c.pieces.sink c.send.new.sink
    (records_text c.args.start c.args.events)
    c.pieces.generator c.as_slice.result.now c.push_piece.new.self
    c.pieces.invariant is c.in-Err-send.ensures.broken
